-- A map from names as a finite map.
use Rattle.std.proofs.Common.{◌≡◌, ℕ, Bool, true, false, cond, List, [], ◌∷◌, Vec, Global, refl, sym, ◌∙◌, ap, subst, arith, Ordering}
use Rattle.std.specs.Prelude.{ℤ, Option, None, Some, is_some, is_none, not}
use Rattle.std.specs.declared.cmp.Ordering.TheVariants.{Less, Equal, Greater}
use Rattle.std.specs.Ordering.{nat_cmp, eq_by_cmp, match_ordering, is_eq}
use Rattle.std.specs.Cmp.Lexicographic.{slice_cmp, nat_list_cmp_total}
use Rattle.std.specs.BTreeMap.{insert_entry, is_at}
use Rattle.std.specs.Map.{lookup}
use Rattle.std.specs.FinMap.{find, get, insert, from_entries, get-insert, get-from_entries, same_map}
use Rattle.std.proofs.lemmas.Map.Lookups.{exact_bytes}
use Rattle.avr_text.specs.Names.{named}
use Rattle.std.proofs.lemmas.Bool.Decides.{nat_tests}

-- keys are compared by their bytes
abbrev pub by_bytes : Vec ℕ Global → Vec ℕ Global → Ordering
by_bytes a b = slice_cmp nat_cmp a.items b.items

find_name : (es : List (Vec ℕ Global × ℤ)) (q : List ℕ) → find (slice_cmp nat_cmp) q (named es) ≡ lookup
    (λ (k : Vec ℕ Global). is_at (λ (x : Vec ℕ Global). slice_cmp nat_cmp q x.items) k) es
find_name [] q = refl
find_name (e ∷ es) q = ap (cond (eq_by_cmp (slice_cmp nat_cmp) q e.0.items) (Some e.1)) (find_name es q)

-- what the map has at a name
pub get_name : (es : List (Vec ℕ Global × ℤ)) (q : List ℕ) → get (from_entries {R = slice_cmp nat_cmp} (named es)) q ≡ lookup
    (λ (k : Vec ℕ Global). is_at (λ (x : Vec ℕ Global). slice_cmp nat_cmp q x.items) k) es
get_name es q = get-from_entries nat_list_cmp_total (named es) q ∙ find_name es q

not_there : (o : Option ℤ) → is_none o ≡ not (is_some o)
not_there None = refl
not_there (Some x) = refl

-- whether the map lacks a name
pub lacks_name : (es : List (Vec ℕ Global × ℤ)) (q : List ℕ) (b : Bool)
    → b ≡ is_some (lookup (λ (k : Vec ℕ Global). is_at (λ (x : Vec ℕ Global). slice_cmp nat_cmp q x.items) k) es)
    → is_none (get (from_entries {R = slice_cmp nat_cmp} (named es)) q) ≡ not b
lacks_name es q b e = not_there (get (from_entries {R = slice_cmp nat_cmp} (named es)) q) ∙ ap not (ap is_some (get_name es q) ∙ sym e)

equal_of : (o : Ordering) → is_eq o ≡ true → o ≡ Equal
equal_of Equal e = refl
equal_of other e = absurd cc

same_name : (x y : List ℕ) → eq_by_cmp (slice_cmp nat_cmp) x y ≡ true → x ≡ y
same_name x y e = exact_bytes x y (equal_of (slice_cmp nat_cmp x y) e)

twice : (b : Bool) (v x : ℤ) (rest : Option ℤ) → cond b (Some v) rest ≡ cond b (Some v) (cond b (Some x) rest)
twice true v x rest = refl
twice false v x rest = refl

swapped : (a b : Bool) (v x : ℤ) (rest : Option ℤ) → (a ≡ true → b ≡ true → ⊥) → cond a (Some x) (cond b (Some v) rest) ≡ cond b (Some v)
    (cond a (Some x) rest)
swapped true true v x rest apart = absurd (apart refl refl)
swapped other further v x rest apart = refl

-- no name is both of two that aren't equal
apart : (q k n : List ℕ) → slice_cmp nat_cmp k n ≡ Greater → eq_by_cmp (slice_cmp nat_cmp) q n ≡ true → eq_by_cmp (slice_cmp nat_cmp) q
    k ≡ true → ⊥
apart q k n above at_n at_k = grind (arith, nat_tests, equal_of, same_name q k at_k)

-- an entry goes to its place in the order
inserted : (es : List (Vec ℕ Global × ℤ)) (k : Vec ℕ Global) (v : ℤ) (q : List ℕ) → find (slice_cmp nat_cmp) q
    (named (insert_entry by_bytes es k v)) ≡ cond (eq_by_cmp (slice_cmp nat_cmp) q k.items) (Some v) (find (slice_cmp nat_cmp) q (named es))
inserted [] k v q = refl
inserted (e ∷ es) k v q =
    elim (slice_cmp nat_cmp k.items e.0.items) as (λ o. slice_cmp nat_cmp k.items e.0.items ≡ o → find (slice_cmp nat_cmp) q
    (named (match_ordering o ((k, v) ∷ e ∷ es) ((e.0, v) ∷ es) (e ∷ insert_entry by_bytes es k v))) ≡ cond
    (eq_by_cmp (slice_cmp nat_cmp) q k.items) (Some v) (cond (eq_by_cmp (slice_cmp nat_cmp) q e.0.items) (Some e.1)
    (find (slice_cmp nat_cmp) q (named es)))) [
      | Less ↦ λ o. refl
      | Equal ↦ λ o. subst (λ n. cond (eq_by_cmp (slice_cmp nat_cmp) q e.0.items) (Some v) (find (slice_cmp nat_cmp) q (named es)) ≡ cond
          (eq_by_cmp (slice_cmp nat_cmp) q n) (Some v) (cond (eq_by_cmp (slice_cmp nat_cmp) q e.0.items) (Some e.1)
          (find (slice_cmp nat_cmp) q (named es)))) (sym (exact_bytes k.items e.0.items o))
          (twice (eq_by_cmp (slice_cmp nat_cmp) q e.0.items) v e.1 (find (slice_cmp nat_cmp) q (named es)))
      | Greater ↦ λ o. ap (cond (eq_by_cmp (slice_cmp nat_cmp) q e.0.items) (Some e.1)) (inserted es k v q) ∙ swapped _ _ v e.1
          (find (slice_cmp nat_cmp) q (named es)) (apart q k.items e.0.items o)
    ] refl

-- the map after an entry is put in
pub put_name : (es : List (Vec ℕ Global × ℤ)) (k : Vec ℕ Global) (v : ℤ) → from_entries {R = slice_cmp nat_cmp}
    (named (insert_entry by_bytes es k v)) ≡ insert (from_entries (named es)) k.items v
put_name es k v = same_map nat_list_cmp_total exact_bytes _ _ (λ q.
    get-from_entries nat_list_cmp_total (named (insert_entry by_bytes es k v)) q ∙ inserted es k v q
    ∙ ap (cond (eq_by_cmp (slice_cmp nat_cmp) q k.items) (Some v)) (sym (get-from_entries nat_list_cmp_total (named es) q))
    ∙ sym (get-insert nat_list_cmp_total (from_entries (named es)) k.items v q))

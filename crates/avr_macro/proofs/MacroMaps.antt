-- A map from names to bodies as a finite map.
use Rattle.std.proofs.Common.{◌≡◌, ℕ, Bool, true, false, cond, List, [], ◌∷◌, Vec, Global, refl, sym, ◌∙◌, ap, subst, Option, None, Some}
use Rattle.std.specs.Option.{option_map, option_copied}
use Rattle.std.specs.Borrow.{Bor}
use Rattle.std.specs.declared.cmp.Ordering.{Ordering}
use Rattle.std.specs.declared.cmp.Ordering.TheVariants.{Less, Equal, Greater}
use Rattle.std.specs.Ordering.{nat_cmp, eq_by_cmp, match_ordering, is_eq}
use Rattle.std.specs.Cmp.Lexicographic.{slice_cmp, nat_list_cmp_total}
use Rattle.std.specs.BTreeMap.{insert_entry, is_at}
use Rattle.std.specs.Map.{lookup}
use Rattle.std.specs.FinMap.{find, get, insert, from_entries, get-insert, get-from_entries, same_map}
use Rattle.std.proofs.lemmas.Map.Lookups.{exact_bytes}
use Rattle.avr_macro.specs.declared.bodies.Macro.{Macro}
use Rattle.avr_macro.specs.Macros.{named, seen_macro}
use Rattle.avr_macro.specs.States.{MacroMap}

-- keys are compared by their bytes
abbrev pub by_bytes : Vec ℕ Global → Vec ℕ Global → Ordering
by_bytes a b = slice_cmp nat_cmp a.items b.items

either : (b : Bool) (body : Macro) (o : Option (Macro)) → cond b (Some (seen_macro body))
    (option_map seen_macro o) ≡ option_map seen_macro (cond b (Some body) o)
either true body o = refl
either false body o = refl

find_name : (es : List (Vec ℕ Global × Macro)) (q : List ℕ) → find (slice_cmp nat_cmp) q (named es) ≡ option_map seen_macro
    (lookup (λ (k : Vec ℕ Global). is_at (λ (x : Vec ℕ Global). slice_cmp nat_cmp q x.items) k) es)
find_name [] q = refl
find_name (e ∷ es) q = ap (cond (eq_by_cmp (slice_cmp nat_cmp) q e.0.items) (Some (seen_macro e.1))) (find_name es q) ∙ either _ _ _

-- what the map has at a name
pub get_name : (es : List (Vec ℕ Global × Macro)) (q : List ℕ) → get (from_entries {R = slice_cmp nat_cmp} (named es))
    q ≡ option_map seen_macro (lookup (λ (k : Vec ℕ Global). is_at (λ (x : Vec ℕ Global). slice_cmp nat_cmp q x.items) k) es)
get_name es q = get-from_entries nat_list_cmp_total (named es) q ∙ find_name es q

equal_of : (o : Ordering) → is_eq o ≡ true → o ≡ Equal
equal_of Equal e = refl
equal_of other e = absurd cc

same_name : (x y : List ℕ) → eq_by_cmp (slice_cmp nat_cmp) x y ≡ true → x ≡ y
same_name x y e = exact_bytes x y (equal_of (slice_cmp nat_cmp x y) e)

twice : (b : Bool) (v x : List (List ℕ)) (rest : Option (List (List ℕ))) → cond b (Some v) rest ≡ cond b (Some v) (cond b (Some x) rest)
twice true v x rest = refl
twice false v x rest = refl

swapped : (a b : Bool) (v x : List (List ℕ)) (rest : Option (List (List ℕ))) → (a ≡ true → b ≡ true → ⊥) → cond a (Some x)
    (cond b (Some v) rest) ≡ cond b (Some v) (cond a (Some x) rest)
swapped true true v x rest apart = absurd (apart refl refl)
swapped other further v x rest apart = refl

-- no name is both of two that aren't equal
apart : (q k n : List ℕ) → slice_cmp nat_cmp k n ≡ Greater → eq_by_cmp (slice_cmp nat_cmp) q n ≡ true → eq_by_cmp (slice_cmp nat_cmp) q
    k ≡ true → ⊥
apart q k n above at_n at_k =
    let ties : slice_cmp nat_cmp q n ≡ Equal = equal_of (slice_cmp nat_cmp q n) at_n in
    let same : slice_cmp nat_cmp k n ≡ Equal = subst (λ x. slice_cmp nat_cmp x n ≡ Equal) (same_name q k at_k) ties in
    let no : Greater ≡ Equal = sym above ∙ same in
    cc

-- an entry goes to its place in the order
inserted : (es : List (Vec ℕ Global × Macro)) (k : Vec ℕ Global) (v : Macro) (q : List ℕ)
    → find (slice_cmp nat_cmp) q (named (insert_entry by_bytes es k v))
    ≡ cond (eq_by_cmp (slice_cmp nat_cmp) q k.items) (Some (seen_macro v))
    (find (slice_cmp nat_cmp) q (named es))
inserted [] k v q = refl
inserted (e ∷ es) k v q =
    elim (slice_cmp nat_cmp k.items e.0.items) as (λ o. slice_cmp nat_cmp k.items e.0.items ≡ o → find (slice_cmp nat_cmp) q
    (named (match_ordering o ((k, v) ∷ e ∷ es) ((e.0, v) ∷ es) (e ∷ insert_entry by_bytes es k v))) ≡ cond
    (eq_by_cmp (slice_cmp nat_cmp) q k.items) (Some (seen_macro v)) (cond (eq_by_cmp (slice_cmp nat_cmp) q e.0.items) (Some
    (seen_macro e.1))
    (find (slice_cmp nat_cmp) q (named es)))) [
      | Less ↦ λ o. refl
      | Equal ↦ λ o. subst (λ n. cond (eq_by_cmp (slice_cmp nat_cmp) q e.0.items) (Some (seen_macro v)) (find (slice_cmp nat_cmp) q
          (named es))
          ≡ cond (eq_by_cmp (slice_cmp nat_cmp) q n) (Some (seen_macro v)) (cond (eq_by_cmp (slice_cmp nat_cmp) q e.0.items) (Some
          (seen_macro e.1))
          (find (slice_cmp nat_cmp) q (named es)))) (sym (exact_bytes k.items e.0.items o))
          (twice (eq_by_cmp (slice_cmp nat_cmp) q e.0.items) (seen_macro v) (seen_macro e.1) (find (slice_cmp nat_cmp) q (named es)))
      | Greater ↦ λ o. ap (cond (eq_by_cmp (slice_cmp nat_cmp) q e.0.items) (Some (seen_macro e.1))) (inserted es k v q)
          ∙ swapped (eq_by_cmp (slice_cmp nat_cmp) q e.0.items) (eq_by_cmp (slice_cmp nat_cmp) q k.items) (seen_macro v) (seen_macro e.1)
          (find (slice_cmp nat_cmp) q (named es)) (apart q k.items e.0.items o)
    ] refl

-- the map after an entry is put in
pub put_name : (es : List (Vec ℕ Global × Macro)) (k : Vec ℕ Global) (v : Macro)
    → from_entries {R = slice_cmp nat_cmp} (named (insert_entry by_bytes es k v)) ≡ insert (from_entries (named es)) k.items (seen_macro v)
put_name es k v = same_map nat_list_cmp_total exact_bytes _ _ (λ q.
    get-from_entries nat_list_cmp_total (named (insert_entry by_bytes es k v)) q ∙ inserted es k v q
    ∙ ap (cond (eq_by_cmp (slice_cmp nat_cmp) q k.items) (Some (seen_macro v))) (sym (get-from_entries nat_list_cmp_total (named es) q))
    ∙ sym (get-insert nat_list_cmp_total (from_entries (named es)) k.items (seen_macro v) q))

-- a body that is put in once more
pub same_body : (m : MacroMap) (k : List ℕ) (v : List (List ℕ)) → get m k ≡ Some v → insert m k v ≡ m
same_body m k v e = same_map nat_list_cmp_total exact_bytes _ _ (λ q.
    get-insert nat_list_cmp_total m k v q ∙ by_test q (eq_by_cmp (slice_cmp nat_cmp) q k) refl)
  where
    by_test : (q : List ℕ) (t : Bool) → eq_by_cmp (slice_cmp nat_cmp) q k ≡ t → cond t (Some v) (get m q) ≡ get m q
    by_test q true f = sym (ap (get m) (same_name q k f) ∙ e)
    by_test q false f = refl

-- a body that is borrowed
pub lent_body : (o : Option (Bor (Macro))) → option_map (λ body. seen_macro body.now) o ≡ option_map seen_macro (option_copied o)
lent_body None = refl
lent_body (Some body) = refl

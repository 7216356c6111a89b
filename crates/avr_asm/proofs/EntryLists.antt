-- A finite map made from a list of entries, in which each key stands once.
use Rattle.std.proofs.Common.{◌≡◌, ℕ, suc, ◌<◌, true, false, cond, List, [], ◌∷◌, ◌++◌, length, get_or, refl, sym, ◌∙◌, ap, subst, arith}
use Rattle.std.specs.Prelude.{None, Some}
use Rattle.std.specs.declared.cmp.Ordering.{Ordering}
use Rattle.std.specs.declared.cmp.Ordering.TheVariants.{Equal}
use Rattle.std.specs.Ordering.{eq_by_cmp, is_eq}
use Rattle.std.specs.Cmp.{IsTotalOrder}
use Rattle.std.specs.List.{list_any, Contains, IsDistinct}
use Rattle.std.specs.Map.{keys_of, lookup}
use Rattle.std.specs.FinMap.{FinMap, IsAntisymmetric, find, get, insert, from_entries, get-from_entries, from_entries_push}
use Rattle.std.proofs.lemmas.Cmp.{eq_by_cmp_equiv}
use Rattle.std.proofs.lemmas.Map.Keys.{IsDistinct-push, apart_from_distinct}
use Rattle.std.proofs.lemmas.Map.Views.{Contains-from_lookup, lookup-from_Contains}
use Rattle.avr_asm.specs.Relation.{IsMapOf}
use Rattle.std.proofs.lemmas.Bool.Decides.{nat_tests}

pub record IsMadeOf {K X : Type 0} {R : K → K → Ordering} (m : FinMap R X) (entries : List (K × X)) : Type 0 where
  pub is : m ≡ from_entries entries
  pub once : IsDistinct (eq_by_cmp R) (keys_of entries)

equal_of : (o : Ordering) → is_eq o ≡ true → o ≡ Equal
equal_of Equal e = refl
equal_of other e = absurd cc

keys_push : {K X : Type 0} (es : List (K × X)) (k : K) (v : X) → keys_of (es ++ (k, v) ∷ []) ≡ keys_of es ++ k ∷ []
keys_push [] k v = refl
keys_push (e ∷ es) k v = ap (λ ks. e.0 ∷ ks) (keys_push es k v)

pub key_at : {K X : Type 0} (es : List (K × X)) (i : ℕ) (d : K × X) → get_or (keys_of es) i d.0 ≡ (get_or es i d).0
key_at (e ∷ es) (suc i) d = key_at es i d
key_at other i d = refl

keys_len : {K X : Type 0} (es : List (K × X)) → length (keys_of es) ≡ length es
keys_len [] = refl
keys_len (e ∷ es) = ap suc (keys_len es)

module _ {K X : Type 0} (R : K → K → Ordering) where
  pub looked_up : (q : K) (es : List (K × X)) → find R q es ≡ lookup (eq_by_cmp R q) es
  looked_up q [] = refl
  looked_up q (e ∷ es) = ap (cond (eq_by_cmp R q e.0) (Some e.1)) (looked_up q es)

  absent : (q : K) (es : List (K × X)) → find R q es ≡ None → list_any (eq_by_cmp R q) (keys_of es) ≡ false
  absent q [] none = refl
  absent q (e ∷ es) none = grind (arith, nat_tests, absent q es)

  not_found : (q : K) (es : List (K × X)) → list_any (eq_by_cmp R q) (keys_of es) ≡ false → find R q es ≡ None
  not_found q [] n = refl
  not_found q (e ∷ es) n = grind (arith, nat_tests, not_found q es)

pub same_key : {K : Type 0} {R : K → K → Ordering} → IsAntisymmetric R → (x y : K) → eq_by_cmp R x y ≡ true → x ≡ y
same_key {R = R} exact x y e = exact x y (equal_of (R x y) e)

module _ {K X : Type 0} {R : K → K → Ordering} (o : IsTotalOrder R) (exact : IsAntisymmetric R) where
  get_made : (m : FinMap R X) (es : List (K × X)) → IsMadeOf m es → (q : K) → get m q ≡ find R q es
  get_made m es made q = ap (λ n. get n q) made.is ∙ get-from_entries o es q

  -- a key that is new
  pub made_more : (m : FinMap R X) (es : List (K × X)) (k : K) (v : X) → IsMadeOf m es → get m k ≡ None → IsMadeOf (insert m k v)
      (es ++ (k, v) ∷ [])
  made_more m es k v made none =
      let fresh : find R k es ≡ None = sym (get_made m es made k) ∙ none in
      record {
        is = ap (λ n. insert n k v) made.is ∙ sym (from_entries_push o exact es k v fresh);
        once = subst (IsDistinct (eq_by_cmp R)) (sym (keys_push es k v)) (IsDistinct-push (eq_by_cmp_equiv o) (keys_of es) k made.once
            (absent R k es fresh));
      }

  -- then the map's entries are those of the list
  pub map_of_made : (m : FinMap R X) (es : List (K × X)) → IsMadeOf m es → IsMapOf m es
  map_of_made m es made = record {
    exact = λ key value. (there key value, back key value);
    once = λ i j d below within same. apart i j d below within same;
  }
    where
      there : (key : K) (value : X) → get m key ≡ Some value → Contains es (key, value)
      there key value e = Contains-from_lookup (same_key exact) key value es (sym (looked_up R key es) ∙ sym (get_made m es made key) ∙ e)

      back : (key : K) (value : X) → Contains es (key, value) → get m key ≡ Some value
      back key value c = get_made m es made key ∙ looked_up R key es ∙ lookup-from_Contains (eq_by_cmp_equiv o) key value es made.once c

      apart : (i j : ℕ) (d : K × X) → i < j → j < length es → (get_or es i d).0 ≡ (get_or es j d).0 → ⊥
      apart i j d below within same =
          let inside : j < length (keys_of es) = omega (arith, keys_len es) in
          let no : eq_by_cmp R (get_or (keys_of es) i d.0) (get_or (keys_of es) j d.0) ≡ false = apart_from_distinct (eq_by_cmp R)
          (keys_of es) i j d.0 made.once below inside in
          let yes : eq_by_cmp R (get_or (keys_of es) i d.0) (get_or (keys_of es) j d.0) ≡ true =
          ap (λ x. eq_by_cmp R x (get_or (keys_of es) j d.0)) (key_at es i d ∙ same ∙ sym (key_at es j d)) ∙ (eq_by_cmp_equiv o).refl
          (get_or (keys_of es) j d.0) in
          absurd (let bad : true ≡ false = sym yes ∙ no in cc)

  -- a key that is none of the list's
  pub found_absent : (m : FinMap R X) (es : List (K × X)) (q : K) → IsMadeOf m es → list_any (eq_by_cmp R q) (keys_of es) ≡ false
      → get m q ≡ None
  found_absent m es q made none = get_made m es made q ∙ not_found R q es none

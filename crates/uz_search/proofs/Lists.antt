-- Lists that are mapped, joined and chosen from, element by element.
use Rattle.uz_search.proofs.Common.{◌≡◌, ◌≢◌, ℕ, zero, suc, ◌⊎◌, List, [], ◌∷◌, ◌++◌, map, Some, Bool, true, false, refl, sym, ap, ◌∙◌}
use Rattle.uz_search.proofs.Common.{subst, arith, ◌<◌, ◌+◌, inl, inr, ⊎_elim, slice_get, get_or, length, take, drop, append_assoc}
use Rattle.uz_search.proofs.Common.{if◌then◌else◌, cases_eq, slice_get_read, same_Some, flat_map, Kind, Main, Handler, Alone, Among}
use Rattle.std.proofs.lemmas.List.{drop_more, map_more}
use Rattle.uz_search.proofs.VisitingLemmas.{get_front}

pub kind_cases : (k : Kind) → (k ≡ Main) ⊎ (k ≢ Main)
kind_cases Main = inl refl
kind_cases Handler = inr (λ h. cc)
kind_cases Alone = inr (λ h. cc)

pub not_in_main : (k : Kind) → (k ≡ Handler) ⊎ (k ≡ Alone) → k ≢ Main
not_in_main Main (inl h) main = cc
not_in_main Main (inr h) main = cc
not_in_main Handler h main = cc
not_in_main Alone h main = cc

-- what holds of both sides of a choice
pub choose : {A : Type 0} → (P : A → Type 0) (b : Bool) (x y : A) → P x → P y → P (if b then x else y)
choose P true x y p q = p
choose P false x y p q = q

module _ {A B : Type 0} where
  pub in_map : (f : A → B) (xs : List A) (i : ℕ) (x : A) → slice_get xs i ≡ Some x → slice_get (map f xs) i ≡ Some (f x)
  in_map f [] i x h = cc
  in_map f (z ∷ zs) zero x h = ap (λ v. Some (f v)) (same_Some z x h)
  in_map f (z ∷ zs) (suc i) x h = in_map f zs i x h

  pub of_map : (f : A → B) (xs : List A) (i : ℕ) (y : B) → slice_get (map f xs) i ≡ Some y → (x : A) × (slice_get xs i ≡ Some x) × (f x ≡ y)
  of_map f [] i y h = cc
  of_map f (z ∷ zs) zero y h = (z, refl, same_Some (f z) y h)
  of_map f (z ∷ zs) (suc i) y h = of_map f zs i y h

  -- one more of a list is mapped
  pub map_next : (f : A → B) (xs : List A) (done new : List B) (i : ℕ) (x : A) (y : B) → i < length xs → x ≡ get_or xs i x → y ≡ f x
      → new ≡ done ++ y ∷ [] → done ≡ map f (take i xs) → new ≡ map f (take (i + 1) xs)
  map_next f xs done new i x y within is mapped grown so_far =
      grown
      ∙ (ap (λ v. v ++ y ∷ []) so_far
      ∙ (ap (λ v. map f (take i xs) ++ v ∷ []) (mapped ∙ ap f is)
      ∙ sym (map_more f xs i x within)))

module _ {A : Type 0} where
  pub append_cases : (xs ys : List A) (i : ℕ) (y : A) → slice_get (xs ++ ys) i ≡ Some y → Among xs y ⊎ Among ys y
  append_cases [] ys i y h = inr (i, h)
  append_cases (z ∷ xs) ys zero y h = inl (0, h)
  append_cases (z ∷ xs) ys (suc i) y h = ⊎_elim (λ a. inl (suc a.0, a.1)) (λ b. inr b) (append_cases xs ys i y h)

  pub in_first : (f : A → List A) (xs : List A) (x y : A) → slice_get xs 0 ≡ Some x → Among (f x) y → Among (flat_map f xs) y
  in_first f [] x y h a = cc
  in_first f (z ∷ zs) x y h a =
      let same : x ≡ z = sym (same_Some z x h) in
      let b : Among (f z) y = subst (λ v. Among (f v) y) same a in
      (b.0, get_front (f z) (flat_map f zs) b.0 y b.1)

  pub of_flat : (f : A → List A) (xs : List A) (y : A) → Among (flat_map f xs) y → (x : A) × Among xs x × Among (f x) y
  of_flat f [] y h = absurd (nothing h.0 h.1)
    where
      nothing : (i : ℕ) → slice_get {X = A} [] i ≡ Some y → ⊥
      nothing i e = cc
  of_flat f (z ∷ zs) y h = ⊎_elim
      (λ a. (z, (0, refl), a))
      (λ b. let r = of_flat f zs y b in (r.0, (suc r.1.0, r.1.1), r.2))
      (append_cases (f z) (flat_map f zs) h.0 y h.1)

  -- one more of a list is done
  pub flat_next : (f : A → List A) (xs done new whole : List A) (i : ℕ) (x : A) → i < length xs → x ≡ get_or xs i x → new ≡ done ++ f x
      → done ++ flat_map f (drop i xs) ≡ whole → new ++ flat_map f (drop (i + 1) xs) ≡ whole
  flat_next f xs done new whole i x within is grown so_far =
      ap (λ v. v ++ flat_map f (drop (i + 1) xs)) grown
      ∙ (append_assoc done (f x) (flat_map f (drop (i + 1) xs))
      ∙ (ap (λ v. done ++ (f v ++ flat_map f (drop (i + 1) xs))) is
      ∙ (ap (λ v. done ++ flat_map f v) (sym (drop_more xs i x within))
      ∙ so_far)))

  -- what holds of each element so far, and of one more
  pub each_next : (P : A → Type 0) (xs : List A) (i : ℕ) (x : A) → i < length xs → x ≡ get_or xs i x
      → ((k : ℕ) (y : A) → k < i → slice_get xs k ≡ Some y → P y) → P x → (k : ℕ) (y : A) → k < i + 1 → slice_get xs k ≡ Some y → P y
  each_next P xs i x within is so_far now k y less at = ⊎_elim
      (λ (same : k ≡ i).
      let here : slice_get xs k ≡ Some x = subst (λ n. slice_get xs n ≡ Some x) (sym same)
      (slice_get_read xs (length xs) i x refl within is) in
      subst P (same_Some x y (sym here ∙ at)) now)
      (λ (other : k ≢ i). so_far k y (omega arith) at)
      (cases_eq k i)

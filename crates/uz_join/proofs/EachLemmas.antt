-- What holds of each element so far, and of one more.
use Rattle.uz_join.proofs.Common.{◌≡◌, ◌≢◌, ◌∙◌, sym, ap, refl, arith, ⊎_elim, ℕ, ◌+◌, ◌<◌, ◌≤◌, List, length, get_or, subst, Some}
use Rattle.uz_join.proofs.Common.{slice_get, cases_eq, slice_get_read, slice_get_within}

one_of : {A : Type 0} (a b : A) → Some a ≡ Some b → a ≡ b
one_of a b e = cc

pub each_more : {A : Type 0} (P : A → Type 0) (xs ys : List A) (i : ℕ) (x : A) → xs ≡ ys → i < length xs → x ≡ get_or xs i x
    → ((j : ℕ) (y : A) → j < i → slice_get ys j ≡ Some y → P y) → P x
    → (j : ℕ) (y : A) → j < i + 1 → slice_get ys j ≡ Some y → P y
each_more P xs ys i x e within is before now j y less at = ⊎_elim
    (λ (same : j ≡ i).
    let here : slice_get xs j ≡ Some x = subst (λ k. slice_get xs k ≡ Some x) (sym same) (slice_get_read xs (length xs) i x refl within
    is) in
    subst P (one_of x y (sym here ∙ (ap (λ zs. slice_get zs j) e ∙ at))) now)
    (λ (other : j ≢ i). before j y (omega arith) at)
    (cases_eq j i)

pub each_all : {A : Type 0} (P : A → Type 0) (xs ys : List A) (i : ℕ) → xs ≡ ys → length xs ≤ i
    → ((j : ℕ) (y : A) → j < i → slice_get ys j ≡ Some y → P y) → (j : ℕ) (y : A) → slice_get ys j ≡ Some y → P y
each_all P xs ys i e past before j y at = let within = slice_get_within ys j y at in let same = ap length e in before j y (omega arith) at

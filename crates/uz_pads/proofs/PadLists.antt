-- A list with one element many times at its end.
use Rattle.std.proofs.Common.{◌≡◌, ℕ, ◌+◌, ◌-◌, ◌≤◌, List, ◌++◌, length, take, replicate, min, sym, ◌∙◌, ap, arith, inl, inr}
use Rattle.std.proofs.lemmas.Bool.{cases_lt}
use Rattle.std.proofs.lemmas.List.{length-replicate, take-replicate, take_all}
use Rattle.std.proofs.Math.Nat.{min-eq_left, min-eq_right}
use Rattle.std.proofs.Math.Seq.{take-append-add}

taken_times : {A : Type 0} → (k times : ℕ) (x : A) → take k (replicate times x) ≡ replicate (min times k) x
taken_times {A = A} k times x = elim (cases_lt times k) [
  | inl more ↦
      (let size = length-replicate times x in
      let all : length (replicate times x) ≤ k = omega (arith, size, more) in
      let few : times ≤ k = omega (arith, more) in
      take_all k (replicate times x) all ∙ ap (λ (m : ℕ). replicate {A = A} m x) (sym (min-eq_left few)))
  | inr few ↦ take-replicate k times x few ∙ ap (λ (m : ℕ). replicate {A = A} m x) (sym (min-eq_right few))
]

-- its first elements, as many as those before it or more
pub taken_after : {A : Type 0} → (n times left : ℕ) (xs : List A) (x : A) → length xs ≤ n → left ≡ min times (n - length xs) →
    xs ++ replicate left x ≡ take n (xs ++ replicate times x)
taken_after n times left xs x h e =
    let all : length xs + (n - length xs) ≡ n = omega arith in
    ap (λ m. xs ++ replicate m x) e ∙
    (ap (λ ys. xs ++ ys) (sym (taken_times (n - length xs) times x)) ∙
    (sym (take-append-add xs (replicate times x) (n - length xs)) ∙ ap (λ m. take m (xs ++ replicate times x)) all))

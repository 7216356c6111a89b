-- Interrupted registers in order, and what lengths are left where no kind of line is.
use Rattle.std.proofs.Common.{◌≡◌, ℕ, zero, suc, ◌+◌, ◌≤◌, false, eqb, List, [], ◌∷◌, ◌++◌, length, drop, refl, sym, ◌∙◌, ap}
use Rattle.std.proofs.Common.{arith}
use Rattle.std.proofs.lemmas.Bool.Decides.{nat_tests}
use Rattle.uz_schedule.specs.Instances.{old_from}
use Rattle.uz_schedule.specs.declared.facts.Val.TheVariants.{Old}
use Rattle.uz_schedule.specs.Limits.{lengths_fit}
use Rattle.uz_schedule.specs.declared.lines.Event.{Event}

-- one more interrupted register
pub old_more : (k n : ℕ) → old_from k (n + 1) ≡ old_from k n ++ Old (k + n) ∷ []
old_more k zero =
    let same : k + 0 ≡ k = omega arith in
    ap (λ i. Old i ∷ []) (sym same)
old_more k (suc n) =
    let next : suc n + 1 ≡ suc (suc n) = omega arith in
    let less : n + 1 ≡ suc n = omega arith in
    let same : suc k + n ≡ k + suc n = omega arith in
    ap (old_from k) next
    ∙ (ap (λ xs. Old k ∷ xs) (ap (old_from (suc k)) (sym less) ∙ old_more (suc k) n) ∙ ap (λ i. Old k ∷ (old_from (suc k) n ++ Old i ∷ []))
    same)

-- without a kind there may be no length
pub lengths_left : (lengths : List ℕ) (n : ℕ) → n ≤ length lengths → lengths_fit [] (drop n lengths) ≡ eqb n (length lengths)
lengths_left [] zero h = refl
lengths_left [] (suc n) h = absurd (omega (arith, h))
lengths_left (e ∷ lengths) zero h = sym (some (length lengths))
  where
    some : (n : ℕ) → eqb 0 (suc n) ≡ false
    some n = grind (arith, nat_tests)
lengths_left (e ∷ lengths) (suc n) h = lengths_left lengths n (omega (arith, h)) ∙ same n (length lengths)
  where
    same : (a b : ℕ) → eqb a b ≡ eqb (suc a) (suc b)
    same a b = grind (arith, nat_tests)

-- past the last kind
pub kinds_end : (kinds : List (List Event)) (lengths : List ℕ) (i : ℕ) → length kinds ≤ i
    → lengths_fit (drop i kinds) lengths ≡ lengths_fit [] lengths
kinds_end [] lengths zero h = refl
kinds_end [] lengths (suc i) h = refl
kinds_end (c ∷ kinds) lengths zero h = absurd (omega (arith, h))
kinds_end (c ∷ kinds) lengths (suc i) h = kinds_end kinds lengths i (omega (arith, h))

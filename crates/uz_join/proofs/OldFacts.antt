-- The facts of the interrupted registers.
use Rattle.uz_join.proofs.Common.{◌≡◌, ◌∙◌, sym, ap, arith, ℕ, zero, suc, ◌+◌, ◌∷◌, [], ◌++◌, old_facts}
use Rattle.uz_schedule.specs.declared.facts.Fact.TheVariants.{Old}

-- one more interrupted register
pub old_facts_more : (k n : ℕ) → old_facts k (n + 1) ≡ old_facts k n ++ Old (k + n) ∷ []
old_facts_more k zero =
    let same : k + 0 ≡ k = omega arith in
    ap (λ i. Old i ∷ []) (sym same)
old_facts_more k (suc n) =
    let next : suc n + 1 ≡ suc (suc n) = omega arith in
    let less : n + 1 ≡ suc n = omega arith in
    let same : suc k + n ≡ k + suc n = omega arith in
    ap (old_facts k) next
    ∙ (ap (λ xs. Old k ∷ xs) (ap (old_facts (suc k)) (sym less) ∙ old_facts_more (suc k) n)
    ∙ ap (λ i. Old k ∷ (old_facts (suc k) n ++ Old i ∷ [])) same)

use Rattle.uz_check.proofs.Common.{◌≡◌, inl, inr, ℕ, List, length, ◌<◌, sym, ◌∙◌, ap, subst, get_or, arith, Some, None, slice_get}
use Rattle.uz_check.proofs.Common.{eqb_tells, slice_get-get_or, Rest, RestRefusal}
use Rattle.uz_check.proofs.rests.rests_refusal.Goals as goal

found : (rests lent : List Rest) (i : ℕ) (rest : Rest) → lent ≡ rests → i < length lent → rest ≡ get_or lent i rest → slice_get rests
    i ≡ Some rest
found rests lent i rest same few is = ap (λ xs. slice_get xs i) (sym same) ∙ (slice_get-get_or lent i rest few ∙ ap (λ p. Some p) (sym is))

pub loop-i-preserved : goal.loop-i-preserved
loop-i-preserved c j few =
    elim (eqb_tells j c.loop-i.i) [
      | inl t ↦
          let here = found c.args.cert.now.rests c.as_slice-rest-items.result.now c.loop-i.i c.rest-item.result
          c.as_slice-rest-items.ensures c.loop-i-test.true c.rest-item.is in
          subst (λ k. (rest : Rest) × (slice_get c.args.cert.now.rests k ≡ Some rest) × RestRefusal c.args.cert.now rest None) (sym t.1)
          (c.rest-item.result, here, c.in_default.ensures)
      | inr t ↦ c.loop-i.invariant j (omega (arith, few, t.1))
    ]

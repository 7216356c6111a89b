use Rattle.uz_check.proofs.Common.{inl, inr, sym, ◌∙◌, ap, arith, eqb_tells, is_implied}
use Rattle.uz_check.proofs.implied_lines.next_to_check.Goals as goal

pub each-preserved : goal.each-preserved
each-preserved c j low high =
    elim (eqb_tells j c.each.l) [
      | inl t ↦ ap (is_implied c.args.cert.now c.args.point.now) t.1 ∙ (sym c.is_implied.ensures ∙ c.if-not-is_implied.false)
      | inr t ↦ c.each.invariant j low (omega (arith, high, t.1))
    ]

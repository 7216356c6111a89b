use Rattle.std.proofs.Common.{arith, sym, ◌∙◌}
use Rattle.uz_schedule.proofs.Amounts.{lengths_left, kinds_end}
use Rattle.uz_schedule.proofs.limits.lengths_fit.Goals as goal

pub returns : goal.returns
returns c =
    let at_end = kinds_end c.args.kinds.now _ c.loop-events.events-index (omega (arith, c.loop-events-test.false)) in
    sym (lengths_left c.args.lengths.now c.loop-events.next c.loop-events.invariant.few) ∙ (sym at_end ∙ c.loop-events.invariant.left)

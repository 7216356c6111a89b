use Rattle.std.proofs.Common.{arith, sym, ◌∙◌}
use Rattle.uz_schedule.proofs.LimitAmounts.{spans_left, cells_end}
use Rattle.uz_schedule.proofs.head.spans_within.Goals as goal

pub returns : goal.returns
returns c =
    let at_end = cells_end _ c.args.cells.now _ c.loop-cell.cell-index (omega (arith, c.loop-cell-test.false)) in
    sym (spans_left c.args.spans.now c.loop-cell.next c.loop-cell.invariant.few) ∙ (sym at_end ∙ c.loop-cell.invariant.left)

use Rattle.std.proofs.Common.{◌+◌, sym, subst, arith}
use Rattle.uz_hex.proofs.CellSteps.{IsSoFar, past_gap, past_byte}
use Rattle.uz_hex.proofs.writing.write_cells.Goals as goal
use Rattle.uz_hex.proofs.writing.write_cells.Goals.{in-Some+in_ok-take, in_default}

pub loop-at-preserved : goal.loop-at-preserved
loop-at-preserved c = elim c.match-cell.branch [
  | in-Some+in_ok-take w ↦ subst (IsSoFar c.args.cells.now (c.loop-at.at + 1)) (sym w.writer-is)
      (past_byte c.args.cells.now c.loop-at.at w.in-Some.byte c.loop-at.writer w.take.new.self c.loop-at-test.true w.in-Some.is c.loop-at.invariant
      w.in_ok-take.ensures.few w.in_ok-take.ensures.after w.in_ok-take.ensures.text)
  | in_default w ↦ subst (IsSoFar c.args.cells.now (c.loop-at.at + 1)) (sym w.writer-is)
      (past_gap c.args.cells.now c.loop-at.at c.loop-at.writer c.loop-at-test.true w.in_default.is c.loop-at.invariant)
]

pub overflow_cast-at : goal.overflow_cast-at
overflow_cast-at c = record { fits = omega (arith, c.loop-at-test.true, c.requires) }

pub take-requires-clause-before : goal.take-requires-clause-before
take-requires-clause-before c = c.loop-at.invariant.before

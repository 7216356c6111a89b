use Rattle.uz_hex.proofs.CellSteps.{IsSoFar}
use Rattle.uz_hex.proofs.writing.write_cells.Given as goal

abbrev pub invariant-loop-at : goal.invariant-loop-at
invariant-loop-at l = IsSoFar l.cells l.at l.writer

use Rattle.std.proofs.Common.{◌≡◌, drop}
use Rattle.uz_transfer.specs.Kinds.{range_from}
use Rattle.uz_transfer.proofs.memory.cell_range.Given as goal

-- what is left answers for all
abbrev pub invariant-loop-cell : goal.invariant-loop-cell
invariant-loop-cell l = range_from (drop l.cell-index l.cells) l.at ≡ range_from l.cells l.at

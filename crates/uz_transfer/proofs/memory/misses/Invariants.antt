use Rattle.std.proofs.Common.{◌≡◌, drop}
use Rattle.uz_transfer.specs.Kinds.{misses}
use Rattle.uz_transfer.proofs.memory.misses.Given as goal

-- what is left answers for all
abbrev pub invariant-loop-cell : goal.invariant-loop-cell
invariant-loop-cell l = misses (drop l.cell-index l.cells) l.a ≡ misses l.cells l.a

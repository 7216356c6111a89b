use Rattle.std.proofs.Common.{◌≡◌, ◌≤◌, drop}
use Rattle.uz_transfer.specs.Kinds.{place_from}
use Rattle.uz_transfer.proofs.memory.cell_place.Given as goal

-- what is left answers for all
abbrev pub invariant-loop-cell : goal.invariant-loop-cell
invariant-loop-cell l = record {
  same : place_from l.kind (drop l.cell-index l.cells) l.number l.at ≡ place_from l.kind l.cells 0 l.at;
  few : l.number ≤ l.cell-index;
}

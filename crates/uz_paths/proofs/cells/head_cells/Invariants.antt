use Rattle.std.proofs.Common.{◌≡◌, map, take}
use Rattle.arrayvec.specs.ArrayVec.{array_vec_len}
use Rattle.uz_paths.proofs.cells.head_cells.Given as goal

-- one cell for each so far
abbrev pub invariant-loop-t : goal.invariant-loop-t
invariant-loop-t l = record {
  count : array_vec_len l.cells ≡ l.t-index;
  first : l.cells.items ≡ map (λ t. t.cell) (take l.t-index l.tracked);
}

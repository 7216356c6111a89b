use Rattle.std.proofs.Common.{◌≡◌, take}
use Rattle.arrayvec.specs.ArrayVec.{array_vec_len}
use Rattle.uz_paths.proofs.rests.copied_cells.Given as goal

-- the ranges so far
abbrev pub invariant-loop-range : goal.invariant-loop-range
invariant-loop-range l = record {
  count : array_vec_len l.copy ≡ l.range-index;
  first : l.copy.items ≡ take l.range-index l.cells.items;
}

use Rattle.std.proofs.Common.{◌≡◌, ◌≤◌, ◌++◌, drop}
use Rattle.arrayvec.specs.ArrayVec.{array_vec_len}
use Rattle.uz_paths.specs.Cells.{first_values}
use Rattle.uz_paths.proofs.cells.first_values.Given as goal

-- those so far, and what is left
abbrev pub invariant-loop-t : goal.invariant-loop-t
invariant-loop-t l = record {
  few : array_vec_len l.values ≤ l.t-index;
  left : l.values.items ++ first_values (drop l.t-index l.tracked) ≡ first_values l.tracked;
}

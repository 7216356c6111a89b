use Rattle.std.proofs.Common.{◌≡◌, ◌≤◌, ◌++◌, drop, map}
use Rattle.std.specs.Prelude.{filter}
use Rattle.arrayvec.specs.ArrayVec.{array_vec_len}
use Rattle.uz_schedule.specs.Tracked.{tracks}
use Rattle.uz_paths.proofs.program.tracked_ranges.Given as goal

-- those so far, and what is left
abbrev pub invariant-loop-cell : goal.invariant-loop-cell
invariant-loop-cell l = record {
  few : array_vec_len l.ranges ≤ l.cell-index;
  left : l.ranges.items ++ map (λ c. c.range) (filter (λ c. tracks l.kind c.owner) (drop l.cell-index l.cells)) ≡ map (λ c. c.range)
      (filter (λ c. tracks l.kind c.owner) l.cells);
}

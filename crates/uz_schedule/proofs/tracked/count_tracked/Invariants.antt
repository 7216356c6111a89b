use Rattle.std.proofs.Common.{◌≡◌, ◌+◌, ◌≤◌, drop, length}
use Rattle.std.specs.Prelude.{filter}
use Rattle.uz_schedule.specs.Tracked.{tracks}
use Rattle.uz_schedule.proofs.tracked.count_tracked.Given as goal

-- what was counted, and what is left
abbrev pub invariant-loop-cell : goal.invariant-loop-cell
invariant-loop-cell l = record {
  few : l.count ≤ l.cell-index;
  left : l.count + length (filter (λ c. tracks l.kind c.owner) (drop l.cell-index l.cells)) ≡ length
      (filter (λ c. tracks l.kind c.owner) l.cells);
}

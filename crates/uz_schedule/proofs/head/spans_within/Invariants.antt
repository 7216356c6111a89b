use Rattle.std.proofs.Common.{◌≡◌, ◌≤◌, drop, length}
use Rattle.std.specs.Prelude.{filter}
use Rattle.uz_schedule.specs.Tracked.{tracks}
use Rattle.uz_schedule.specs.WellFormed.{spans_fit}
use Rattle.uz_schedule.proofs.head.spans_within.Given as goal

-- what is left of cells and ranges answers for all
abbrev pub invariant-loop-cell : goal.invariant-loop-cell
invariant-loop-cell l = record {
  few : l.next ≤ length l.spans;
  left : spans_fit (filter (λ c. tracks l.kind c.owner) (drop l.cell-index l.cells)) (drop l.next l.spans) ≡ spans_fit
      (filter (λ c. tracks l.kind c.owner) l.cells) l.spans;
}

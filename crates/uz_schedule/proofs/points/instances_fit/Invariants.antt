use Rattle.std.proofs.Common.{◌≡◌, ◌+◌, ◌≤◌, drop}
use Rattle.std.specs.Prelude.{sum_by}
use Rattle.uz_schedule.specs.WellFormed.{instances_of}
use Rattle.uz_schedule.proofs.points.instances_fit.Given as goal

-- what was counted, and what is left
abbrev pub invariant-loop-point : goal.invariant-loop-point
invariant-loop-point l = record {
  few : l.sum ≤ 16777216;
  left : l.sum + sum_by instances_of (drop l.point-index l.points) ≡ sum_by instances_of l.points;
}

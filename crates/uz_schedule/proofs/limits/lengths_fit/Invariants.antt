use Rattle.std.proofs.Common.{◌≡◌, ◌≤◌, drop, length}
use Rattle.uz_schedule.specs.Limits.{lengths_fit}
use Rattle.uz_schedule.proofs.limits.lengths_fit.Given as goal

abbrev pub invariant-loop-events : goal.invariant-loop-events
invariant-loop-events l = record {
  few : l.next ≤ length l.lengths;
  left : lengths_fit (drop l.events-index l.kinds) (drop l.next l.lengths) ≡ lengths_fit l.kinds l.lengths;
}

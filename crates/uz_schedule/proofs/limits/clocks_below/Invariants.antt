use Rattle.std.proofs.Common.{◌≡◌, drop}
use Rattle.uz_schedule.specs.Limits.{clocks_below}
use Rattle.uz_schedule.proofs.limits.clocks_below.Given as goal

abbrev pub invariant-loop-event : goal.invariant-loop-event
invariant-loop-event l = clocks_below (drop l.event-index l.events) l.clocks ≡ clocks_below l.events l.clocks

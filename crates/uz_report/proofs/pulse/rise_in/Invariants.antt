use Rattle.std.proofs.Common.{◌≡◌, drop}
use Rattle.uz_report.specs.Pulses.{rise_in}
use Rattle.uz_report.proofs.pulse.rise_in.Given as goal

-- what is left answers for all
abbrev pub invariant-loop-event : goal.invariant-loop-event
invariant-loop-event l = rise_in (drop l.event-index l.events) ≡ rise_in l.events

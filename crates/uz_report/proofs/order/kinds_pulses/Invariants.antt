use Rattle.std.proofs.Common.{◌≡◌, map, take}
use Rattle.uz_report.specs.Pulses.{kind_of_pulse, pulse_in}
use Rattle.uz_report.proofs.order.kinds_pulses.Given as goal

abbrev pub invariant-loop-events : goal.invariant-loop-events
invariant-loop-events l = l.pulses.items ≡ map (λ events. kind_of_pulse (pulse_in events)) (take l.events-index l.schedule.kinds)

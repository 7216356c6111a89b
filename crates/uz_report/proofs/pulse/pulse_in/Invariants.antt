use Rattle.std.proofs.Common.{◌≡◌, drop}
use Rattle.uz_report.specs.Pulses.{pulse_in}
use Rattle.uz_report.proofs.pulse.pulse_in.Given as goal

-- what is left answers for all
abbrev pub invariant-loop-index : goal.invariant-loop-index
invariant-loop-index l = pulse_in (drop l.index l.events) ≡ pulse_in l.events

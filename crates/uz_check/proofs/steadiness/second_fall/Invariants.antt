use Rattle.uz_check.proofs.Common.{◌≡◌, drop, second_fall}
use Rattle.uz_check.proofs.steadiness.second_fall.Given as goal

-- what is left answers for all
abbrev pub invariant-loop-event : goal.invariant-loop-event
invariant-loop-event l = second_fall (drop l.event-index l.events) ≡ second_fall l.events

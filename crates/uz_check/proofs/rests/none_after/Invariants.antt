use Rattle.uz_check.proofs.Common.{◌≡◌, drop, none_after}
use Rattle.uz_check.proofs.rests.none_after.Given as goal

-- what is left answers for all
abbrev pub invariant-loop-event : goal.invariant-loop-event
invariant-loop-event l = none_after l.clock (drop l.event-index l.events) ≡ none_after l.clock l.events

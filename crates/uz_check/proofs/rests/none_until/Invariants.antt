use Rattle.uz_check.proofs.Common.{◌≡◌, drop, none_until}
use Rattle.uz_check.proofs.rests.none_until.Given as goal

-- what is left answers for all
abbrev pub invariant-loop-event : goal.invariant-loop-event
invariant-loop-event l = none_until l.clock (drop l.event-index l.events) ≡ none_until l.clock l.events

use Rattle.uz_search.specs.Following.{Passing}
use Rattle.uz_search.proofs.showing.passes.Given as goal

-- it isn't shown at the positions so far
abbrev pub invariant-each : goal.invariant-each
invariant-each l = Passing l.program l.at l.step l.emit l.shown.place l.shown.event → ⊥

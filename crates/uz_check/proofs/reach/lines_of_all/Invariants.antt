use Rattle.uz_check.proofs.Common.{◌≤◌, HoldTo}
use Rattle.uz_check.proofs.reach.lines_of_all.Given as goal

-- the boxes so far hold the lines
abbrev pub invariant-each : goal.invariant-each
invariant-each l = record { last : l.last ≤ l.end; hold : HoldTo l.cert l.ids l.first l.last l.id-index }

use Rattle.uz_check.proofs.Common.{◌≡◌, drop, rest_in}
use Rattle.uz_check.proofs.lines.rest_of_line.Given as goal

abbrev pub invariant-each : goal.invariant-each
invariant-each l = rest_in (drop l.rest-index l.rests) l.line ≡ rest_in l.rests l.line

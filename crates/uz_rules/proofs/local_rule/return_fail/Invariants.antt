use Rattle.uz_rules.proofs.Common.{◌≡◌, drop, rest_in, return_fail}
use Rattle.uz_rules.proofs.local_rule.return_fail.Given as goal

-- what is left answers for all
abbrev pub invariant-loop-rest : goal.invariant-loop-rest
invariant-loop-rest l = return_fail (rest_in (drop l.rest-index l.rests) l.end.line) l.end ≡ return_fail (rest_in l.rests l.end.line) l.end

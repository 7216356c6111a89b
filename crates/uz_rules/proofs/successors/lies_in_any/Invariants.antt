use Rattle.uz_rules.proofs.Common.{◌≡◌, drop, lies_in_any}
use Rattle.uz_rules.proofs.successors.lies_in_any.Given as goal

-- what is left answers for all
abbrev pub invariant-loop-id : goal.invariant-loop-id
invariant-loop-id l = lies_in_any l.cert (drop l.id-index l.ids) l.at ≡ lies_in_any l.cert l.ids l.at

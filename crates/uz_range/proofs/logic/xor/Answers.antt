use Rattle.uz_range.proofs.LogicCovers.{xor_covers}
use Rattle.uz_range.proofs.logic.xor.Goals as goal

pub returns-clause-holds : goal.returns-clause-holds
returns-clause-holds c = rw c.xor_by_rule.ensures (xor_covers _ _)

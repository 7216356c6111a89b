use Rattle.uz_range.proofs.LogicCovers.{or_covers}
use Rattle.uz_range.proofs.logic.or.Goals as goal

pub returns-clause-holds : goal.returns-clause-holds
returns-clause-holds c = rw c.or_by_rule.ensures (or_covers _ _)

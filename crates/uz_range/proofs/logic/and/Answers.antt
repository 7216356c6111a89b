use Rattle.uz_range.proofs.LogicCovers.{and_covers}
use Rattle.uz_range.proofs.logic.and.Goals as goal

pub returns-clause-holds : goal.returns-clause-holds
returns-clause-holds c = rw c.and_by_rule.ensures (and_covers _ _)

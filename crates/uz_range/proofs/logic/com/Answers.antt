use Rattle.uz_range.proofs.LogicCovers.{com_covers}
use Rattle.uz_range.proofs.logic.com.Goals as goal

pub returns-clause-holds : goal.returns-clause-holds
returns-clause-holds c = rw c.com_by_rule.ensures (com_covers _)

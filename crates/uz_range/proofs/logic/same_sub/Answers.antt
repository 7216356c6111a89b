use Rattle.uz_range.proofs.ItselfCovers.{same_sub_covers}
use Rattle.uz_range.proofs.logic.same_sub.Goals as goal

pub returns-clause-holds : goal.returns-clause-holds
returns-clause-holds c = rw c.same_sub_by_rule.ensures same_sub_covers

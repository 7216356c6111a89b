use Rattle.uz_range.proofs.ItselfCovers.{same_and_covers}
use Rattle.uz_range.proofs.logic.same_and.Goals as goal

pub returns-clause-holds : goal.returns-clause-holds
returns-clause-holds c = rw c.same_and_by_rule.ensures (same_and_covers _)

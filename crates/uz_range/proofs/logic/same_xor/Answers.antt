use Rattle.uz_range.proofs.ItselfCovers.{same_xor_covers}
use Rattle.uz_range.proofs.logic.same_xor.Goals as goal

pub returns-clause-holds : goal.returns-clause-holds
returns-clause-holds c = rw c.same_xor_by_rule.ensures same_xor_covers

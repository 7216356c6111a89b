use Rattle.uz_range.proofs.PairsCover.{bst_covers}
use Rattle.uz_range.proofs.bits.bst.Goals as goal

pub returns-clause-holds : goal.returns-clause-holds
returns-clause-holds c = rw c.bst_by_rule.ensures (bst_covers _ _)

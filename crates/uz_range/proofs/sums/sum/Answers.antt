use Rattle.uz_range.proofs.SumsCover.{sum_covers}
use Rattle.uz_range.proofs.sums.sum.Goals as goal

pub returns-clause-holds : goal.returns-clause-holds
returns-clause-holds c = rw c.sum_by_rule.ensures (sum_covers _ _ _)

use Rattle.uz_range.proofs.SumsCover.{difference_covers}
use Rattle.uz_range.proofs.sums.difference.Goals as goal

pub returns-clause-holds : goal.returns-clause-holds
returns-clause-holds c = rw c.difference_by_rule.ensures (difference_covers _ _ _)

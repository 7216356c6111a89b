use Rattle.uz_range.proofs.SumsCover.{negate_covers}
use Rattle.uz_range.proofs.sums.negate.Goals as goal

pub returns-clause-holds : goal.returns-clause-holds
returns-clause-holds c = rw c.negate_by_rule.ensures (negate_covers _)

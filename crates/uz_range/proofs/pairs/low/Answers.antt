use Rattle.uz_range.proofs.PairsCover.{low_covers}
use Rattle.uz_range.proofs.pairs.low.Goals as goal

pub returns-clause-holds : goal.returns-clause-holds
returns-clause-holds c = rw c.low_by_rule.ensures (low_covers _)

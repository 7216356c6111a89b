use Rattle.uz_range.proofs.ChainedCovers.{chained_covers}
use Rattle.uz_range.proofs.sums.chained.Goals as goal

pub returns-clause-holds : goal.returns-clause-holds
returns-clause-holds c = rw c.chained_by_rule.ensures (chained_covers _ _)

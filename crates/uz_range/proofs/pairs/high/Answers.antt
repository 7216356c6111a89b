use Rattle.uz_range.proofs.PairsCover.{high_covers}
use Rattle.uz_range.proofs.pairs.high.Goals as goal

pub returns-clause-holds : goal.returns-clause-holds
returns-clause-holds c = rw c.high_by_rule.ensures (high_covers _)

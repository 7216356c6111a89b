use Rattle.uz_range.proofs.PairsCover.{hull_covers}
use Rattle.uz_range.proofs.pairs.hull.Goals as goal

pub returns-clause-holds : goal.returns-clause-holds
returns-clause-holds c = rw c.hull.ensures (hull_covers _ _)

use Rattle.uz_range.proofs.PairsCover.{swap_covers}
use Rattle.uz_range.proofs.shifts.swap.Goals as goal

pub returns-clause-holds : goal.returns-clause-holds
returns-clause-holds c = rw c.swap_by_rule.ensures (swap_covers _)

use Rattle.uz_range.proofs.LogicCovers.{ror_covers}
use Rattle.uz_range.proofs.shifts.ror.Goals as goal

pub returns-clause-holds : goal.returns-clause-holds
returns-clause-holds c = rw c.ror_by_rule.ensures (ror_covers _ _)

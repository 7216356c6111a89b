use Rattle.uz_range.proofs.LogicCovers.{lsr_covers}
use Rattle.uz_range.proofs.shifts.lsr.Goals as goal

pub returns-clause-holds : goal.returns-clause-holds
returns-clause-holds c = rw c.lsr_by_rule.ensures (lsr_covers _)

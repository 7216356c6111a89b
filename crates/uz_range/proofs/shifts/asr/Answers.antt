use Rattle.uz_range.proofs.LogicCovers.{asr_covers}
use Rattle.uz_range.proofs.shifts.asr.Goals as goal

pub returns-clause-holds : goal.returns-clause-holds
returns-clause-holds c = rw c.asr_by_rule.ensures (asr_covers _)

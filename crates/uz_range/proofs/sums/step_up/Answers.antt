use Rattle.uz_range.proofs.LogicCovers.{step_up_covers}
use Rattle.uz_range.proofs.sums.step_up.Goals as goal

pub returns-clause-holds : goal.returns-clause-holds
returns-clause-holds c = rw c.step_up_by_rule.ensures (step_up_covers _)

use Rattle.uz_range.proofs.LogicCovers.{step_down_covers}
use Rattle.uz_range.proofs.sums.step_down.Goals as goal

pub returns-clause-holds : goal.returns-clause-holds
returns-clause-holds c = rw c.step_down_by_rule.ensures (step_down_covers _)

use Rattle.uz_rules.proofs.LimitsHold.{limits_give}
use Rattle.uz_rules.proofs.laws.limits_give.Goals as goal

pub returns : goal.returns
returns c = limits_give

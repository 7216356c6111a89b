use Rattle.uz_rules.proofs.InsideMeets.{state_inside}
use Rattle.uz_rules.proofs.laws.state_inside.Goals as goal

pub returns : goal.returns
returns c = state_inside

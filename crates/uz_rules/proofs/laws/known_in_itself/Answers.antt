use Rattle.uz_rules.proofs.InsideMeets.{known_in_itself}
use Rattle.uz_rules.proofs.laws.known_in_itself.Goals as goal

pub returns : goal.returns
returns c = known_in_itself

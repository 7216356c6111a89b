use Rattle.uz_rules.proofs.InsideMeets.{place_tells}
use Rattle.uz_rules.proofs.laws.place_tells.Goals as goal

pub returns : goal.returns
returns c = place_tells

use Rattle.uz_rules.proofs.InsideMeets.{place_holds}
use Rattle.uz_rules.proofs.laws.place_holds.Goals as goal

pub returns : goal.returns
returns c = place_holds

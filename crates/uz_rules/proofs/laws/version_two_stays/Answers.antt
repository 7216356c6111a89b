use Rattle.uz_rules.proofs.Containment.{version_two_stays}
use Rattle.uz_rules.proofs.laws.version_two_stays.Goals as goal

pub returns : goal.returns
returns c = version_two_stays

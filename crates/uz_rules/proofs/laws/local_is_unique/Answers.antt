use Rattle.uz_rules.proofs.LocalLaws.{local_is_unique}
use Rattle.uz_rules.proofs.laws.local_is_unique.Goals as goal

pub returns : goal.returns
returns c = local_is_unique

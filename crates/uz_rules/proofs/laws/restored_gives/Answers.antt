use Rattle.uz_rules.proofs.InsideMeets.{restored_gives}
use Rattle.uz_rules.proofs.laws.restored_gives.Goals as goal

pub returns : goal.returns
returns c = restored_gives

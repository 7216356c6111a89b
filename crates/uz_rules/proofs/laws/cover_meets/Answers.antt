use Rattle.uz_rules.proofs.CoverLaws.{cover_meets}
use Rattle.uz_rules.proofs.laws.cover_meets.Goals as goal

pub returns : goal.returns
returns c = cover_meets

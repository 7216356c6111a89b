use Rattle.uz_rules.proofs.NarrowingLaws.{narrowing_meets}
use Rattle.uz_rules.proofs.laws.narrowing_meets.Goals as goal

pub returns : goal.returns
returns c = narrowing_meets

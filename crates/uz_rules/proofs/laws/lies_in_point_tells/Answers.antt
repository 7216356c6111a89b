use Rattle.uz_rules.proofs.LocalLaws.{lies_in_point_tells}
use Rattle.uz_rules.proofs.laws.lies_in_point_tells.Goals as goal

pub returns : goal.returns
returns c = lies_in_point_tells

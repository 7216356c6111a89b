use Rattle.uz_explanations.proofs.RankLaws.{are_greatest}
use Rattle.uz_explanations.proofs.laws.told_are_greatest.Goals as goal

pub returns : goal.returns
returns c = are_greatest

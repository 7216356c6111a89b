use Rattle.uz_console.proofs.RunLaws.{turn_is_unique}
use Rattle.uz_console.proofs.laws.turn_is_unique.Goals as goal

pub returns : goal.returns
returns c = turn_is_unique

use Rattle.uz_schedule.proofs.SomeLevel.{level_somewhere}
use Rattle.uz_schedule.proofs.laws.level_exists.Goals as goal

pub returns-clause-some : goal.returns-clause-some
returns-clause-some c = level_somewhere

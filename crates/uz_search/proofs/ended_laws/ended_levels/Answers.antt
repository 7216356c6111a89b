use Rattle.uz_search.proofs.Frame.{levels_are}
use Rattle.uz_search.proofs.ended_laws.ended_levels.Goals as goal

pub returns : goal.returns
returns c = levels_are

use Rattle.uz_search.proofs.Frame.{levels_fit}
use Rattle.uz_search.proofs.ended_laws.ended_levels_fit.Goals as goal

pub returns : goal.returns
returns c = levels_fit

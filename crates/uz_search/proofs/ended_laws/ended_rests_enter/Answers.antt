use Rattle.uz_search.proofs.Frame.{rests_enter}
use Rattle.uz_search.proofs.ended_laws.ended_rests_enter.Goals as goal

pub returns : goal.returns
returns c = rests_enter

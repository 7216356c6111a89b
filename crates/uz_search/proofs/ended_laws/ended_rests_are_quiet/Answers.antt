use Rattle.uz_search.proofs.Frame.{rests_are_quiet}
use Rattle.uz_search.proofs.ended_laws.ended_rests_are_quiet.Goals as goal

pub returns : goal.returns
returns c = rests_are_quiet

use Rattle.uz_search.proofs.Frame.{falls_once}
use Rattle.uz_search.proofs.ended_laws.ended_falls_once.Goals as goal

pub returns : goal.returns
returns c = falls_once

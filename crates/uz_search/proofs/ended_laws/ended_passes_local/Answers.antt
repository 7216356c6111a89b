use Rattle.uz_search.proofs.LocalHolds.{passes_local}
use Rattle.uz_search.proofs.ended_laws.ended_passes_local.Goals as goal

pub returns : goal.returns
returns c = passes_local

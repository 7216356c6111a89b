use Rattle.uz_search.proofs.WithinLimits.{ended_within}
use Rattle.uz_search.proofs.ended_laws.ended_within_limits.Goals as goal

pub returns : goal.returns
returns c = ended_within

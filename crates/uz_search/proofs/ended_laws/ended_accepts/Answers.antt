use Rattle.uz_search.proofs.Accepted.{accepted}
use Rattle.uz_search.proofs.ended_laws.ended_accepts.Goals as goal

pub returns : goal.returns
returns c = accepted

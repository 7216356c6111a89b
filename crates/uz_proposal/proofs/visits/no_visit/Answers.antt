use Rattle.std.proofs.Common.{refl}
use Rattle.uz_proposal.proofs.VisitLemmas.{none_tell}
use Rattle.uz_proposal.proofs.visits.no_visit.Goals as goal

pub returns : goal.returns
returns c = none_tell _ refl refl refl

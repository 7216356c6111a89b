use Rattle.uz_proposal.proofs.VisitLemmas.{look_kept}
use Rattle.uz_proposal.proofs.visits.look.Goals as goal

pub returns : goal.returns
returns c = λ s stands.
    look_kept _ _ _ _ _ _ _ c.with_visit_if-visited.ensures c.with_uses_if.ensures (c.visits_here-here.ensures s stands) stands.core

use Rattle.std.proofs.Common.{◌<◌, length}
use Rattle.uz_search.proofs.TrailLemmas.{ReadBack}
use Rattle.uz_search.proofs.trail.trail_to.Given as goal

abbrev pub invariant-climb : goal.invariant-climb
invariant-climb l = record { within : l.at < length l.nodes; so_far : ReadBack l.nodes l.parents l.node l.at l.back.items }

abbrev pub decreases-climb : goal.decreases-climb
decreases-climb l = l.at

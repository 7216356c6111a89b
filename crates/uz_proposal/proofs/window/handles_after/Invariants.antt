use Rattle.std.proofs.Common.{◌≡◌, drop}
use Rattle.uz_proposal.specs.Moments.{after_edges}
use Rattle.uz_proposal.proofs.window.handles_after.Given as goal

abbrev pub invariant-loop-edge : goal.invariant-loop-edge
invariant-loop-edge l = after_edges l.handling (drop l.edge-index l.edges) ≡ after_edges l.fn.was l.edges

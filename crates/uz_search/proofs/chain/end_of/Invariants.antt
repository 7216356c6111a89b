use Rattle.uz_search.proofs.Common.{◌≡◌, ◌≤◌, length, folded, ranges_below}
use Rattle.uz_search.proofs.chain.end_of.Given as goal

-- the range goes over the facts that are left as over all
abbrev pub invariant-each : goal.invariant-each
invariant-each l = record {
  few : l.left ≤ length l.nodes;
  same : folded (ranges_below l.left l.nodes) l.range ≡ folded (ranges_below (length l.nodes) l.nodes) l.range;
}

abbrev pub decreases-each : goal.decreases-each
decreases-each l = l.left

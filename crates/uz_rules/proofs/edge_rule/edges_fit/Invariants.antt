use Rattle.uz_rules.proofs.Common.{◌≡◌, drop, position_of, edges_fit}
use Rattle.uz_rules.proofs.edge_rule.edges_fit.Given as goal

-- what is left answers for all
abbrev pub invariant-loop-exit : goal.invariant-loop-exit
invariant-loop-exit l =
    let here = edges_fit l.schedule (position_of l.schedule l.at) l.emitted in
    here (drop l.exit-index l.exits) ≡ here l.exits

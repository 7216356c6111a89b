use Rattle.uz_rules.proofs.Common.{◌≡◌, event_at, position_of, is_quiet}
use Rattle.uz_rules.proofs.edge_rule.is_quiet.Given as goal

-- the test so far
abbrev pub invariant-loop-k : goal.invariant-loop-k
invariant-loop-k l = l.quiet ≡ is_quiet (event_at l.schedule) (position_of l.schedule l.at) l.k

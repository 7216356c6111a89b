use Rattle.uz_rules.proofs.Common.{◌≡◌, value_at, all_below, value_inside}
use Rattle.uz_rules.proofs.inclusion.registers_inside.Given as goal

-- the test so far
abbrev pub invariant-loop-r : goal.invariant-loop-r
invariant-loop-r l = l.within ≡ all_below l.r (λ r. value_inside (value_at l.a r) (value_at l.b r))

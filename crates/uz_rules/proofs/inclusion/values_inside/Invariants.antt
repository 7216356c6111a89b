use Rattle.uz_rules.proofs.Common.{◌≡◌, value_at, all_below, value_inside}
use Rattle.uz_rules.proofs.inclusion.values_inside.Given as goal

-- the test so far
abbrev pub invariant-loop-i : goal.invariant-loop-i
invariant-loop-i l = l.within ≡ all_below l.i (λ i. value_inside (value_at l.a i) (value_at l.b i))

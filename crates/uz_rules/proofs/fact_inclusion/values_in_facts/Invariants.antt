use Rattle.uz_rules.proofs.Common.{◌≡◌, map, true, val_of, value_at, all_below, value_inside}
use Rattle.uz_rules.proofs.fact_inclusion.values_in_facts.Given as goal

-- those so far lie in what their facts say
abbrev pub invariant-loop-i : goal.invariant-loop-i
invariant-loop-i l = all_below l.i (λ i. value_inside (value_at l.vals i) (value_at (map (val_of l.line l.count) l.facts) i)) ≡ true

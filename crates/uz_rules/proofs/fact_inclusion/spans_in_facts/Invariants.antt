use Rattle.uz_rules.proofs.Common.{◌≡◌, map, true, cell_span, span_at, range_inside, all_below}
use Rattle.uz_rules.proofs.fact_inclusion.spans_in_facts.Given as goal

-- those so far lie in what their facts say
abbrev pub invariant-loop-j : goal.invariant-loop-j
invariant-loop-j l = all_below l.j (λ j. range_inside (span_at l.spans j) (span_at (map (cell_span l.line l.count) l.facts) j)) ≡ true

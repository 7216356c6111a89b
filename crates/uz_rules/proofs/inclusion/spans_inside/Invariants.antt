use Rattle.uz_rules.proofs.Common.{◌≡◌, span_at, range_inside, all_below}
use Rattle.uz_rules.proofs.inclusion.spans_inside.Given as goal

-- the test so far
abbrev pub invariant-loop-j : goal.invariant-loop-j
invariant-loop-j l = l.within ≡ all_below l.j (λ j. range_inside (span_at l.a j) (span_at l.b j))

use Rattle.uz_rules.proofs.Common.{◌≡◌, pair_at, range_inside, all_below}
use Rattle.uz_rules.proofs.inclusion.pairs_inside.Given as goal

-- the test so far
abbrev pub invariant-loop-k : goal.invariant-loop-k
invariant-loop-k l = l.within ≡ all_below l.k (λ k. range_inside (pair_at l.a k) (pair_at l.b k))

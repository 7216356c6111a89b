use Rattle.uz_rules.proofs.Common.{◌≡◌, flag_at, all_below, flag_inside}
use Rattle.uz_rules.proofs.inclusion.flags_inside.Given as goal

-- the test so far
abbrev pub invariant-loop-k : goal.invariant-loop-k
invariant-loop-k l = l.within ≡ all_below l.k (λ k. flag_inside (flag_at l.a k) (flag_at l.b k))

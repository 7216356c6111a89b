use Rattle.uz_rules.proofs.Common.{◌≡◌, flag_at, is_old, all_below}
use Rattle.uz_rules.proofs.inclusion.flags_restored.Given as goal

-- the test so far
abbrev pub invariant-loop-k : goal.invariant-loop-k
invariant-loop-k l = l.all ≡ all_below l.k (λ k. is_old (flag_at l.flags k))

use Rattle.uz_join.proofs.Common.{ℕ, ◌≤◌, ◌<◌, IsSaidBack}
use Rattle.uz_join.proofs.coverage.Coverage.has_counts.Given as goal

-- those so far are instances
abbrev pub invariant-loop-count : goal.invariant-loop-count
invariant-loop-count l = (j : ℕ) → l.point.c0 ≤ j → j < l.count → IsSaidBack l.self.nodes l.point l.line j

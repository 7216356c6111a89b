use Rattle.uz_join.proofs.Common.{◌≡◌, ◌<◌, ℕ, Some, slice_get, Point, IsSaidOver}
use Rattle.uz_join.proofs.coverage.Coverage.has_all.Given as goal

-- those so far are instances
abbrev pub invariant-loop-i : goal.invariant-loop-i
invariant-loop-i l = (j : ℕ) (q : Point) → j < l.i → slice_get l.self.points j ≡ Some q → IsSaidOver l.self.nodes q

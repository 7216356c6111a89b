use Rattle.uz_join.proofs.Common.{ℕ, ◌≤◌, ◌<◌, IsSaidBack}
use Rattle.uz_join.proofs.coverage.Coverage.has_lines.Given as goal

-- those so far are instances
abbrev pub invariant-loop-line : goal.invariant-loop-line
invariant-loop-line l =
    (j c : ℕ) → l.point.l0 ≤ j → j < l.line → l.point.c0 ≤ c → c ≤ l.point.c1 → IsSaidBack l.self.nodes l.point j c

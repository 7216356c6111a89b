use Rattle.uz_join.proofs.Common.{ℕ, ◌≤◌, ◌<◌, IsTold}
use Rattle.uz_join.proofs.sameness.is_wholly_told.Given as goal

-- those so far are told
abbrev pub invariant-loop-line : goal.invariant-loop-line
invariant-loop-line l =
    (j c : ℕ) → l.point.l0 ≤ j → j < l.line → l.point.c0 ≤ c → c ≤ l.point.c1 → IsTold l.others l.point j c

use Rattle.uz_join.proofs.Common.{ℕ, ◌≤◌, ◌<◌, IsTold}
use Rattle.uz_join.proofs.sameness.counts_told.Given as goal

-- those so far are told
abbrev pub invariant-loop-count : goal.invariant-loop-count
invariant-loop-count l = (j : ℕ) → l.point.c0 ≤ j → j < l.count → IsTold l.others l.point l.line j

use Rattle.std.proofs.Common.{ℕ, ◌≤◌}
use Rattle.uz_proposal.specs.Periods.{IsPeriod}
use Rattle.uz_proposal.proofs.periods.period_in.Given as goal

-- no number below the counter is a period
abbrev pub invariant-loop-lines : goal.invariant-loop-lines
invariant-loop-lines l = (lines from : ℕ) → IsPeriod l.keys lines from → l.lines ≤ lines

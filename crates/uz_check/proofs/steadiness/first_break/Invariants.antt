use Rattle.uz_check.proofs.Common.{◌≡◌, ◌-◌, length, first_break, break_from}
use Rattle.uz_check.proofs.steadiness.first_break.Given as goal

-- what is left answers for all
abbrev pub invariant-loop-line : goal.invariant-loop-line
invariant-loop-line l = break_from l.schedule l.line (length l.schedule.lines - l.line) ≡ first_break l.schedule

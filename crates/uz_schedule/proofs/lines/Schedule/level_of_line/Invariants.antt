use Rattle.std.proofs.Common.{◌≡◌, ◌+◌, ◌-◌}
use Rattle.uz_schedule.specs.Schedule.{start_of, sync_at, level_at, last_level}
use Rattle.uz_schedule.proofs.LastLevel.{start_round}
use Rattle.uz_schedule.proofs.lines.Schedule.level_of_line.Given as goal

-- the lines that are left answer for the frame
abbrev pub invariant-loop-back : goal.invariant-loop-back
invariant-loop-back l = level_at l.self (start_of l.self l.line + l.clock) ≡ last_level (sync_at l.self) (start_round l.self (l.line + l.lines - l.back) - start_of
    l.self l.line) (start_round l.self (l.line + l.lines - l.back) - 1)

use Rattle.std.proofs.Common.{◌≡◌, ◌*◌, ◌≤◌}
use Rattle.uz_schedule.specs.Schedule.{scanline, start_of}
use Rattle.uz_schedule.proofs.lines.Schedule.start.Given as goal

abbrev pub invariant-loop-before : goal.invariant-loop-before
invariant-loop-before l = record { is : l.start ≡ start_of l.self l.before; few : l.start ≤ scanline * l.before }

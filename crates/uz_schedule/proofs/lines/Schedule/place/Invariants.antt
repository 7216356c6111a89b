use Rattle.std.proofs.Common.{◌≡◌, ◌+◌, ◌%◌}
use Rattle.uz_schedule.specs.Schedule.{start_of, frame_of}
use Rattle.uz_schedule.proofs.lines.Schedule.place.Given as goal

abbrev pub invariant-loop-line : goal.invariant-loop-line
invariant-loop-line l = start_of l.self l.line + l.clock ≡ l.position % frame_of l.self

use Rattle.std.proofs.Common.{take}
use Rattle.uz_schedule.specs.Schedule.{frame_of}
use Rattle.uz_console.specs.Consoles.{state_of}
use Rattle.uz_console.specs.Entering.{EntersAtOne, IsLeast}
use Rattle.uz_console.proofs.console.Console.at_rests.Given as goal

abbrev pub invariant-loop-rest : goal.invariant-loop-rest
invariant-loop-rest l = IsLeast (frame_of l.cert.schedule) (EntersAtOne l.cert (state_of l.self) (take l.rest-index l.rest-items)) l.least

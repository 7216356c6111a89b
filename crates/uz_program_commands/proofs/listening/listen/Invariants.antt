use Rattle.std.proofs.Common.{◌≤◌, ◌-◌, []}
use Rattle.uz_core.specs.PadLine.{PadHistory}
use Rattle.uz_core.specs.Turn.{State}
use Rattle.uz_console.specs.Consoles.{StandsFor, clock_of}
use Rattle.uz_console.specs.Runs.{RunsTo}
use Rattle.uz_report.specs.Waves as wave
use Rattle.uz_program_commands.specs.WaveValues.{IsHeardSoFar}
use Rattle.uz_program_commands.proofs.listening.listen.Given as goal

abbrev pub invariant-pages : goal.invariant-pages
invariant-pages l = record {
  heard : (start : State PadHistory) → RunsTo l.limit start [] l.initial.console → IsHeardSoFar l.limit start l.console l.wave;
  stands : (s : State PadHistory) × StandsFor l.console s;
  timed : wave.clock_of l.wave ≤ clock_of l.console;
}

-- the clocks that are left
abbrev pub decreases-pages : goal.decreases-pages
decreases-pages l = l.limit - clock_of l.console

use Rattle.std.proofs.Common.{◌≤◌, ◌-◌, []}
use Rattle.uz_core.specs.PadLine.{PadHistory}
use Rattle.uz_core.specs.Turn.{State}
use Rattle.uz_console.specs.Consoles.{clock_of}
use Rattle.uz_console.specs.Runs.{RunsTo}
use Rattle.uz_program_commands.specs.TraceValues.{IsPrintedSoFar}
use Rattle.uz_program_commands.proofs.trace_command.print_run.Given as goal

abbrev pub invariant-turns : goal.invariant-turns
invariant-turns g l = record {
  printed : (start : State PadHistory) → RunsTo l.limit start [] l.initial.console → IsPrintedSoFar l.limit start l.console
      (g.K.Sink.text l.initial.out) (g.K.Sink.text l.out);
  faults : g.K.Sink.faults l.initial.out ≤ g.K.Sink.faults l.out;
}

-- the clocks that are left
abbrev pub decreases-turns : goal.decreases-turns
decreases-turns g l = l.limit - clock_of l.console

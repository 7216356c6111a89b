-- The values of the code that make a trace.
use Rattle.std.specs.Prelude.{◌≡◌, ℕ, List, Option}
use Rattle.uz_shelf.specs.Text.{TakesAll, TakesPrefix}
use Rattle.uz_core.specs.declared.machine.Edge.{Edge}
use Rattle.uz_core.specs.PadLine.{PadHistory}
use Rattle.uz_core.specs.Turn.{State}
use Rattle.uz_core.specs.Run.{IsClockRun, IsRunPart, IsStoppedRun}
use Rattle.uz_console.specs.declared.console.Console.{Console}
use Rattle.uz_console.specs.Runs.{RunsTo}
use Rattle.uz_console.specs.Turns.{Halts}
use Rattle.uz_program_commands.specs.declared.trace_command.RunEnd.{RunEnd}
use Rattle.uz_program_commands.specs.declared.trace_command.RunEnd.TheVariants.{Over, Stopped}
use Rattle.uz_files.specs.declared.status.Status.{Status}
use Rattle.uz_files.specs.declared.status.Status.TheVariants as status
use Rattle.uz_files.specs.declared.status.Status.TheVariants.{Done}
use Rattle.uz_program_commands.specs.TraceCommand.{edge_lines, end_line}
use Rattle.uz_files.specs.StopLines.{stopped_line}

-- the lines of the whole run from this state are printed
abbrev pub IsPrinted : ℕ → State PadHistory → RunEnd → Option (List ℕ) → Option (List ℕ) → Type 0
IsPrinted limit start Over old new =
    (edges : List Edge) × (last : State PadHistory) × IsClockRun limit start edges last × TakesAll old (edge_lines edges) new
IsPrinted limit start (Stopped pc why) old new =
    (edges : List Edge) × (last : State PadHistory) × IsStoppedRun limit start edges last × Halts last why × (pc ≡ last.core.pc)
    × TakesAll old (edge_lines edges) new

-- a prefix of the lines of a part of the run is
abbrev pub IsPrintedPart : ℕ → State PadHistory → Option (List ℕ) → Option (List ℕ) → Type 0
IsPrintedPart limit start old new =
    (edges : List Edge) × (last : State PadHistory) × IsRunPart limit start edges last × TakesPrefix old (edge_lines edges) new

-- the console has come so far, and the lines of that part are printed
abbrev pub IsPrintedSoFar : ℕ → State PadHistory → Console → Option (List ℕ) → Option (List ℕ) → Type 0
IsPrintedSoFar limit start console old new =
    (edges : List Edge) × RunsTo limit start edges console × TakesAll old (edge_lines edges) new

-- the status and the line of a run's end
abbrev pub end_status : RunEnd → Status
end_status Over = Done
end_status (Stopped pc why) = status.Stopped

abbrev pub last_line : ℕ → RunEnd → List ℕ
last_line clocks Over = end_line clocks
last_line clocks (Stopped pc why) = stopped_line pc why

-- A run that goes on until it is over or stopped.
use Rattle.std.specs.Prelude.{ℕ, List, ◌++◌, Option, None, Some}
use Rattle.uz_core.specs.declared.machine.Edge.{Edge}
use Rattle.uz_core.specs.PadLine.{PadHistory}
use Rattle.uz_core.specs.Turn.{State}
use Rattle.uz_core.specs.Run.{IsStoppedRun}
use Rattle.uz_core.specs.declared.step.Why.{Why}
use Rattle.uz_console.specs.declared.console.Console.{Console}
use Rattle.uz_console.specs.Consoles.{StandsFor}
use Rattle.uz_console.specs.Runs.{RunIsOver, RunsTo}
use Rattle.uz_console.specs.Turns.{Halts}

-- None: the run of so many clocks is over, with more edges. Some: it is stopped, and why
abbrev pub IsReached : ℕ → State PadHistory → List Edge → Console → Option Why → Type 0
IsReached limit start edges console None = (more : List Edge) × RunIsOver limit start (edges ++ more) console
IsReached limit start edges console (Some why) =
    (more : List Edge) × (last : State PadHistory) × IsStoppedRun limit start (edges ++ more) last × Halts last why × StandsFor console last

-- on the way
abbrev pub IsOnTheWay : ℕ → State PadHistory → List Edge → Console → Type 0
IsOnTheWay limit start edges console = (more : List Edge) × RunsTo limit start (edges ++ more) console

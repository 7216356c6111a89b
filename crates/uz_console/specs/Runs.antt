-- Runs of so many clocks, of which a console has made a part.
use Rattle.std.specs.Prelude.{ℕ, ◌≤◌, List, [], ◌∷◌}
use Rattle.uz_core.specs.declared.machine.Edge.{Edge}
use Rattle.uz_core.specs.PadLine.{PadHistory}
use Rattle.uz_core.specs.Turn.{State}
use Rattle.uz_core.specs.Run.{IsRunPart, IsClockRun}
use Rattle.uz_console.specs.declared.console.Console.{Console}
use Rattle.uz_console.specs.Consoles.{StandsFor}

-- A console that has come from a state by turns that begin before the limit, with these of their edges in time
abbrev pub RunsTo : ℕ → State PadHistory → List Edge → Console → Type 0
RunsTo limit start edges console = (last : State PadHistory) × IsRunPart limit start edges last × StandsFor console last

-- the run of so many clocks is over there
abbrev pub RunIsOver : ℕ → State PadHistory → List Edge → Console → Type 0
RunIsOver limit start edges console = (last : State PadHistory) × IsClockRun limit start edges last × StandsFor console last

-- the clocks of edges never fall, and lie between two clocks
abbrev pub AreTimed : ℕ → ℕ → List Edge → Type 0
AreTimed from to [] = from ≤ to
AreTimed from to (e ∷ later) = (from ≤ e.clock) × AreTimed e.clock to later

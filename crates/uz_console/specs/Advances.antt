-- Turns up to one with edges.
use Rattle.std.specs.Prelude.{◌≡◌, ℕ, ◌<◌, ◌≤◌, List, [], Option, None, Some}
use Rattle.uz_core.specs.declared.machine.Edge.{Edge}
use Rattle.uz_core.specs.PadLine.{PadHistory}
use Rattle.uz_core.specs.Turn.{State}
use Rattle.uz_core.specs.Run.{Run, TurnBefore}
use Rattle.uz_core.specs.declared.step.Why.{Why}
use Rattle.uz_console.specs.declared.console.Console.{Console}
use Rattle.uz_console.specs.Consoles.{StandsFor, clock_of}
use Rattle.uz_console.specs.Runs.{AreTimed}
use Rattle.uz_console.specs.Turns.{Halts}

-- Turns, each of which begins before a clock, lead from a state to one that a console stands for. These are all their edges, and they lie
-- between the clocks of the two
pub record Reaches (until : ℕ) (s : State PadHistory) (edges : List Edge) (console : Console) : Type 0 where
  pub turns : ℕ
  pub last : State PadHistory
  pub run : Run (TurnBefore until) turns s edges last
  pub stands : StandsFor console last
  pub timed : AreTimed s.clock last.clock edges

-- None: from each state that the console stood for such turns are made. Some: they have no edge, and the states that they lead to have no
-- turn
abbrev pub Advances : ℕ → Console → Console → List Edge → Option Why → Type 0
Advances until old new edges None = (s : State PadHistory) → StandsFor old s → Reaches until s edges new
Advances until old new edges (Some why) =
    (edges ≡ []) × ((s : State PadHistory) → StandsFor old s → Reaches until s [] new)
    × ((s : State PadHistory) → StandsFor new s → Halts s why)

-- the clock goes on, and where there is no next turn it stays before that clock
abbrev pub AdvanceTakesTime : ℕ → Console → Console → Option Why → Type 0
AdvanceTakesTime until old new None = clock_of old < clock_of new
AdvanceTakesTime until old new (Some why) = (clock_of old ≤ clock_of new) × (clock_of new < until)

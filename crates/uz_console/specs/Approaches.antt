-- Runs of so many clocks up to the first state that meets the entry condition of a certificate.
use Rattle.std.specs.Prelude.{◌≡◌, ℕ, ◌<◌, ◌≤◌, List, ◌++◌}
use Rattle.uz_schedule.specs.declared.certificate.Cert.{Cert}
use Rattle.uz_core.specs.declared.machine.Edge.{Edge}
use Rattle.uz_core.specs.PadLine.{PadHistory}
use Rattle.uz_core.specs.Turn.{State}
use Rattle.uz_core.specs.Run.{Run, TurnBefore, IsRunPart, IsClockRun, IsStoppedRun}
use Rattle.uz_console.specs.declared.console.Console.{Console}
use Rattle.uz_console.specs.declared.approach.Approach.{Approach}
use Rattle.uz_console.specs.declared.approach.Approach.TheVariants.{Took, Entered, Over, Stopped}
use Rattle.uz_console.specs.Consoles.{StandsFor, clock_of}
use Rattle.uz_console.specs.Entry.{NotEntered}
use Rattle.uz_console.specs.Entering.{IsFirstEntry}
use Rattle.uz_console.specs.Runs.{AreTimed}
use Rattle.uz_console.specs.Turns.{Halts}

-- no state of the run of so many clocks from `start` meets the condition before so many turns are made
abbrev pub NotEnteredBefore : Cert → ℕ → State PadHistory → ℕ → Type 0
NotEnteredBefore cert limit start turns =
    (m : ℕ) (edges : List Edge) (s : State PadHistory) → m < turns → Run (TurnBefore limit) m start edges s → NotEntered cert s

-- no state of that run meets it; its states are those of clock below the limit
abbrev pub NeverEnters : Cert → ℕ → State PadHistory → Type 0
NeverEnters cert limit start =
    (m : ℕ) (edges : List Edge) (s : State PadHistory) → Run (TurnBefore limit) m start edges s → s.clock < limit → NotEntered cert s

-- the first state of that run that meets it has this clock, and meets it at this position first
pub record EntersFirst (cert : Cert) (limit : ℕ) (start : State PadHistory) (clock p : ℕ) : Type 0 where
  pub turns : ℕ
  pub edges : List Edge
  pub state : State PadHistory
  pub run : Run (TurnBefore limit) turns start edges state
  pub in_run : state.clock < limit
  pub clock_is : state.clock ≡ clock
  pub meets : IsFirstEntry cert state p
  pub none_before : NotEnteredBefore cert limit start turns

-- a console that has come from a state by a part of that run with these edges, and no state before its own has entered
pub record RunsUnentered (cert : Cert) (limit : ℕ) (start : State PadHistory) (edges : List Edge) (console : Console) : Type 0 where
  pub last : State PadHistory
  pub part : IsRunPart limit start edges last
  pub stands : StandsFor console last
  pub none_before : NotEnteredBefore cert limit start part.turns

-- Took: more turns, and no state on the way has entered. Entered: the console's state is the first that has. Over, Stopped:
-- that run is at its end, and none has
abbrev pub IsApproach : Cert → ℕ → Console → Console → Approach → Type 0
IsApproach cert limit old new (Took more) =
    (start : State PadHistory) (edges : List Edge) → RunsUnentered cert limit start edges old → RunsUnentered cert limit start
    (edges ++ more.items) new
IsApproach cert limit old new (Entered position) =
    (start : State PadHistory) (edges : List Edge) → RunsUnentered cert limit start edges old →
    RunsUnentered cert limit start edges new × EntersFirst cert limit start (clock_of new) position
IsApproach cert limit old new Over =
    (start : State PadHistory) (edges : List Edge) → RunsUnentered cert limit start edges old →
    (last : State PadHistory) × IsClockRun limit start edges last × StandsFor new last × NeverEnters cert limit start × RunsUnentered cert
    limit start edges new
IsApproach cert limit old new (Stopped why) =
    (start : State PadHistory) (edges : List Edge) → RunsUnentered cert limit start edges old →
    (last : State PadHistory) × IsStoppedRun limit start edges last × Halts last why × StandsFor new last × NeverEnters cert limit start
    × RunsUnentered cert limit start edges new

-- an answer with edges brings the clock nearer to the limit, and the clock never goes back
abbrev pub ApproachMovesOn : ℕ → Console → Console → Approach → Type 0
ApproachMovesOn limit old new (Took more) = (clock_of old < clock_of new) × (clock_of old < limit)
ApproachMovesOn limit old new (Entered position) = (clock_of old ≤ clock_of new) × (clock_of new < limit)
ApproachMovesOn limit old new Over = clock_of old ≤ clock_of new
ApproachMovesOn limit old new (Stopped why) = clock_of old ≤ clock_of new

-- the edges of an answer lie between the clocks before it and after it
abbrev pub ApproachIsTimed : Console → Console → Approach → Type 0
ApproachIsTimed old new (Took more) = (s : State PadHistory) → StandsFor old s → AreTimed (clock_of old) (clock_of new) more.items
ApproachIsTimed old new (Entered position) = Unit {0}
ApproachIsTimed old new Over = Unit {0}
ApproachIsTimed old new (Stopped why) = Unit {0}

-- Runs: turns one after another. A run is of any state and any turn; the machine's runs are its instances.
use Rattle.std.specs.Prelude.{◌≡◌, ℕ, zero, suc, ◌<◌, ◌≤◌, nat_le, List, [], ◌++◌, filter}
use Rattle.uz_core.specs.declared.machine.Edge.{Edge}
use Rattle.uz_core.specs.PadLine.{PadHistory}
use Rattle.uz_core.specs.Space.{history_wiring}
use Rattle.uz_core.specs.Turn.{State, Turn}

-- So many turns from a state, with all their edges in order, to the last state. Nothing here knows what a turn is
abbrev pub Run : {S : Type 0} → (S → List Edge → S → Type 0) → ℕ → S → List Edge → S → Type 0
Run turn zero s edges last = (edges ≡ []) × (last ≡ s)
Run {S = S} turn (suc n) s edges last =
    (first : List Edge) × (mid : S) × (rest : List Edge) × turn s first mid × Run turn n mid rest last × (edges ≡ first ++ rest)

-- a turn of the machine, over the whole list of PORTA's values
abbrev pub MachineTurn : State PadHistory → List Edge → State PadHistory → Type 0
MachineTurn s edges next = Turn history_wiring s edges next

-- no turn goes on from a state
abbrev pub HasNoTurn : State PadHistory → Type 0
HasNoTurn s = (edges : List Edge) (next : State PadHistory) → MachineTurn s edges next → ⊥

-- a turn that begins before the limit
abbrev pub TurnBefore : ℕ → State PadHistory → List Edge → State PadHistory → Type 0
TurnBefore limit s edges next = (s.clock < limit) × MachineTurn s edges next

-- the edges of clock at most the limit
abbrev pub edges_until : ℕ → List Edge → List Edge
edges_until limit edges = filter (λ edge. nat_le edge.clock limit) edges

-- Part of the run of so many clocks: turns that begin before the limit, and those of their edges whose clock is at most the limit
pub record IsRunPart (limit : ℕ) (s : State PadHistory) (edges : List Edge) (last : State PadHistory) : Type 0 where
  pub turns : ℕ
  pub all_edges : List Edge
  pub run : Run (TurnBefore limit) turns s all_edges last
  pub in_time : edges ≡ edges_until limit all_edges

-- The run of so many clocks, where it isn't stopped: every turn that begins before the limit is made
pub record IsClockRun (limit : ℕ) (s : State PadHistory) (edges : List Edge) (last : State PadHistory) : Type 0 where
  pub part : IsRunPart limit s edges last
  pub over : limit ≤ last.clock

-- The run of so many clocks, where it is stopped: one of its states, that is one of clock below the limit, has no turn
pub record IsStoppedRun (limit : ℕ) (s : State PadHistory) (edges : List Edge) (last : State PadHistory) : Type 0 where
  pub part : IsRunPart limit s edges last
  pub in_run : last.clock < limit
  pub stopped : HasNoTurn last

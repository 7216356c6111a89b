-- Turns of a run, one after another.
use Rattle.std.specs.Prelude.{◌≡◌, ℕ, Bool, true, false, if◌then◌else◌, nat_eq, List, [], ◌∷◌, ◌++◌, Option, None, Some}
use Rattle.uz_core.specs.declared.machine.Edge.{Edge}
use Rattle.uz_core.specs.declared.machine.EdgeKind.{EdgeKind}
use Rattle.uz_core.specs.declared.machine.EdgeKind.TheVariants.{Enter, Leave}
use Rattle.uz_core.specs.PadLine.{PadHistory}
use Rattle.uz_core.specs.Turn.{State}
use Rattle.uz_core.specs.Run.{TurnBefore}
use Rattle.uz_proposal.specs.declared.stores.Stored.{Stored}
use Rattle.uz_proposal.specs.Matches.{clocks_left, matches_in}
use Rattle.uz_proposal.specs.Stores.{StoresOf}

-- a turn: the states before and after it, its edges, and what its instruction stores
pub record Moment : Type 0 where
  pub before : State PadHistory
  pub edges : List Edge
  pub after : State PadHistory
  pub store : Option Stored

-- it is a turn of the machine that begins before the limit
pub record IsMoment (limit : ℕ) (m : Moment) : Type 0 where
  pub turn : TurnBefore limit m.before m.edges m.after
  pub store : StoresOf m.before m.store

-- Turns from a state to another, the newest first
abbrev pub Leads : ℕ → State PadHistory → List Moment → State PadHistory → Type 0
Leads limit first [] last = last ≡ first
Leads limit first (m ∷ earlier) last = (m.after ≡ last) × IsMoment limit m × Leads limit first earlier m.before

-- their edges, and the clocks of the timer's matches within them, in the order of time
abbrev pub edges_of : List Moment → List Edge
edges_of [] = []
edges_of (m ∷ earlier) = edges_of earlier ++ m.edges

abbrev pub matches_of : List Moment → List ℕ
matches_of [] = []
matches_of (m ∷ earlier) = matches_of earlier ++ matches_in m.before.clock m.after.clock (clocks_left m.before.space.timer)

-- Whether the interrupt's handler runs: from its entry to the end of its RETI
abbrev pub after_kind : Bool → EdgeKind → Bool
after_kind was (Enter count) = true
after_kind was Leave = false
after_kind was other = was

abbrev pub after_edges : Bool → List Edge → Bool
after_edges was [] = was
after_edges was (e ∷ later) = after_edges (after_kind was e.kind) later

-- whether it runs after those turns, from whether it did before them
abbrev pub is_handling : Bool → List Moment → Bool
is_handling first [] = first
is_handling first (m ∷ earlier) = after_edges (is_handling first earlier) m.edges

-- a store, if it is one of the handler (true) or of main (false)
abbrev pub store_by : Bool → Bool → Option Stored → Option Stored
store_by true true store = store
store_by false false store = store
store_by who handling store = None

-- The bytes that main or the handler store at an address, the newest first
abbrev pub byte_at : ℕ → Option Stored → List ℕ
byte_at at None = []
byte_at at (Some w) = if nat_eq w.at at then w.value ∷ [] else []

abbrev pub bytes_stored : Bool → Bool → ℕ → List Moment → List ℕ
bytes_stored first who at [] = []
bytes_stored first who at (m ∷ earlier) =
    byte_at at (store_by who (is_handling first earlier) m.store) ++ bytes_stored first who at earlier

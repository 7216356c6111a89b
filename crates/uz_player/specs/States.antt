-- A play as plain fields: the states of the machine that they stand for.
use Rattle.std.specs.Prelude.{◌≡◌, ℕ, ◌%◌, ◌==◌, Bool, not, if◌then◌else◌, List, [], ◌∷◌, take, drop, slice_index_or, Option, Some, None}
use Rattle.uz_core.specs.Core.{Core}
use Rattle.uz_core.specs.declared.machine.Edge.{Edge}
use Rattle.uz_core.specs.declared.machine.EdgeKind.{EdgeKind}
use Rattle.uz_core.specs.declared.machine.EdgeKind.TheVariants.{Sync, Pixel, Sound, Enter, Leave}
use Rattle.uz_core.specs.PadLine.{PadHistory, is_fall}
use Rattle.uz_core.specs.Timer.{Timer}
use Rattle.uz_core.specs.Turn as machine
use Rattle.uz_console.specs.Runs.{AreTimed}
use Rattle.uz_pads.specs.declared.pads.Pad.{Pad}
use Rattle.uz_pads.specs.declared.pads.PadState.{PadState}
use Rattle.uz_pads.specs.Pads.{StateStandsFor, pairs_of}
use Rattle.uz_scan.specs.declared.states.ScanState.{ScanState}
use Rattle.uz_scan.specs.ScanStates.{HasSeen}
use Rattle.uz_player.specs.declared.state.CoreState.{CoreState}
use Rattle.uz_player.specs.declared.state.TimerState.{TimerState}
use Rattle.uz_player.specs.declared.state.PadsState.{PadsState}
use Rattle.uz_player.specs.declared.state.PictureState.{PictureState}
use Rattle.uz_player.specs.declared.state.EdgeState.{EdgeState}
use Rattle.uz_player.specs.declared.state.State.{State}

-- What the fields say

-- a byte that is 0 or not
abbrev pub flag : ℕ → Bool
flag n = not (n == 0)

abbrev pub number_if : ℕ → ℕ → Option ℕ
number_if has n = if flag has then Some n else None

abbrev pub response_in : ℕ → ℕ
response_in n = if n == 5 then 5 else 4

abbrev pub core_in : CoreState → Core
core_in c = record { pc = c.pc % 32768; registers = c.registers; sreg = c.sreg; sp = c.sp }

abbrev pub timer_in : TimerState → Timer
timer_in t = record {
  count = t.count;
  top = t.top;
  matched = flag t.matched;
  temp = t.temp;
  interrupt_mask = t.interrupt_mask;
  control_a = t.control_a;
  control_b = t.control_b;
}

-- the pair that the last latch loaded
abbrev pub pad_in : PadsState → Option Pad
pad_in p = if flag p.latched then Some (record { one = p.one; two = p.two }) else None

abbrev pub pads_in : PadsState → List Pad
pads_in p = if flag p.latched then record { one = p.one; two = p.two } ∷ [] else []

-- the pads' state, where the next latch loads the pair at this place of some list
abbrev pub pad_state_in : ℕ → PadsState → PadState
pad_state_in next p = record { level = p.level; next = next; current = pad_in p; moves = p.moves }

abbrev pub picture_in : PictureState → ScanState
picture_in p = record {
  clock = p.clock;
  is_high = flag p.is_high;
  sound = p.sound;
  start = number_if p.has_start p.start;
  low = number_if p.has_low p.low;
  after_broad = flag p.after_broad;
  frame = p.frame;
  rows = p.rows;
  value = p.pixel;
  filled = p.filled;
  samples = p.samples;
  row = p.row;
}

abbrev pub kind_in : ℕ → ℕ → EdgeKind
kind_in kind value =
    if kind == 0 then Sync (value % 256) else
    if kind == 1 then Pixel (value % 256) else
    if kind == 2 then Sound (value % 256) else
    if kind == 3 then Enter value else Leave

abbrev pub edge_in : EdgeState → Edge
edge_in e = record { clock = e.clock; kind = kind_in e.kind e.value }

abbrev pub no_edge : EdgeState
no_edge = record { clock = 0; value = 0; kind = 0; unused = 0 ∷ 0 ∷ 0 ∷ 0 ∷ 0 ∷ [] }

abbrev pub edge_at : State → ℕ → Edge
edge_at state k = edge_in (slice_index_or state.edges k no_edge)

-- the edges of the last turn
abbrev pub edges_in : State → List Edge
edges_in state = take state.edge_count (edge_at state 0 ∷ edge_at state 1 ∷ edge_at state 2 ∷ edge_at state 3 ∷ [])

-- those that the picture hasn't seen
abbrev pub left_in : State → List Edge
left_in state = drop state.edges_seen (edges_in state)

-- What the fields stand for

-- pads that stand for a history over some list, of which the fields keep the pair that was latched last
pub record PadsStandFor (p : PadsState) (history : PadHistory) : Type 0 where
  pub list : List Pad
  pub next : ℕ
  pub stands : StateStandsFor list (pad_state_in next p) history

-- The fields are those of a play at a state of the machine, whose picture is that of these edges (newest first)
pub record StandsFor (state : State) (s : machine.State PadHistory) (seen : List Edge) : Type 0 where
  pub core : (s.core ≡ core_in state.core) × (s.is_owed ≡ flag state.core.owed)
  pub bytes : s.space.bytes ≡ state.bytes
  pub timer : s.space.timer ≡ timer_in state.timer
  pub pads : PadsStandFor state.pads s.space.pads
  pub clocks : (s.clock ≡ state.clock) × (s.response ≡ response_in state.response)
  pub picture : HasSeen (picture_in state.picture) seen
  pub timed : AreTimed state.picture.clock state.clock (left_in state)

-- What pads remember

-- PORTA's values from the last latch on, with the one before it; all of them where there is none
abbrev pub older_since_latch : ℕ → List ℕ → List ℕ
older_since_latch new [] = []
older_since_latch new (old ∷ older) = old ∷ (if is_fall 2 (old, new) then [] else older_since_latch old older)

abbrev pub levels_since_latch : List ℕ → List ℕ
levels_since_latch [] = []
levels_since_latch (new ∷ older) = new ∷ older_since_latch new older

-- the history of pads that were latched once, with this pair, or never
abbrev pub remembered : List Pad → PadHistory → PadHistory
remembered pads history = record { pairs = pairs_of pads; levels = levels_since_latch history.levels }

-- the state with such a history
abbrev pub remembering : List Pad → machine.State PadHistory → machine.State PadHistory
remembering pads s =
    record s { space = record { bytes = s.space.bytes; timer = s.space.timer; pads = remembered pads s.space.pads } }

-- Calls of live play: from plain fields to plain fields.
use Rattle.std.specs.Prelude.{◌≡◌, ℕ, ◌+◌, ◌<◌, ◌≤◌, List, [], ◌++◌, length, reverse}
use Rattle.std.specs.Ordering.{nat_cmp}
use Rattle.std.specs.FinMap.{FinMap}
use Rattle.uz_core.specs.declared.machine.Edge.{Edge}
use Rattle.uz_core.specs.PadLine.{PadHistory, latches}
use Rattle.uz_core.specs.Run.{HasNoTurn, MachineTurn, Run}
use Rattle.uz_core.specs.Turn as machine
use Rattle.uz_console.specs.Holding.{holding_state}
use Rattle.uz_pads.specs.declared.pads.Pad.{Pad}
use Rattle.uz_scan.specs.Pictures.{end_bytes, records}
use Rattle.uz_scan.specs.declared.records.FrameInfo.{FrameInfo}
use Rattle.uz_player.specs.declared.calls.Called.{Called}
use Rattle.uz_player.specs.declared.frame.Frame.{Frame}
use Rattle.uz_player.specs.declared.frame.Frame.TheVariants as how
use Rattle.uz_player.specs.declared.frame.Frame.TheVariants.{Over, Stopped}
use Rattle.uz_player.specs.declared.state.State.{State}
use Rattle.uz_player.specs.Frames.{end_of}
use Rattle.uz_player.specs.States.{StandsFor, left_in, pads_in, remembering}

-- From a state of the machine whose pads are held, and a picture, fields have gone on by turns of the machine. No edge is lost: each is
-- scanned, in order, or left. The records of the picture have these bytes more. Latches are counted up to 65,536
pub record CallGoesOn (held : machine.State PadHistory) (old : State) (seen : List Edge) (called : Called) (bytes : List ℕ) : Type 0 where
  pub turns : ℕ
  pub edges : List Edge
  pub last : machine.State PadHistory
  pub run : Run MachineTurn turns held edges last
  pub scanned : List Edge
  pub kept : left_in old ++ edges ≡ scanned ++ left_in called.state
  pub stands : StandsFor called.state last (reverse scanned ++ seen)
  pub records : records (reverse scanned ++ seen) ≡ records seen ++ bytes
  pub latches : called.latches < 65536 → latches last.space.pads.levels ≡ latches held.space.pads.levels + called.latches
  pub stops : called.frame ≡ Stopped → HasNoTurn last

-- The fields stood for a state with this flash in which no latch found the list at its end. Buttons are held from there on, and of what
-- was latched the last pair alone is remembered
abbrev pub Calls : Pad → FinMap nat_cmp ℕ → State → Called → List ℕ → Type 0
Calls pad image old called bytes = (s : machine.State PadHistory) (seen : List Edge) → StandsFor old s seen → image ≡ s.image
    → latches s.space.pads.levels ≤ length s.space.pads.pairs
    → CallGoesOn (holding_state pad 65536 (remembering (pads_in old.pads) s)) old seen called bytes

-- where a frame is over, its end's record is the last one; else every edge is scanned, and each turn that begins before a clock is made or
-- the next one begins before it
abbrev pub CallEnds : ℕ → State → List ℕ → Frame → Type 0
CallEnds until new bytes Over = (rows : List ℕ) × (info : FrameInfo) × (bytes ≡ rows ++ end_bytes info)
CallEnds until new bytes how.Quiet = (left_in new ≡ []) × (until ≤ new.clock)
CallEnds until new bytes Stopped = (left_in new ≡ []) × (new.clock < until)

-- records are put behind a list, as the fields go on
pub record IsCalled (pad : Pad) (clocks : ℕ) (image : FinMap nat_cmp ℕ) (old : State) (out_old out_new : List ℕ) (called : Called) : Type 0 where
  pub bytes : List ℕ
  pub put : out_new ≡ out_old ++ bytes
  pub goes : Calls pad image old called bytes
  pub ends : CallEnds (end_of old.clock clocks) called.state bytes called.frame

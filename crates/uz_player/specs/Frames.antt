-- What a play stands for, and how it goes on.
use Rattle.std.specs.Prelude.{◌≡◌, ℕ, ◌+◌, ◌*◌, ◌-◌, ◌^◌, ◌≤◌, ◌<◌, min, Option, None, Some, List, [], ◌∷◌, ◌++◌, drop, length, reverse}
use Rattle.uz_core.specs.declared.machine.Edge.{Edge}
use Rattle.uz_core.specs.PadLine.{PadHistory, latches}
use Rattle.uz_core.specs.Turn.{State}
use Rattle.uz_core.specs.Run.{HasNoTurn, MachineTurn, Run}
use Rattle.uz_core.specs.declared.step.Why.{Why}
use Rattle.uz_console.specs.Consoles as console
use Rattle.uz_console.specs.Holding.{holding_state}
use Rattle.uz_console.specs.Runs.{AreTimed}
use Rattle.uz_pads.specs.declared.pads.Pad.{Pad}
use Rattle.uz_scan.specs.Pictures.{end_bytes, records}
use Rattle.uz_scan.specs.declared.records.FrameInfo.{FrameInfo}
use Rattle.uz_scan.specs.Scanning as scanning
use Rattle.uz_scan.specs.declared.scanner.Scanner.{Scanner}
use Rattle.uz_player.specs.declared.play.Play.{Play}
use Rattle.uz_player.specs.declared.frame.Frame.{Frame}
use Rattle.uz_player.specs.declared.frame.Frame.TheVariants as how
use Rattle.uz_player.specs.declared.frame.Frame.TheVariants.{Over}
use Rattle.uz_player.specs.declared.shown.Shown.{Shown}
use Rattle.uz_player.specs.declared.shown.Shown.TheVariants.{Row, End, Quiet, Stopped}

-- the bytes of what is shown
abbrev pub bytes_of : Shown → List ℕ
bytes_of (Row bytes) = bytes
bytes_of (End bytes) = bytes
bytes_of Quiet = []
bytes_of Stopped = []

-- a frame's end
abbrev pub IsEndOf : Shown → Type 0
IsEndOf (Row bytes) = Unit {0}
IsEndOf (End bytes) = (info : FrameInfo) × (bytes ≡ end_bytes info)
IsEndOf Quiet = Unit {0}
IsEndOf Stopped = Unit {0}

-- Edges that were scanned are kept newest first, as everywhere in the picture's definitions

-- a scanner that has seen one more edge, with the bytes that the records have more
pub record HasScanned (new : Scanner) (seen : List Edge) (edge : Edge) (shown : Shown) : Type 0 where
  pub clock : scanning.clock_of new ≡ edge.clock
  pub stands : scanning.StandsFor new (edge ∷ seen)
  pub records : records (edge ∷ seen) ≡ records seen ++ bytes_of shown

abbrev pub ScansEdge : Scanner → Scanner → Edge → Shown → Type 0
ScansEdge old new edge shown =
    (seen : List Edge) → scanning.clock_of old ≤ edge.clock → scanning.StandsFor old seen → HasScanned new seen edge shown

-- the edges of the last turn that aren't scanned yet
abbrev pub left_of : Play → List Edge
left_of play = drop play.next play.edges.items

abbrev pub clock_of : Play → ℕ
clock_of play = console.clock_of play.console

-- A play is at a state of the machine, and its picture is that of these edges. Those that are left come after them
pub record IsAt (play : Play) (s : State PadHistory) (seen : List Edge) : Type 0 where
  pub stands : console.StandsFor play.console s
  pub picture : scanning.StandsFor play.scanner seen
  pub timed : AreTimed (scanning.clock_of play.scanner) (clock_of play) (left_of play)

-- From a state and a picture a play has gone on by turns of the machine. Of the edges that were left and those of the turns none is
-- lost: each is scanned, in order, or left. The records of the picture have these bytes more
pub record GoesOn (old new : Play) (s : State PadHistory) (seen : List Edge) (bytes : List ℕ) : Type 0 where
  pub turns : ℕ
  pub edges : List Edge
  pub last : State PadHistory
  pub run : Run MachineTurn turns s edges last
  pub scanned : List Edge
  pub kept : left_of old ++ edges ≡ scanned ++ left_of new
  pub is_at : IsAt new last (reverse scanned ++ seen)
  pub records : records (reverse scanned ++ seen) ≡ records seen ++ bytes

abbrev pub Goes : Play → Play → List ℕ → Type 0
Goes old new bytes = (s : State PadHistory) (seen : List Edge) → IsAt old s seen → GoesOn old new s seen bytes

-- Buttons are held from here on: at each state in which no latch found the list at its end
abbrev pub Holds : Pad → ℕ → Play → Play → Type 0
Holds pad times old new =
    ((s : State PadHistory) (seen : List Edge) → IsAt old s seen → latches s.space.pads.levels ≤ length s.space.pads.pairs
    → IsAt new (holding_state pad times s) seen) × (clock_of new ≡ clock_of old) × (left_of new ≡ left_of old)

-- how much is ahead up to a clock: a turn has at most four edges, and takes a clock or more
abbrev pub ahead_of : ℕ → Play → ℕ
ahead_of until play = 5 * (until - clock_of play) + length (left_of play)

-- the next edge that was left is scanned
pub record ScansNext (old new : Play) (shown : Shown) : Type 0 where
  pub goes : Goes old new (bytes_of shown)
  pub end : IsEndOf shown
  pub clock : clock_of new ≡ clock_of old
  pub fewer : length (left_of new) < length (left_of old)

-- Where no edge was left: turns are made. Some: and then there is none, before a clock
abbrev pub HasTurned : ℕ → Play → Play → Option Why → Type 0
HasTurned until old new None = Goes old new [] × (clock_of old < clock_of new) × (length (left_of new) ≤ 4)
HasTurned until old new (Some why) =
    Goes old new [] × (clock_of new < until) × (left_of new ≡ []) ×
    ((s : State PadHistory) (seen : List Edge) → IsAt new s seen → HasNoTurn s)

-- Row, End: the next record. Quiet, Stopped: there is none up to a clock, and every edge is scanned; each turn that begins before it is
-- made, or the next one begins before it and there is none
abbrev pub IsNext : ℕ → Play → Play → Shown → Type 0
IsNext until old new (Row bytes) = Goes old new bytes × (ahead_of until new < ahead_of until old)
IsNext until old new (End bytes) =
    Goes old new bytes × (ahead_of until new < ahead_of until old) × ((info : FrameInfo) × (bytes ≡ end_bytes info))
IsNext until old new Quiet = Goes old new [] × (left_of new ≡ []) × (until ≤ clock_of new)
IsNext until old new Stopped =
    Goes old new [] × (left_of new ≡ []) × (clock_of new < until) ×
    ((s : State PadHistory) (seen : List Edge) → IsAt new s seen → HasNoTurn s)

-- Where a frame is over, its end's record is the last one. Else every edge is scanned: each turn that begins before a clock is made, or
-- the next one begins before it and there is none
abbrev pub EndsIn : ℕ → Play → List ℕ → Frame → Type 0
EndsIn until new bytes Over = (rows : List ℕ) × (info : FrameInfo) × (bytes ≡ rows ++ end_bytes info)
EndsIn until new bytes how.Quiet = (left_of new ≡ []) × (until ≤ clock_of new)
EndsIn until new bytes how.Stopped =
    (left_of new ≡ []) × (clock_of new < until) × ((s : State PadHistory) (seen : List Edge) → IsAt new s seen → HasNoTurn s)

-- records are put behind a list, as the play goes on
pub record IsFrame (until : ℕ) (old new : Play) (out_old out_new : List ℕ) (frame : Frame) : Type 0 where
  pub bytes : List ℕ
  pub put : out_new ≡ out_old ++ bytes
  pub goes : Goes old new bytes
  pub ends : EndsIn until new bytes frame

-- no turn begins at this clock or after it
abbrev pub end_of : ℕ → ℕ → ℕ
end_of clock clocks = min (clock + clocks) (2 ^ 62)

-- The same from the state in which buttons are held, where no latch found the list at its end
pub record PlaysFrame (pad : Pad) (clocks : ℕ) (old new : Play) (out_old out_new : List ℕ) (frame : Frame) : Type 0 where
  pub bytes : List ℕ
  pub put : out_new ≡ out_old ++ bytes
  pub goes : (s : State PadHistory) (seen : List Edge) → IsAt old s seen → latches s.space.pads.levels ≤ length s.space.pads.pairs
      → GoesOn old new (holding_state pad 65536 s) seen bytes
  pub ends : EndsIn (end_of (clock_of old) clocks) new bytes frame

-- The schedule that a search's marks make.
use Rattle.std.specs.Prelude.{◌≡◌, ℕ, zero, suc, ◌+◌, ◌<◌, ◌≤◌, ◌⊎◌, List, [], ◌∷◌, ◌++◌, Option, Some, None, length, slice_get}
use Rattle.uz_schedule.specs.Schedule.{events_of, length_of}
use Rattle.uz_schedule.specs.declared.lines.Event.{Event}
use Rattle.uz_schedule.specs.declared.lines.EventKind.{EventKind}
use Rattle.uz_schedule.specs.declared.lines.Schedule.{Schedule}
use Rattle.uz_search.specs.declared.marks.Mark.{Mark}
use Rattle.uz_search.specs.Following.{line_start}
use Rattle.uz_search.specs.Marking.{event_of_mark}

-- what is noted of a position
abbrev pub noted : Option Mark → Option EventKind
noted None = None
noted (Some m) = event_of_mark m

-- the event at a clock, where there is one
abbrev pub event_here : ℕ → Option EventKind → List Event
event_here clock None = []
event_here clock (Some kind) = record { clock = clock; kind = kind } ∷ []

-- the events at the n clocks from k on of the line that begins at a position
unfoldable pub events_from : List Mark → ℕ → ℕ → ℕ → List Event
events_from marks start k zero = []
events_from marks start k (suc n) = event_here k (noted (slice_get marks (start + k))) ++ events_from marks start (suc k) n

-- the events of a line of so many clocks
unfoldable pub line_events : List Mark → ℕ → ℕ → List Event
line_events marks l clocks = events_from marks (line_start l) 0 clocks

-- kind i of line has these events, and so many clocks
abbrev pub IsKind : List (List Event) → List ℕ → ℕ → List Event → ℕ → Type 0
IsKind kinds lengths i events clocks = (slice_get kinds i ≡ Some events) × (slice_get lengths i ≡ Some clocks)

-- no two kinds of line are equal in events and length
abbrev pub AreApart : List (List Event) → List ℕ → Type 0
AreApart kinds lengths = (i j : ℕ) (events : List Event) (clocks : ℕ) → IsKind kinds lengths i events clocks → IsKind kinds lengths j events
    clocks → i ≡ j

-- a kind with these events and so many clocks has number n; it is one of those that were there, or comes after them
pub record AddsKind (old : List (List Event)) (lengths : List ℕ) (events : List Event) (clocks : ℕ) (new : List (List Event))
    (lengths' : List ℕ) (n : ℕ) : Type 0 where
  pub there : IsKind new lengths' n events clocks
  pub sizes : length lengths' ≡ length new
  pub few : length new ≤ length old + 1
  pub kept : (i : ℕ) (kind : List Event) (k : ℕ) → IsKind old lengths i kind k → IsKind new lengths' i kind k
  pub shared : AreApart old lengths → AreApart new lengths'
  pub own : (i : ℕ) (kind : List Event) (k : ℕ) → IsKind new lengths' i kind k
      → IsKind old lengths i kind k ⊎ ((events ≡ kind) × (clocks ≡ k))

-- these events and so many clocks are those of one of the first n lines of a frame
pub record IsLines (marks : List Mark) (frame : Schedule) (n : ℕ) (events : List Event) (clocks : ℕ) : Type 0 where
  pub line : ℕ
  pub below : line < n
  pub long : clocks ≡ length_of frame line
  pub is : events ≡ line_events marks line clocks

-- Lines, lengths and fall are those of the frame. Each line has the events of the marks on it, lines that are equal in events and length
-- share a kind, and each kind is of some line
pub record IsScheduleOf (marks : List Mark) (frame s : Schedule) : Type 0 where
  pub count : length s.lines ≡ length frame.lines
  pub falls : s.fall ≡ frame.fall
  pub lengths : (l : ℕ) → length_of s l ≡ length_of frame l
  pub events : (l : ℕ) → l < length frame.lines → events_of s l ≡ Some (line_events marks l (length_of frame l))
  pub sizes : length s.lengths ≡ length s.kinds
  pub shared : AreApart s.kinds s.lengths
  pub few : length s.kinds ≤ length frame.lines
  -- each kind is some line's
  pub used : (i : ℕ) (kind : List Event) (clocks : ℕ) → IsKind s.kinds s.lengths i kind clocks
      → IsLines marks frame (length frame.lines) kind clocks

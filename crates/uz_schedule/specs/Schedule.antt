-- The lines of a frame, the event at a position of it, and the level of sync there.
-- A position is a number of clocks from the frame's begin, taken modulo the frame.
use Rattle.std.specs.Prelude.{◌≡◌, ℕ, zero, suc, ◌+◌, ◌-◌, ◌%◌, ◌==◌, nat_lt, List, [], ◌∷◌, length, Option, Some, None, slice_get}
use Rattle.std.specs.Prelude.{slice_index, slice_index_or, if◌then◌else◌}
use Rattle.uz_schedule.specs.declared.kinds.Response.{Response}
use Rattle.uz_schedule.specs.declared.kinds.Response.TheVariants.{Four, Five}
use Rattle.uz_schedule.specs.declared.lines.Schedule.{Schedule}
use Rattle.uz_schedule.specs.declared.lines.Event.{Event}
use Rattle.uz_schedule.specs.declared.lines.EventKind.{EventKind}
use Rattle.uz_schedule.specs.declared.lines.EventKind.TheVariants.{Sync, Pixel, Sound, Leave}

-- the clocks of an interrupt entry
abbrev pub response_clocks : Response → ℕ
response_clocks Four = 4
response_clocks Five = 5

-- the clocks of a scanline of NTSC, at 28.63636 MHz: no line is longer
abbrev pub scanline : ℕ
scanline = 1820

-- the clocks of half a scanline, as in the vertical blanking interval of NTSC: no line is shorter
abbrev pub half_line : ℕ
half_line = 910

-- the clocks of a kind of line; those of a scanline where there is no such line or kind
abbrev pub length_of_kind : List ℕ → Option ℕ → ℕ
length_of_kind lengths None = scanline
length_of_kind lengths (Some kind) = slice_index_or lengths kind scanline

-- the length of line l, in clocks
abbrev pub length_of : Schedule → ℕ → ℕ
length_of s l = length_of_kind s.lengths (slice_get s.lines l)

-- the position at which line l begins
abbrev pub start_of : Schedule → ℕ → ℕ
start_of s zero = 0
start_of s (suc l) = start_of s l + length_of s l

-- the clocks of a frame
abbrev pub frame_of : Schedule → ℕ
frame_of s = start_of s (length s.lines)

-- the line after l, round the frame
abbrev pub next_line : Schedule → ℕ → ℕ
next_line s l = if suc l == length s.lines then 0 else suc l

-- position p is clock k of line l, modulo the frame; k may lie past the line's end
abbrev pub At : Schedule → ℕ → ℕ → ℕ → Type 0
At s p l k = p % frame_of s ≡ (start_of s l + k) % frame_of s

-- the event of a list at a clock
abbrev pub event_in : List Event → ℕ → Option EventKind
event_in [] clock = None
event_in (e ∷ es) clock = if e.clock == clock then Some e.kind else event_in es clock

abbrev pub event_in_kind : Option (List Event) → ℕ → Option EventKind
event_in_kind None clock = None
event_in_kind (Some es) clock = event_in es clock

-- the events of line l, those of its kind
abbrev pub events_of : Schedule → ℕ → Option (List Event)
events_of s l = slice_get s.kinds (slice_index s.lines l)

-- the event that is k clocks after the begin of line l, among that line and those that follow it, count in all
abbrev pub event_from : Schedule → ℕ → ℕ → ℕ → Option EventKind
event_from s l zero k = None
event_from s l (suc count) k =
    if nat_lt k (length_of s l)
    then event_in_kind (events_of s l) k
    else event_from s (suc l) count (k - length_of s l)

-- the event at a position
abbrev pub event_at : Schedule → ℕ → Option EventKind
event_at s p = event_from s 0 (length s.lines) (p % frame_of s)

-- the level that an event sets
abbrev pub level_set : EventKind → Option ℕ
level_set (Sync v) = Some v
level_set Pixel = None
level_set Sound = None
level_set Leave = None

abbrev pub sync_of : Option EventKind → Option ℕ
sync_of None = None
sync_of (Some kind) = level_set kind

-- the level that is set at a position
abbrev pub sync_at : Schedule → ℕ → Option ℕ
sync_at s p = sync_of (event_at s p)

abbrev pub or_else : Option ℕ → Option ℕ → Option ℕ
or_else None other = other
or_else (Some v) other = Some v

-- the last level that is set at one of the count positions up to p
abbrev pub last_level : (ℕ → Option ℕ) → ℕ → ℕ → Option ℕ
last_level set zero p = None
last_level set (suc count) p = or_else (set p) (last_level set count (p - 1))

-- the level at a position: the last one set at it or before it, round the frame
abbrev pub level_at : Schedule → ℕ → Option ℕ
level_at s p = last_level (sync_at s) (frame_of s) (p % frame_of s + frame_of s)

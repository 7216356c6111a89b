-- Lines of the picture (NTSC composite sync, as the Uzebox wiring gives it: PORTB bit 0 is the sync level).
--
-- A list of edges is kept newest first: `e ∷ before` is an edge and all those before it. So each word here is a function of
-- the whole list of edges up to some moment.
use Rattle.std.specs.Prelude.{ℕ, ◌-◌, Bool, false, not, ◌&&◌, ◌==◌, nat_le, if◌then◌else◌, List, [], ◌∷◌, Option, Some, None, is_some}
use Rattle.std.specs.Prelude.{unwrap_or}
use Rattle.std.specs.Option.{option_map, option_map_or}
use Rattle.uz_core.specs.declared.machine.Edge.{Edge}
use Rattle.uz_core.specs.declared.machine.EdgeKind.{EdgeKind}
use Rattle.uz_core.specs.declared.machine.EdgeKind.TheVariants.{Sync, Pixel, Sound, Enter, Leave}

-- the level that a sync edge brings, high where its value isn't 0; another edge brings none
abbrev pub level_brought : EdgeKind → Option Bool
level_brought (Sync value) = Some (not (value == 0))
level_brought (Pixel value) = None
level_brought (Sound value) = None
level_brought (Enter count) = None
level_brought Leave = None

-- the sync level: the last sync edge's, low before the first
abbrev pub is_high : List Edge → Bool
is_high [] = false
is_high (e ∷ before) = unwrap_or (level_brought e.kind) (is_high before)

-- an edge that keeps the level is neither a fall nor a rise
abbrev pub is_fall : Edge → List Edge → Bool
is_fall e before = is_high before && not (is_high (e ∷ before))

abbrev pub is_rise : Edge → List Edge → Bool
is_rise e before = not (is_high before) && is_high (e ∷ before)

-- the clock of the last edge, 0 before the first
abbrev pub last_clock : List Edge → ℕ
last_clock [] = 0
last_clock (e ∷ before) = e.clock

-- A fall begins a line, and the next fall ends it: the clock at which the line that runs began
abbrev pub line_start : List Edge → Option ℕ
line_start [] = None
line_start (e ∷ before) = if is_fall e before then Some e.clock else line_start before

-- the edges before the line that runs, whose last fall began the line before it
abbrev pub before_line : List Edge → List Edge
before_line [] = []
before_line (e ∷ before) = if is_fall e before then before else before_line before

-- the low time of the line that runs: from its fall to its rise, once that has come
abbrev pub low_time : List Edge → Option ℕ
low_time [] = None
low_time (e ∷ before) =
    if is_fall e before then None else (if is_rise e before then option_map (λ start. e.clock - start) (line_start before) else low_time
    before)

-- the line that runs has a broad pulse: a low time of 300 clocks or more (this project's profile)
abbrev pub is_broad : List Edge → Bool
is_broad edges = option_map_or (λ low. nat_le 300 low) (low_time edges) false

-- an edge ends a line
abbrev pub ends_line : Edge → List Edge → Bool
ends_line e before = is_fall e before && is_some (line_start before)

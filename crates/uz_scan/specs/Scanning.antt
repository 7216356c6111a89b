-- What a scanner stands for: a whole list of edges (newest first), of which it keeps one line.
use Rattle.std.specs.Prelude.{◌≡◌, ℕ, ◌+◌, ◌-◌, ◌*◌, ◌%◌, ◌^◌, ◌≤◌, ◌<◌, max, Bool, true, false, not, ◌&&◌, nat_lt, nat_le, if◌then◌else◌}
use Rattle.std.specs.Prelude.{List, [], ◌∷◌, length, slice_index, Option, Some, None, unwrap_or, is_some}
use Rattle.std.specs.Option.{option_map, option_map_or}
use Rattle.uz_core.specs.declared.machine.Edge.{Edge}
use Rattle.uz_scan.specs.declared.scanner.Scan.{Scan}
use Rattle.uz_scan.specs.declared.scanner.Scan.TheVariants.{More, Line, Frame}
use Rattle.uz_scan.specs.declared.sampler.Sampler.{Sampler}
use Rattle.uz_scan.specs.declared.scanner.Scanner.{Scanner}
use Rattle.uz_scan.specs.declared.tracker.Tracker.{Tracker}
use Rattle.uz_scan.specs.Places.{samples_within}
use Rattle.uz_scan.specs.Lines.{is_high, last_clock, line_start, before_line, low_time, is_broad}
use Rattle.uz_scan.specs.Pictures.{frames, rows, sound_of, pixel_at, last_row}

-- the clocks never fall
abbrev pub IsInOrder : List Edge → Type 0
IsInOrder [] = Unit {0}
IsInOrder (e ∷ before) = (last_clock before ≤ e.clock) × IsInOrder before

-- The tracker

abbrev pub broad : Option ℕ → Bool
broad low = option_map_or (λ clocks. nat_le 300 clocks) low false

-- the line that a fall ends, if one runs
abbrev pub line_until : ℕ → Tracker → Option ℕ → Scan
line_until clock t None = More
line_until clock t (Some start) =
    Line (record { frame = t.frame; row = t.rows; length = clock - start; low = unwrap_or t.low 0; sound = t.sound })

abbrev pub fallen : ℕ → Tracker → Tracker
fallen clock t = record t {
  is_high = false;
  start = Some clock;
  low = None;
  after_broad = broad t.low;
  rows = if is_some t.start && nat_lt 0 t.frame then (t.rows + 1) % 2 ^ 64 else t.rows;
}

abbrev pub starts_frame : Option ℕ → Tracker → Bool
starts_frame low t = not (broad low) && t.after_broad

abbrev pub low_until : ℕ → Tracker → Option ℕ
low_until clock t = option_map (λ start. clock - start) t.start

abbrev pub risen : ℕ → Tracker → Tracker
risen clock t =
    if starts_frame (low_until clock t) t
    then record t { is_high = true; low = low_until clock t; frame = (t.frame + 1) % 2 ^ 64; rows = 0 }
    else record t { is_high = true; low = low_until clock t }

abbrev pub frame_until : ℕ → Tracker → Scan
frame_until clock t =
    if starts_frame (low_until clock t) t && nat_lt 0 t.frame then Frame (record { frame = t.frame; rows = t.rows }) else More

abbrev pub synced : ℕ → Bool → Tracker → Tracker
synced clock level t = if t.is_high then (if level then t else fallen clock t) else (if level then risen clock t else t)

abbrev pub sync_shows : ℕ → Bool → Tracker → Scan
sync_shows clock level t =
    if t.is_high then (if level then More else line_until clock t t.start) else (if level then frame_until clock t else More)

-- the tracker tells sync, lines, frames and sound of the list
pub record Tracks (t : Tracker) (edges : List Edge) : Type 0 where
  pub is_high : t.is_high ≡ is_high edges
  pub sound : t.sound ≡ sound_of edges
  pub start : t.start ≡ line_start edges
  pub low : t.low ≡ low_time edges
  pub after_broad : t.after_broad ≡ is_broad (before_line edges)
  pub frame : t.frame ≡ frames edges
  pub rows : t.rows ≡ rows edges % 2 ^ 64

-- The samples

-- the samples of so many clocks are filled with the value
pub record FillsSamples (clocks : ℕ) (old new : Sampler) : Type 0 where
  pub filled : new.filled ≡ max old.filled (samples_within clocks)
  pub kept : (k : ℕ) → k < old.filled → slice_index new.samples k ≡ slice_index old.samples k
  pub added : (k : ℕ) → old.filled ≤ k → k < new.filled → slice_index new.samples k ≡ old.value

-- where a line runs, its samples before a clock are filled
abbrev pub IsTaken : Option ℕ → ℕ → Sampler → Sampler → Type 0
IsTaken None clock old new = (new.filled ≡ old.filled) × (new.samples ≡ old.samples)
IsTaken (Some start) clock old new = FillsSamples (clock - start) old new

-- the row of a line of so many clocks
pub record IsFinished (clocks : ℕ) (old : Sampler) (row : List ℕ) : Type 0 where
  pub width : length row ≡ 455
  pub kept : (k : ℕ) → k < old.filled → slice_index row k ≡ slice_index old.samples k
  pub added : (k : ℕ) → old.filled ≤ k → k < samples_within clocks → slice_index row k ≡ old.value
  pub over : (k : ℕ) → old.filled ≤ k → samples_within clocks ≤ k → k < 455 → slice_index row k ≡ 0

-- the samples of the line that began at a clock: those filled are before the last edge, and all others have the last value
pub record IsSampled (s : Sampler) (start : ℕ) (edges : List Edge) : Type 0 where
  pub filled : (k : ℕ) → k < s.filled → slice_index s.samples k ≡ pixel_at (start + 4 * k) edges
  pub passed : (k : ℕ) → k < s.filled → start + 4 * k < last_clock edges
  pub rest : (k : ℕ) → s.filled ≤ k → k < 455 → pixel_at (start + 4 * k) edges ≡ s.value

abbrev pub SamplesLine : Option ℕ → Sampler → List Edge → Type 0
SamplesLine None s edges = s.filled ≡ 0
SamplesLine (Some start) s edges = IsSampled s start edges

-- The scanner

-- what a sync edge leaves of samples and row: a line that ends gives its row, and the next one begins
abbrev pub TakesLine : Scan → Sampler → List ℕ → Scanner → Type 0
TakesLine More sampler row new = (new.sampler ≡ sampler) × (new.row ≡ row)
TakesLine (Frame frame) sampler row new = (new.sampler ≡ sampler) × (new.row ≡ row)
TakesLine (Line line) sampler row new =
    IsFinished line.length sampler new.row × (new.sampler.value ≡ sampler.value) × (new.sampler.filled ≡ 0)

abbrev pub clock_of : Scanner → ℕ
clock_of s = s.clock

pub record StandsFor (s : Scanner) (edges : List Edge) : Type 0 where
  pub clock : s.clock ≡ last_clock edges
  pub order : IsInOrder edges
  pub tracks : Tracks s.tracker edges
  pub value : (clock : ℕ) → last_clock edges ≤ clock → pixel_at clock edges ≡ s.sampler.value
  pub samples : SamplesLine (line_start edges) s.sampler edges
  pub row : s.row ≡ last_row edges

-- Frames, rows, samples, sound and records: what is seen of a list of edges (newest first, as in Lines).
use Rattle.std.specs.Prelude.{ℕ, ◌+◌, ◌-◌, ◌*◌, ◌%◌, ◌^◌, ◌≤◌, Bool, not, ◌&&◌, nat_lt, nat_le, if◌then◌else◌, List, [], ◌∷◌, ◌++◌, map}
use Rattle.std.specs.Prelude.{reverse, replicate, Option, Some, None, unwrap_or}
use Rattle.std.specs.List.{range_with_len}
use Rattle.byteorder.specs.Endian.{little_bytes}
use Rattle.uz_core.specs.declared.machine.Edge.{Edge}
use Rattle.uz_core.specs.declared.machine.EdgeKind.{EdgeKind}
use Rattle.uz_core.specs.declared.machine.EdgeKind.TheVariants.{Sync, Pixel, Sound, Enter, Leave}
use Rattle.uz_scan.specs.declared.records.LineInfo.{LineInfo}
use Rattle.uz_scan.specs.declared.records.FrameInfo.{FrameInfo}
use Rattle.uz_scan.specs.declared.scanner.Scan.{Scan}
use Rattle.uz_scan.specs.declared.scanner.Scan.TheVariants.{More, Line, Frame}
use Rattle.uz_scan.specs.Lines.{is_rise, line_start, before_line, low_time, is_broad, ends_line}

-- Frames

-- A frame begins with the first line that isn't broad after a broad one. The rise shows that the line that runs isn't broad
abbrev pub begins_frame : Edge → List Edge → Bool
begins_frame e before = is_rise e before && (not (is_broad (e ∷ before)) && is_broad (before_line before))

-- how many frames have begun
abbrev pub frames : List Edge → ℕ
frames [] = 0
frames (e ∷ before) = if begins_frame e before then frames before + 1 else frames before

-- how many lines of the frame that runs have ended; none of a frame before the first
abbrev pub rows : List Edge → ℕ
rows [] = 0
rows (e ∷ before) =
    if begins_frame e before then 0 else (if ends_line e before && nat_lt 0 (frames before) then rows before + 1 else rows before)

-- where a frame begins, the one before it ends
abbrev pub ends_frame : Edge → List Edge → Bool
ends_frame e before = begins_frame e before && nat_lt 0 (frames before)

-- Samples and sound

abbrev pub pixel_brought : EdgeKind → Option ℕ
pixel_brought (Sync value) = None
pixel_brought (Pixel value) = Some value
pixel_brought (Sound value) = None
pixel_brought (Enter count) = None
pixel_brought Leave = None

abbrev pub sound_brought : EdgeKind → Option ℕ
sound_brought (Sync value) = None
sound_brought (Pixel value) = None
sound_brought (Sound value) = Some value
sound_brought (Enter count) = None
sound_brought Leave = None

-- PORTC's value at a clock: the last pixel edge's at or before it, 0 before the first
abbrev pub pixel_at : ℕ → List Edge → ℕ
pixel_at clock [] = 0
pixel_at clock (e ∷ before) = if nat_le e.clock clock then unwrap_or (pixel_brought e.kind) (pixel_at clock before) else pixel_at clock
    before

-- the sound value: the last sound edge's, 0 before the first
abbrev pub sound_of : List Edge → ℕ
sound_of [] = 0
sound_of (e ∷ before) = unwrap_or (sound_brought e.kind) (sound_of before)

-- Sample k of a line from one clock to another is PORTC's value 4k clocks after its start, or 0 where the line is over
abbrev pub sample : List Edge → ℕ → ℕ → ℕ → ℕ
sample edges start end k = if nat_lt (start + 4 * k) end then pixel_at (start + 4 * k) edges else 0

-- a row has 455 samples
abbrev pub row_of : List Edge → ℕ → ℕ → List ℕ
row_of edges start end = map (sample edges start end) (range_with_len 0 455)

-- the row of the last line that has ended, or zeros
abbrev pub last_row : List Edge → List ℕ
last_row [] = replicate 455 0
last_row (e ∷ before) = if ends_line e before then row_of before (unwrap_or (line_start before) 0) e.clock else last_row before

-- What an edge shows

-- the line that an edge ends; a line before the first frame has frame 0 and row 0
abbrev pub line_ended : Edge → List Edge → LineInfo
line_ended e before = record {
  frame = frames before;
  row = rows before % 2 ^ 64;
  length = e.clock - unwrap_or (line_start before) 0;
  low = unwrap_or (low_time before) 0;
  sound = sound_of before;
}

-- the frame that an edge shows to be over
abbrev pub frame_ended : List Edge → FrameInfo
frame_ended before = record { frame = frames before; rows = rows before % 2 ^ 64 }

-- what the picture has more with an edge
abbrev pub shown_by : Edge → List Edge → Scan
shown_by e before = if ends_line e before then Line (line_ended e before) else (if ends_frame e before then Frame (frame_ended before) else
    More)

-- Records

-- 0x52, the row and its width as 16-bit words, low byte first, the samples, the sound
abbrev pub row_head : ℕ → List ℕ
row_head row = 0x52 ∷ little_bytes 2 (row % 65536) ++ little_bytes 2 455

abbrev pub row_bytes : LineInfo → List ℕ → List ℕ
row_bytes line row = row_head line.row ++ row ++ line.sound ∷ []

-- 0x46, the frame and its rows as 16-bit words, low byte first
abbrev pub end_bytes : FrameInfo → List ℕ
end_bytes frame = 0x46 ∷ little_bytes 2 (frame.frame % 65536) ++ little_bytes 2 (frame.rows % 65536)

-- the record of what an edge shows, where the row is the last ended line's. A line before the first frame has none
abbrev pub record_of : Scan → List ℕ → List ℕ
record_of More row = []
record_of (Line line) row = if nat_lt 0 line.frame then row_bytes line row else []
record_of (Frame frame) row = end_bytes frame

abbrev pub row_records_of : Scan → ℕ
row_records_of More = 0
row_records_of (Line line) = if nat_lt 0 line.frame then 1 else 0
row_records_of (Frame frame) = 0

abbrev pub end_records_of : Scan → ℕ
end_records_of More = 0
end_records_of (Line line) = 0
end_records_of (Frame frame) = 1

-- the records of a list of edges, and how many there are of rows and of frames' ends
abbrev pub records : List Edge → List ℕ
records [] = []
records (e ∷ before) = records before ++ record_of (shown_by e before) (last_row (e ∷ before))

abbrev pub row_records : List Edge → ℕ
row_records [] = 0
row_records (e ∷ before) = row_records before + row_records_of (shown_by e before)

abbrev pub end_records : List Edge → ℕ
end_records [] = 0
end_records (e ∷ before) = end_records before + end_records_of (shown_by e before)

-- Lists in the order of time

-- a list of edges in their order, newest first
abbrev pub newest_first : List Edge → List Edge
newest_first edges = reverse edges

-- the clocks never fall along a list in the order of time, and none is below the first number
abbrev pub NeverFalls : ℕ → List Edge → Type 0
NeverFalls from [] = Unit {0}
NeverFalls from (e ∷ later) = (from ≤ e.clock) × NeverFalls e.clock later

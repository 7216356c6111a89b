-- The lines of the whole frame.
use Rattle.std.specs.Prelude.{ℕ, ◌+◌, ◌*◌, ◌/◌, ◌%◌, nat_le, ◌&&◌, Bool, List, [], ◌∷◌, ◌++◌, length, map, if◌then◌else◌, codes, decimal}
use Rattle.uz_schedule.specs.declared.lines.Schedule.{Schedule}
use Rattle.uz_schedule.specs.Schedule.{scanline, half_line, frame_of}
use Rattle.uz_report.specs.declared.pulse_kind.PulseKind.{PulseKind}
use Rattle.uz_report.specs.KindText.{length_of_kind}
use Rattle.uz_report.specs.Order.{pulses_of, is_field, is_same}
use Rattle.uz_report.specs.Places.{has, place_words}
use Rattle.uz_report.specs.Words.{name_of, range_words, verdict}

-- A field of NTSC has 262.5 lines (SMPTE 170M-2004). A console that shows the same picture in each frame has 262 or 263 of them
abbrev pub shortest_frame : ℕ
shortest_frame = 262 * scanline

abbrev pub longest_frame : ℕ
longest_frame = 263 * scanline

abbrev pub is_frame : ℕ → Bool
is_frame clocks = nat_le shortest_frame clocks && nat_le clocks longest_frame

-- frames a second in hundredths, the next whole number, at 315 / 11 MHz
abbrev pub hundredths : ℕ → ℕ
hundredths clocks = (31500000000 + 11 * clocks / 2) / (11 * clocks)

abbrev pub rate_words : ℕ → List ℕ
rate_words rate = codes " Hz " ++ decimal (rate / 100) ++ codes "." ++ decimal (rate / 10 % 10) ++ decimal (rate % 10)

abbrev pub size_words : ℕ → ℕ → List ℕ
size_words lines clocks = codes " lines " ++ decimal lines ++ codes " clocks " ++ decimal clocks

unfoldable pub frame_line : ℕ → ℕ → List ℕ
frame_line lines clocks = codes "frame" ++ size_words lines clocks ++ range_words shortest_frame longest_frame ++ rate_words (hundredths clocks)
    ++ verdict (is_frame clocks)

-- so many pulses of a kind
abbrev pub run_words : ℕ → PulseKind → List ℕ
run_words count kind = codes " " ++ decimal count ++ name_of kind

-- how the pulses follow each other, after so many of a kind
abbrev pub runs_after : ℕ → PulseKind → List PulseKind → List ℕ
runs_after count kind [] = run_words count kind
runs_after count kind (next ∷ pulses) =
    if is_same next kind then runs_after (count + 1) kind pulses else run_words count kind ++ runs_after 1 next pulses

abbrev pub runs : List PulseKind → List ℕ
runs [] = []
runs (first ∷ pulses) = runs_after 1 first pulses

unfoldable pub order_words : List PulseKind → Bool → List ℕ
order_words pulses is_ok = codes "pulses" ++ runs pulses ++ verdict is_ok

abbrev pub order_line : Schedule → List ℕ
order_line s = order_words (pulses_of s) (is_field s (pulses_of s))

unfoldable pub lengths_of : Schedule → List ℕ
lengths_of s = map (length_of_kind s) s.lines

-- A line has one fall of sync, at the clock at which each line has it: so from its fall to the next one is its length.
-- The lines with this distance, where there are some
abbrev pub each_words : ℕ → List ℕ
each_words clocks = codes "falls each " ++ decimal clocks ++ codes " clocks"

unfoldable pub distance_line : List ℕ → ℕ → List ℕ
distance_line lengths clocks = each_words clocks ++ codes " lines" ++ place_words lengths clocks ++ codes "\n"

unfoldable pub falls_line : List ℕ → ℕ → List ℕ
falls_line lengths clocks = if has clocks lengths then distance_line lengths clocks else []

unfoldable pub falls_lines : List ℕ → List ℕ
falls_lines lengths = falls_line lengths half_line ++ falls_line lengths scanline

unfoldable pub frame_lines : Schedule → List ℕ
frame_lines s = frame_line (length s.lines) (frame_of s) ++ order_line s ++ falls_lines (lengths_of s)

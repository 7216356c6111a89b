-- The lines of one kind of line.
use Rattle.std.specs.Prelude.{ℕ, zero, suc, ◌+◌, ◌-◌, List, [], ◌∷◌, ◌++◌, length, Option, Some, None, slice_get, slice_index_or}
use Rattle.std.specs.Prelude.{if◌then◌else◌, codes, decimal}
use Rattle.uz_schedule.specs.declared.lines.Event.{Event}
use Rattle.uz_schedule.specs.declared.lines.Schedule.{Schedule}
use Rattle.uz_schedule.specs.Schedule.{scanline}
use Rattle.uz_report.specs.declared.pulse.Pulse.{Pulse}
use Rattle.uz_report.specs.declared.pulse_kind.PulseKind.{PulseKind}
use Rattle.uz_report.specs.declared.pulse_kind.PulseKind.TheVariants.{Equalizing, Horizontal, Broad, Other}
use Rattle.uz_report.specs.declared.shown.Shown.TheVariants.{Pixels, Sounds, Returns}
use Rattle.uz_report.specs.Pulses.{pulse_in, low_of, high_of, kind_of, range_of, serration}
use Rattle.uz_report.specs.Shown.{clocks_of, distances, times, odd_in}
use Rattle.uz_report.specs.Places.{has, place_words}
use Rattle.uz_report.specs.Words.{name_of, time_words, judged}

-- the number of the kind, its length, and the lines of the frame that are of it
unfoldable pub head_line : Schedule → ℕ → ℕ → List ℕ
head_line s kind clocks = codes "kind " ++ decimal kind ++ codes " clocks " ++ decimal clocks ++ codes " lines" ++ place_words s.lines kind
    ++ codes "\n"

abbrev pub ends_words : Pulse → List ℕ
ends_words p = codes "sync falls " ++ decimal p.fall ++ codes " rises " ++ decimal p.rise ++ codes " low "

-- for how long sync is low, and what that is of this kind
unfoldable pub low_words : ℕ → PulseKind → List ℕ
low_words low kind = time_words low ++ name_of kind ++ judged low (range_of kind)

unfoldable pub pulse_line : Pulse → List ℕ
pulse_line p = ends_words p ++ low_words (low_of p) (kind_of (low_of p))

unfoldable pub high_line : ℕ → List ℕ
high_line n = codes "serration " ++ time_words n ++ judged n (Some serration)

-- behind a broad pulse sync is high for a serration
abbrev pub serration_line : PulseKind → ℕ → List ℕ
serration_line Equalizing high = []
serration_line Horizontal high = []
serration_line Broad high = high_line high
serration_line Other high = []

unfoldable pub sync_lines : ℕ → Option Pulse → List ℕ
sync_lines clocks None = codes "sync none out\n"
sync_lines clocks (Some p) = pulse_line p ++ serration_line (kind_of (low_of p)) (high_of clocks p)

-- how many there are, and the clocks of the first and of the last
abbrev pub ends_of : List ℕ → List ℕ
ends_of [] = []
ends_of (first ∷ clocks) = codes " first " ++ decimal first ++ codes " last " ++ decimal (slice_index_or (first ∷ clocks) (length clocks) 0)

unfoldable pub count_line : List ℕ → List ℕ → List ℕ
count_line name clocks = name ++ decimal (length clocks) ++ ends_of clocks ++ codes "\n"

abbrev pub distance_line : ℕ → ℕ → List ℕ
distance_line distance zero = []
distance_line distance (suc n) = codes "distance " ++ decimal distance ++ codes " times " ++ decimal (suc n) ++ codes "\n"

-- of the distances below one, rising
unfoldable pub distance_lines_below : List ℕ → ℕ → List ℕ
distance_lines_below all zero = []
distance_lines_below all (suc d) = distance_lines_below all d ++ distance_line d (times d all)

abbrev pub odd_line : Option ℕ → List ℕ
odd_line None = []
odd_line (Some clock) = codes "odd pixel " ++ decimal clock ++ codes "\n"

unfoldable pub pixel_lines : List ℕ → List ℕ
pixel_lines clocks = count_line (codes "pixels ") clocks ++ distance_lines_below (distances clocks) scanline ++ odd_line (odd_in clocks)

-- The handler's return, and the clocks from it to the next entry, least and most: to the line's end, and up to 3 more while an instruction
-- of main ends
abbrev pub return_line : ℕ → ℕ → List ℕ
return_line clocks at = codes "return " ++ decimal at ++ codes " main " ++ decimal (clocks - at) ++ codes " to " ++ decimal (clocks - at + 3)
    ++ codes "\n"

abbrev pub each_return : ℕ → List ℕ → List ℕ
each_return clocks [] = []
each_return clocks (at ∷ ats) = return_line clocks at ++ each_return clocks ats

unfoldable pub return_lines : ℕ → List ℕ → List ℕ
return_lines clocks [] = codes "return none\n"
return_lines clocks (at ∷ ats) = each_return clocks (at ∷ ats)

-- what its events say, in a line of so many clocks
unfoldable pub event_lines : ℕ → List Event → List ℕ
event_lines clocks events = sync_lines clocks (pulse_in events) ++ pixel_lines (clocks_of Pixels events)
    ++ count_line (codes "sounds ") (clocks_of Sounds events) ++ return_lines clocks (clocks_of Returns events)

abbrev pub length_of_kind : Schedule → ℕ → ℕ
length_of_kind s kind = slice_index_or s.lengths kind scanline

unfoldable pub kind_block : Schedule → ℕ → List Event → List ℕ
kind_block s kind events = head_line s kind (length_of_kind s kind) ++ event_lines (length_of_kind s kind) events

-- of a kind that no line of the frame is of nothing is told
abbrev pub block_of : Schedule → ℕ → Option (List Event) → List ℕ
block_of s kind None = []
block_of s kind (Some events) = if has kind s.lines then kind_block s kind events else []

-- of the kinds below one
abbrev pub blocks_below : Schedule → ℕ → List ℕ
blocks_below s zero = []
blocks_below s (suc kind) = blocks_below s kind ++ block_of s kind (slice_get s.kinds kind)

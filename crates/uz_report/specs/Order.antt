-- The pulses of the frame's lines in their order, and whether they are those of an NTSC field.
--
-- SMPTE 170M-2004, vertical blanking interval: 6 equalizing pulses, 6 broad ones and 6 equalizing ones, half a line each, and horizontal
-- sync on whole lines otherwise.
use Rattle.std.specs.Prelude.{◌≡◌, ◌<◌, ◌≤◌, ℕ, zero, suc, ◌+◌, ◌-◌, ◌%◌, ◌==◌, nat_lt, nat_le, ◌&&◌, not, Bool, true, false, List, length, map}
use Rattle.std.specs.Prelude.{Option, Some, None, slice_index_or, if◌then◌else◌}
use Rattle.uz_schedule.specs.declared.lines.Schedule.{Schedule}
use Rattle.uz_schedule.specs.Schedule.{scanline, half_line, length_of, or_else}
use Rattle.uz_report.specs.declared.pulse_kind.PulseKind.{PulseKind}
use Rattle.uz_report.specs.declared.pulse_kind.PulseKind.TheVariants.{Equalizing, Horizontal, Broad, Other}
use Rattle.uz_report.specs.Pulses.{pulse_in, kind_of_pulse}

-- the pulse of each kind of line, and of each line
abbrev pub kinds_pulses : Schedule → List PulseKind
kinds_pulses s = map (λ events. kind_of_pulse (pulse_in events)) s.kinds

unfoldable pub pulses_of : Schedule → List PulseKind
pulses_of s = map (λ kind. slice_index_or (kinds_pulses s) kind Other) s.lines

abbrev pub is_equalizing : PulseKind → Bool
is_equalizing Equalizing = true
is_equalizing Horizontal = false
is_equalizing Broad = false
is_equalizing Other = false

abbrev pub is_horizontal : PulseKind → Bool
is_horizontal Equalizing = false
is_horizontal Horizontal = true
is_horizontal Broad = false
is_horizontal Other = false

abbrev pub is_broad : PulseKind → Bool
is_broad Equalizing = false
is_broad Horizontal = false
is_broad Broad = true
is_broad Other = false

abbrev pub is_other : PulseKind → Bool
is_other Equalizing = false
is_other Horizontal = false
is_other Broad = false
is_other Other = true

abbrev pub is_same : PulseKind → PulseKind → Bool
is_same Equalizing kind = is_equalizing kind
is_same Horizontal kind = is_horizontal kind
is_same Broad kind = is_broad kind
is_same Other kind = is_other kind

-- what the pulse of a field is, counted from its first equalizing one
abbrev pub wanted : ℕ → PulseKind
wanted i = if nat_lt i 6 then Equalizing else if nat_lt i 12 then Broad else if nat_lt i 18 then Equalizing else Horizontal

abbrev pub wanted_clocks : ℕ → ℕ
wanted_clocks i = if nat_lt i 18 then half_line else scanline

-- line l is as the i-th line of a field is
abbrev pub is_wanted : Schedule → List PulseKind → ℕ → ℕ → Bool
is_wanted s pulses i l = is_same (slice_index_or pulses l Other) (wanted i) && length_of s l == wanted_clocks i

-- the line that comes i after the sixth before this one, round the frame
abbrev pub line_after : List PulseKind → ℕ → ℕ → ℕ
line_after pulses broad i = (broad + (length pulses - 6) + i) % length pulses

-- the first i lines of a field whose broad pulses begin at this line
abbrev pub are_wanted : Schedule → List PulseKind → ℕ → ℕ → Bool
are_wanted s pulses broad zero = true
are_wanted s pulses broad (suc i) = are_wanted s pulses broad i && is_wanted s pulses i (line_after pulses broad i)

-- broad pulses begin at line l: the line before it, round the frame, has none
abbrev pub begins_broad : List PulseKind → ℕ → Bool
begins_broad pulses l = is_broad (slice_index_or pulses l Other) && not (is_broad (slice_index_or pulses ((l + length pulses - 1) % length pulses) Other))

-- the first of the lines below one at which they begin
abbrev pub first_broad : List PulseKind → ℕ → Option ℕ
first_broad pulses zero = None
first_broad pulses (suc l) = or_else (first_broad pulses l) (if begins_broad pulses l then Some l else None)

abbrev pub is_field_from : Schedule → List PulseKind → Option ℕ → Bool
is_field_from s pulses None = false
is_field_from s pulses (Some broad) = are_wanted s pulses broad (length pulses)

-- all pulses are those of a field, wherever the frame begins in it
unfoldable pub is_field : Schedule → List PulseKind → Bool
is_field s pulses = nat_le 18 (length pulses) && is_field_from s pulses (first_broad pulses (length pulses))

-- from this line on, round the frame, each line is as that line of a field is
abbrev pub IsFieldFrom : Schedule → List PulseKind → ℕ → Type 0
IsFieldFrom s pulses start = (i : ℕ) → i < length pulses → is_wanted s pulses i ((start + i) % length pulses) ≡ true

-- what `ok` of the pulses is worth
abbrev pub IsSomeField : Schedule → List PulseKind → Type 0
IsSomeField s pulses = (18 ≤ length pulses) × ((start : ℕ) × IsFieldFrom s pulses start)

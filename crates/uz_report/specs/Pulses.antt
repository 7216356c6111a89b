-- A pulse of sync, from its fall to its rise, and what it is by its length.
--
-- NTSC by SMPTE 170M-2004 ("Composite Analog Video Signal, NTSC for Studio Applications", horizontal and vertical timing): a line of
-- 227.5 cycles of the subcarrier, horizontal sync of 4.7 us, equalizing pulses of 2.3 us and serrations of 4.7 us, each 0.1 us more or
-- less. A broad pulse is half a line, 31.778 us, less a serration. The subcarrier is 315 / 88 MHz, and a clock of the machine an eighth
-- of its cycle: 315 / 11 clocks a microsecond.
use Rattle.std.specs.Prelude.{ℕ, ◌+◌, ◌-◌, ◌*◌, ◌/◌, ◌==◌, ◌&&◌, nat_le, Bool, false, List, [], ◌∷◌, Option, Some, None}
use Rattle.std.specs.Prelude.{if◌then◌else◌}
use Rattle.uz_schedule.specs.declared.lines.Event.{Event}
use Rattle.uz_schedule.specs.declared.lines.EventKind.{EventKind}
use Rattle.uz_schedule.specs.declared.lines.EventKind.TheVariants.{Sync, Pixel, Sound, Leave}
use Rattle.uz_report.specs.declared.pulse.Pulse.{Pulse}
use Rattle.uz_report.specs.declared.pulse_kind.PulseKind.{PulseKind}
use Rattle.uz_report.specs.declared.pulse_kind.PulseKind.TheVariants.{Equalizing, Horizontal, Broad, Other}
use Rattle.uz_report.specs.declared.range.Range.{Range}

-- whether an event sets sync to a level
abbrev pub sets : ℕ → EventKind → Bool
sets level (Sync v) = v == level
sets level Pixel = false
sets level Sound = false
sets level Leave = false

-- the clock of the first of these events with which sync rises
abbrev pub rise_in : List Event → Option ℕ
rise_in [] = None
rise_in (e ∷ es) = if sets 1 e.kind then Some e.clock else rise_in es

abbrev pub low_from : ℕ → Option ℕ → Option Pulse
low_from fall None = None
low_from fall (Some rise) = Some (record { fall = fall; rise = rise })

-- A line's pulse: from the first fall to the rise that follows it on the line. In an accepted certificate each line begins with its
-- one fall, so that no pulse goes on past its line's end
abbrev pub pulse_in : List Event → Option Pulse
pulse_in [] = None
pulse_in (e ∷ es) = if sets 0 e.kind then low_from e.clock (rise_in es) else pulse_in es

-- the clocks for which sync is low
abbrev pub low_of : Pulse → ℕ
low_of p = p.rise - p.fall

-- the clocks from the rise to the fall of the next line, which is at the same clock, in a line of this length
abbrev pub high_of : ℕ → Pulse → ℕ
high_of length p = length + p.fall - p.rise

-- n clocks, 63 of which are 2200 nanoseconds, last at least or at most so many nanoseconds
abbrev pub lasts_from : ℕ → ℕ → Bool
lasts_from ns n = nat_le (ns * 63) (n * 2200)

abbrev pub lasts_to : ℕ → ℕ → Bool
lasts_to ns n = nat_le (n * 2200) (ns * 63)

-- the whole number of nanoseconds that is next to n clocks
abbrev pub nanoseconds : ℕ → ℕ
nanoseconds n = (n * 2200 + 31) / 63

-- both ends are in the range
abbrev pub is_in : Range → ℕ → Bool
is_in r n = lasts_from r.least n && lasts_to r.most n

-- The ranges of NTSC, in nanoseconds
abbrev pub serration : Range
serration = record { least = 4600; most = 4800 }

abbrev pub range_of : PulseKind → Option Range
range_of Equalizing = Some (record { least = 2200; most = 2400 })
range_of Horizontal = Some (record { least = 4600; most = 4800 })
range_of Broad = Some (record { least = 26978; most = 27178 })
range_of Other = None

-- Which pulse it is meant to be: below 1 us none, below 3.5 us an equalizing one, below 10 us horizontal sync, up to half a line a broad
-- one. These bounds are this project's choice
abbrev pub longer_kind : ℕ → PulseKind
longer_kind n = if lasts_from 10000 n then (if lasts_to 31778 n then Broad else Other) else Horizontal

abbrev pub kind_of : ℕ → PulseKind
kind_of n = if lasts_from 3500 n then longer_kind n else if lasts_from 1000 n then Equalizing else Other

-- a line without a pulse has no NTSC pulse
abbrev pub kind_of_pulse : Option Pulse → PulseKind
kind_of_pulse None = Other
kind_of_pulse (Some p) = kind_of (low_of p)

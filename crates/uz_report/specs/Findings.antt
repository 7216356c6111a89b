-- How many of the lines that NTSC says something of end in `out`.
use Rattle.std.specs.Prelude.{ℕ, zero, suc, ◌+◌, Bool, true, false, List, Option, Some, None, slice_get, length, if◌then◌else◌}
use Rattle.uz_schedule.specs.declared.lines.Event.{Event}
use Rattle.uz_schedule.specs.declared.lines.Schedule.{Schedule}
use Rattle.uz_schedule.specs.Schedule.{frame_of}
use Rattle.uz_report.specs.declared.pulse.Pulse.{Pulse}
use Rattle.uz_report.specs.declared.pulse_kind.PulseKind.{PulseKind}
use Rattle.uz_report.specs.declared.pulse_kind.PulseKind.TheVariants.{Equalizing, Horizontal, Broad, Other}
use Rattle.uz_report.specs.declared.range.Range.{Range}
use Rattle.uz_report.specs.Pulses.{pulse_in, low_of, high_of, kind_of, range_of, serration, is_in}
use Rattle.uz_report.specs.KindText.{length_of_kind}
use Rattle.uz_report.specs.FrameText.{is_frame}
use Rattle.uz_report.specs.Places.{has}
use Rattle.uz_report.specs.Order.{pulses_of, is_field}

abbrev pub one_unless : Bool → ℕ
one_unless true = 0
one_unless false = 1

abbrev pub out_of : ℕ → Option Range → ℕ
out_of n None = 1
out_of n (Some r) = one_unless (is_in r n)

abbrev pub serration_out : PulseKind → ℕ → ℕ
serration_out Equalizing high = 0
serration_out Horizontal high = 0
serration_out Broad high = one_unless (is_in serration high)
serration_out Other high = 0

abbrev pub sync_out : ℕ → Option Pulse → ℕ
sync_out clocks None = 1
sync_out clocks (Some p) = out_of (low_of p) (range_of (kind_of (low_of p))) + serration_out (kind_of (low_of p)) (high_of clocks p)

-- of a kind that a line of the frame is of
abbrev pub kind_out : Schedule → ℕ → Option (List Event) → ℕ
kind_out s kind None = 0
kind_out s kind (Some events) = if has kind s.lines then sync_out (length_of_kind s kind) (pulse_in events) else 0

-- of the kinds below one
abbrev pub kinds_out_below : Schedule → ℕ → ℕ
kinds_out_below s zero = 0
kinds_out_below s (suc kind) = kinds_out_below s kind + kind_out s kind (slice_get s.kinds kind)

unfoldable pub findings : Schedule → ℕ
findings s = kinds_out_below s (length s.kinds) + one_unless (is_frame (frame_of s)) + one_unless (is_field s (pulses_of s))

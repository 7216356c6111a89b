-- The first event of a schedule that isn't as it should be.
use Rattle.std.specs.Prelude.{ℕ, zero, suc, ◌==◌, Bool, false, ◌&&◌, List, [], ◌∷◌, Option, Some, None, length, if◌then◌else◌}
use Rattle.uz_schedule.specs.declared.lines.Event.{Event}
use Rattle.uz_schedule.specs.declared.lines.EventKind.{EventKind}
use Rattle.uz_schedule.specs.declared.lines.EventKind.TheVariants.{Sync, Pixel, Sound, Leave}
use Rattle.uz_schedule.specs.declared.lines.Schedule.{Schedule}
use Rattle.uz_schedule.specs.Schedule.{events_of}

abbrev pub is_fall : EventKind → Bool
is_fall (Sync level) = level == 0
is_fall Pixel = false
is_fall Sound = false
is_fall Leave = false

-- the clock of the first fall among these events
abbrev pub second_fall : List Event → Option ℕ
second_fall [] = None
second_fall (e ∷ es) = if is_fall e.kind then Some e.clock else second_fall es

-- the clock of the first event of a line that breaks its steadiness
abbrev pub break_clock : ℕ → List Event → Option ℕ
break_clock fall [] = None
break_clock fall (e ∷ es) = if (e.clock == fall) && is_fall e.kind then second_fall es else Some e.clock

abbrev pub break_in : ℕ → Option (List Event) → Option ℕ
break_in fall None = None
break_in fall (Some events) = break_clock fall events

abbrev pub break_in_line : Schedule → ℕ → Option ℕ
break_in_line s l = break_in s.fall (events_of s l)

-- the line and the clock of the first such event, of count lines from l on
abbrev pub at_line : ℕ → Option ℕ → Option (ℕ × ℕ) → Option (ℕ × ℕ)
at_line l None later = later
at_line l (Some clock) later = Some (l, clock)

abbrev pub break_from : Schedule → ℕ → ℕ → Option (ℕ × ℕ)
break_from s l zero = None
break_from s l (suc count) = at_line l (break_in_line s l) (break_from s (suc l) count)

abbrev pub first_break : Schedule → Option (ℕ × ℕ)
first_break s = break_from s 0 (length s.lines)

-- The level of sync by lines: what the events of a list set before a clock.
use Rattle.std.specs.Prelude.{ℕ, ◌-◌, nat_lt, List, [], ◌∷◌, length, Option, Some, None, if◌then◌else◌}
use Rattle.uz_schedule.specs.declared.lines.Event.{Event}
use Rattle.uz_schedule.specs.declared.lines.Schedule.{Schedule}
use Rattle.uz_schedule.specs.Schedule.{level_set, or_else}

-- the level that an event sets, where its clock is before this one
abbrev pub set_by : Event → ℕ → Option ℕ
set_by e clock = if nat_lt e.clock clock then level_set e.kind else None

-- the level that the last of these events before a clock sets
abbrev pub last_set : List Event → ℕ → Option ℕ
last_set [] clock = None
last_set (e ∷ es) clock = or_else (last_set es clock) (set_by e clock)

abbrev pub last_of_kind : Option (List Event) → ℕ → Option ℕ
last_of_kind None clock = None
last_of_kind (Some events) clock = last_set events clock

-- line q, counted on round the frame once
abbrev pub line_round : Schedule → ℕ → ℕ
line_round s q = if nat_lt q (length s.lines) then q else q - length s.lines

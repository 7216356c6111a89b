-- The rules of a rest and of the entry as tests.
use Rattle.std.specs.Prelude.{ℕ, ◌+◌, ◌&&◌, ◌||◌, nat_le, nat_lt, Bool, true, false, List, [], ◌∷◌, length, Option, Some, None}
use Rattle.uz_rules.specs.Successors.{lies_in_point}
use Rattle.uz_schedule.specs.Instances.{entry_instance, rest_instance}
use Rattle.uz_schedule.specs.Schedule.{length_of, start_of, next_line, events_of, event_at, response_clocks}
use Rattle.uz_schedule.specs.declared.kinds.Kind.{Kind}
use Rattle.uz_schedule.specs.declared.kinds.Kind.TheVariants.{Main, Handler, Alone}
use Rattle.uz_schedule.specs.declared.lines.Event.{Event}
use Rattle.uz_schedule.specs.declared.lines.EventKind.{EventKind}
use Rattle.uz_schedule.specs.declared.lines.EventKind.TheVariants.{Sync, Pixel, Sound, Leave}
use Rattle.uz_schedule.specs.declared.lines.Schedule.{Schedule}
use Rattle.uz_schedule.specs.declared.states.Rest.{Rest}
use Rattle.uz_schedule.specs.declared.certificate.Cert.{Cert}

-- no event after a clock
abbrev pub none_after : ℕ → List Event → Bool
none_after clock [] = true
none_after clock (e ∷ es) = nat_le e.clock clock && none_after clock es

-- none up to it
abbrev pub none_until : ℕ → List Event → Bool
none_until clock [] = true
none_until clock (e ∷ es) = nat_lt clock e.clock && none_until clock es

-- the same of a line's events
abbrev pub none_after_in : ℕ → Option (List Event) → Bool
none_after_in clock None = true
none_after_in clock (Some events) = none_after clock events

abbrev pub none_until_in : ℕ → Option (List Event) → Bool
none_until_in clock None = true
none_until_in clock (Some events) = none_until clock events

abbrev pub is_leave : Option EventKind → Bool
is_leave None = false
is_leave (Some (Sync level)) = false
is_leave (Some Pixel) = false
is_leave (Some Sound) = false
is_leave (Some Leave) = true

-- the handler's return stands at a clock of a line, which is one of the line's own
abbrev pub leaves_at : Schedule → ℕ → ℕ → Bool
leaves_at s line clock = nat_lt clock (length_of s line) && is_leave (event_at s (start_of s line + clock))

-- the handler's return stands at the rest's clock, nothing after it, and nothing where an interrupt may come
abbrev pub is_quiet_rest : Cert → Rest → Bool
is_quiet_rest cert rest =
    leaves_at cert.schedule rest.line rest.clock
    && (none_after_in rest.clock (events_of cert.schedule rest.line) && none_until_in (response_clocks cert.head.irq + 3)
    (events_of cert.schedule (next_line cert.schedule rest.line)))

-- the handler's first state lies in the vector's point, where the interrupt is taken with TCNT1 c
abbrev pub enters_at : Cert → Rest → ℕ → Bool
enters_at cert rest c = lies_in_point cert rest.vector (rest_instance cert rest c)

abbrev pub enters_always : Cert → Rest → Bool
enters_always cert rest = enters_at cert rest 0 && (enters_at cert rest 1 && (enters_at cert rest 2 && enters_at cert rest 3))

unfoldable pub rest_test : Cert → Rest → Bool
rest_test cert rest = is_quiet_rest cert rest && enters_always cert rest

abbrev pub needs_no_rest : Kind → Bool
needs_no_rest Main = false
needs_no_rest Handler = true
needs_no_rest Alone = true

unfoldable pub entry_test : Cert → Bool
entry_test cert = (needs_no_rest cert.entry.kind || nat_lt 0 (length cert.rests)) && lies_in_point cert cert.entry.id (entry_instance cert)

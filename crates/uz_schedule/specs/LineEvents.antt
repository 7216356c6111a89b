-- What finding events by halving rests on: which events set the level of sync, and what stands where a search ends.
use Rattle.std.specs.Prelude.{ℕ, ◌==◌, Bool, true, false, Option, Some, None, if◌then◌else◌}
use Rattle.uz_schedule.specs.declared.lines.Event.{Event}
use Rattle.uz_schedule.specs.declared.lines.EventKind.{EventKind}
use Rattle.uz_schedule.specs.declared.lines.EventKind.TheVariants.{Sync, Pixel, Sound, Leave}

abbrev pub is_sync_kind : EventKind → Bool
is_sync_kind (Sync level) = true
is_sync_kind Pixel = false
is_sync_kind Sound = false
is_sync_kind Leave = false

abbrev pub is_sync : Event → Bool
is_sync e = is_sync_kind e.kind

-- an event, where it is at this clock
abbrev pub event_here : ℕ → Option Event → Option EventKind
event_here clock None = None
event_here clock (Some e) = if e.clock == clock then Some e.kind else None

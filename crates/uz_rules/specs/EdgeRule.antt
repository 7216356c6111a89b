-- The comparison of what is emitted with the schedule (this project's profile).
use Rattle.std.specs.Prelude.{ℕ, zero, suc, ◌+◌, ◌-◌, Bool, true, false, ◌&&◌, List, Option, Some, None, is_none, nat_eq}
use Rattle.uz_schedule.specs.declared.lines.Schedule.{Schedule}
use Rattle.uz_schedule.specs.declared.lines.EventKind.{EventKind}
use Rattle.uz_schedule.specs.declared.lines.EventKind.TheVariants.{Sync, Pixel, Sound, Leave}
use Rattle.uz_schedule.specs.declared.states.Instance.{Instance}
use Rattle.uz_schedule.specs.Schedule.{start_of, event_at}
use Rattle.uz_transfer.specs.declared.step.Exit.{Exit}
pub use Rattle.uz_transfer.specs.Exits.{each_exit}

-- the position of the frame at which an instance stands
abbrev pub position_of : Schedule → Instance → ℕ
position_of s inst = start_of s inst.line + inst.clock

abbrev pub is_kind : EventKind → EventKind → Bool
is_kind (Sync a) (Sync b) = nat_eq a b
is_kind Pixel Pixel = true
is_kind Sound Sound = true
is_kind Leave Leave = true
is_kind a b = false

abbrev pub is_event : Option EventKind → Option EventKind → Bool
is_event None None = true
is_event (Some a) (Some b) = is_kind a b
is_event a b = false

-- no event stands at the count positions after p
unfoldable pub is_quiet : (ℕ → Option EventKind) → ℕ → ℕ → Bool
is_quiet at p zero = true
is_quiet at p (suc count) = is_quiet at p count && is_none (at (p + suc count))

-- after position p, up to so many clocks on, the schedule's events are exactly what is emitted at the end
abbrev pub emits_as_scheduled : Schedule → ℕ → Option EventKind → ℕ → Bool
emits_as_scheduled s p emitted clocks = is_quiet (event_at s) p (clocks - 1) && is_event (event_at s (p + clocks)) emitted

-- at each exit
abbrev pub edges_fit : Schedule → ℕ → Option EventKind → List Exit → Bool
edges_fit s p emitted exits = each_exit (λ exit. emits_as_scheduled s p emitted exit.clocks) exits

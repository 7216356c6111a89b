-- Events: what of an edge a schedule speaks of.
use Rattle.std.specs.Prelude.{ℕ, List, [], ◌∷◌, Option, Some, None}
use Rattle.std.specs.List.{filter_map}
use Rattle.uz_schedule.specs.declared.lines.EventKind.{EventKind}
use Rattle.uz_schedule.specs.declared.lines.EventKind.TheVariants.{Sync, Pixel, Sound, Leave}
use Rattle.uz_core.specs.declared.machine.Edge.{Edge}
use Rattle.uz_core.specs.declared.machine.EdgeKind.{EdgeKind}
use Rattle.uz_core.specs.declared.machine.EdgeKind.TheVariants.{Sync as SyncEdge, Pixel as PixelEdge, Sound as SoundEdge, Enter as EnterEdge}
use Rattle.uz_core.specs.declared.machine.EdgeKind.TheVariants.{Leave as LeaveEdge}

-- an event at a clock of a run
pub record Shown : Type 0 where
  pub clock : ℕ
  pub kind : EventKind

-- the event that an edge is: sync with its level, pixels and sounds without their values. Entries are no events
abbrev pub event_of : EdgeKind → Option EventKind
event_of (SyncEdge level) = Some (Sync level)
event_of (PixelEdge value) = Some Pixel
event_of (SoundEdge value) = Some Sound
event_of (EnterEdge count) = None
event_of LeaveEdge = Some Leave

abbrev pub shown_at : Option EventKind → ℕ → Option Shown
shown_at None clock = None
shown_at (Some kind) clock = Some (record { clock = clock; kind = kind })

-- the events among edges, each at its clock, in order
abbrev pub shown : List Edge → List Shown
shown edges = filter_map (λ e. shown_at (event_of e.kind) e.clock) edges

abbrev pub listed : Option Shown → List Shown
listed None = []
listed (Some event) = event ∷ []

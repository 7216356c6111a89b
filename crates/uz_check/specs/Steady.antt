-- Steady lines: each begins with the fall of sync.
use Rattle.std.specs.Prelude.{◌≡◌, ◌≢◌, All, ℕ, ◌<◌, List, ◌∷◌, Some, length}
use Rattle.uz_schedule.specs.declared.lines.Event.{Event}
use Rattle.uz_schedule.specs.declared.lines.EventKind.TheVariants.{Sync}
use Rattle.uz_schedule.specs.declared.lines.Schedule.{Schedule}
use Rattle.uz_schedule.specs.Schedule.{events_of}

-- the first event of a line is sync 0 at the fall's clock, and no later one of it is sync 0
pub record IsSteadyLine (fall : ℕ) (events : List Event) : Type 0 where
  pub first : Event
  pub later : List Event
  pub is : events ≡ first ∷ later
  pub clock : first.clock ≡ fall
  pub kind : first.kind ≡ Sync 0
  pub once : All (λ e. e.kind ≢ Sync 0) later

abbrev pub IsSteady : Schedule → Type 0
IsSteady s = (l : ℕ) (events : List Event) → l < length s.lines → events_of s l ≡ Some events → IsSteadyLine s.fall events

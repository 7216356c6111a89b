-- The same claim of the runs of so many clocks that the console makes.
use Rattle.std.specs.Prelude.{◌≡◌, All, ℕ, ◌-◌, ◌≤◌, List}
use Rattle.std.specs.Ordering.{nat_cmp}
use Rattle.std.specs.FinMap.{FinMap}
use Rattle.uz_schedule.specs.declared.certificate.Cert.{Cert}
use Rattle.uz_schedule.specs.Schedule.{event_at}
use Rattle.uz_core.specs.declared.machine.Edge.{Edge}
use Rattle.uz_core.specs.PadLine.{PadHistory}
use Rattle.uz_core.specs.Turn.{State}
use Rattle.uz_core.specs.StateRange.{IsState}
use Rattle.uz_core.specs.Run.{IsClockRun, IsStoppedRun}
use Rattle.uz_rules.specs.Events.{shown}
use Rattle.uz_check.specs.Claim.{scheduled, InTime}
use Rattle.uz_console.specs.Entry.{EntryCondition}

-- the events of the run from s up to a clock are the schedule's, its interrupts are taken in time, and it isn't stopped
pub record PlaysTo (at : Cert) (s : State PadHistory) (p limit : ℕ) : Type 0 where
  pub exact : (edges : List Edge) (last : State PadHistory) → IsClockRun limit s edges last → shown edges ≡ scheduled (event_at at.schedule)
      p s.clock (limit - s.clock)
  pub entries : (edges : List Edge) (last : State PadHistory) → IsClockRun limit s edges last → All (λ e. InTime e.kind) edges
  pub never_stops : (edges : List Edge) (last : State PadHistory) → IsStoppedRun limit s edges last → ⊥

abbrev pub Plays : FinMap nat_cmp ℕ → Cert → Type 0
Plays image cert = (s : State PadHistory) (p limit : ℕ) → IsState s → s.image ≡ image → EntryCondition cert s p → s.clock ≤ limit
    → PlaysTo cert s p limit

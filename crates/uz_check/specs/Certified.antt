-- What acceptance is worth: from every state that meets the entry condition, the machine keeps to the schedule.
use Rattle.std.specs.Prelude.{◌≡◌, ℕ}
use Rattle.std.specs.Ordering.{nat_cmp}
use Rattle.std.specs.FinMap.{FinMap}
use Rattle.uz_schedule.specs.declared.certificate.Cert.{Cert}
use Rattle.uz_schedule.specs.Schedule.{event_at}
use Rattle.uz_core.specs.PadLine.{PadHistory}
use Rattle.uz_core.specs.Space.{history_wiring}
use Rattle.uz_core.specs.Turn.{State, Turn}
use Rattle.uz_core.specs.StateRange.{IsState}
use Rattle.uz_check.specs.Claim.{Follows}
use Rattle.uz_console.specs.Entry.{EntryCondition}

abbrev pub clock_of : State PadHistory → ℕ
clock_of s = s.clock

-- whatever the state with that image that meets the entry condition, whatever its pads, and whatever the number T of
-- clocks: no state of clock less than T after it lacks a turn, its events of clock at most T after it are exactly the
-- schedule's, and its interrupts are taken in time
abbrev pub Certified : FinMap nat_cmp ℕ → Cert → Type 0
Certified image cert =
    (s : State PadHistory) (p : ℕ) → IsState s → s.image ≡ image → EntryCondition cert s p → (T : ℕ) → Follows (Turn history_wiring)
    clock_of (event_at cert.schedule) s p T

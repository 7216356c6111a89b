-- When the handler returns along a run: exactly when the schedule has a return, one after another.
use Rattle.std.specs.Prelude.{◌≡◌, ◌↔◌, ℕ, ◌+◌, ◌-◌, ◌<◌, ◌≤◌, List, ◌∷◌, ◌++◌, Some}
use Rattle.std.specs.Ordering.{nat_cmp}
use Rattle.std.specs.FinMap.{FinMap}
use Rattle.uz_schedule.specs.declared.certificate.Cert.{Cert}
use Rattle.uz_schedule.specs.declared.lines.EventKind.TheVariants as event
use Rattle.uz_schedule.specs.Schedule.{event_at}
use Rattle.uz_core.specs.declared.machine.Edge.{Edge}
use Rattle.uz_core.specs.declared.machine.EdgeKind.TheVariants.{Leave}
use Rattle.uz_core.specs.PadLine.{PadHistory}
use Rattle.uz_core.specs.Space.{history_wiring}
use Rattle.uz_core.specs.Turn.{State, Turn}
use Rattle.uz_core.specs.StateRange.{IsState}
use Rattle.uz_core.specs.Run.{Run}
use Rattle.uz_console.specs.Entry.{EntryCondition}

-- a return at this clock
abbrev pub return_at : ℕ → Edge
return_at clock = record { clock = clock; kind = Leave }

-- one of these edges is a return at this clock
pub record HasReturn (edges : List Edge) (clock : ℕ) : Type 0 where
  pub before : List Edge
  pub after : List Edge
  pub cut : edges ≡ before ++ return_at clock ∷ after

-- the schedule has a return at the position of this clock of a run, which goes from its clock `start`, at position p, to `end`
pub record IsReturnDue (cert : Cert) (start p end clock : ℕ) : Type 0 where
  pub begun : start < clock
  pub in_run : clock ≤ end
  pub event : event_at cert.schedule (p + (clock - start)) ≡ Some event.Leave

-- of the edges of a run
pub record ReturnsInTime (cert : Cert) (start p end : ℕ) (edges : List Edge) : Type 0 where
  -- the handler returns at a clock exactly when the schedule has a return there
  pub exact : (clock : ℕ) → HasReturn edges clock ↔ IsReturnDue cert start p end clock
  -- and each later return comes at a later clock
  pub rise : (before between after : List Edge) (left again : ℕ)
      → edges ≡ before ++ return_at left ∷ (between ++ return_at again ∷ after) → left < again

-- in every run from a state that meets the entry condition
abbrev pub ReturnsHold : FinMap nat_cmp ℕ → Cert → Type 0
ReturnsHold image cert =
    (s : State PadHistory) (p n : ℕ) (edges : List Edge) (end : State PadHistory) → IsState s → s.image ≡ image → EntryCondition cert s p
    → Run (Turn history_wiring) n s edges end → ReturnsInTime cert s.clock p end.clock edges

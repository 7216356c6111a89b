-- What it is for the rest of a run to keep to a schedule, in the words of its edges and of its picture.
use Rattle.std.specs.Prelude.{◌≡◌, All, ℕ, ◌+◌, ◌-◌, ◌<◌, nat_lt, true, List, ◌∷◌, ◌++◌, filter, length, Some}
use Rattle.uz_schedule.specs.declared.certificate.Cert.{Cert}
use Rattle.uz_schedule.specs.declared.lines.Schedule.{Schedule}
use Rattle.uz_schedule.specs.Schedule.{At, event_at, length_of}
use Rattle.uz_core.specs.declared.machine.Edge.{Edge}
use Rattle.uz_rules.specs.Events.{shown}
use Rattle.uz_check.specs.Claim.{InTime, scheduled}
use Rattle.uz_scan.specs.Lines.{ends_line, line_start}
use Rattle.uz_scan.specs.Pictures.{newest_first}

-- the edges after a clock
abbrev pub edges_after : ℕ → List Edge → List Edge
edges_after clock edges = filter (λ e. nat_lt clock e.clock) edges

-- a line of these edges' picture, from the clock of its fall to the clock of the next one
pub record HasLine (edges : List Edge) (from to : ℕ) : Type 0 where
  pub before : List Edge
  pub ending : Edge
  pub later : List Edge
  pub cut : edges ≡ before ++ ending ∷ later
  pub ends : ends_line ending (newest_first before) ≡ true
  pub begins : line_start (newest_first before) ≡ Some from
  pub ends_at : ending.clock ≡ to

-- it is one of the lines of the frame, where position p of the frame is a clock of the run: it begins where that line falls,
-- and is as long
pub record IsScheduledLine (schedule : Schedule) (clock p from to : ℕ) : Type 0 where
  pub line : ℕ
  pub below : line < length schedule.lines
  pub place : At schedule (p + (from - clock)) line schedule.fall
  pub as_long : to ≡ from + length_of schedule line

-- The edges of a run of so many clocks, of which a state at this clock stands at position p
pub record KeepsSchedule (cert : Cert) (limit clock p : ℕ) (edges : List Edge) : Type 0 where
  -- the events after that clock are, one by one, those of the schedule at the positions after p
  pub events : shown (edges_after clock edges) ≡ scheduled (event_at cert.schedule) p clock (limit - clock)
  -- interrupts after it are taken in time
  pub entries : All (λ e. InTime e.kind) (edges_after clock edges)
  -- each line of the picture that begins after it, and ends, is one of the schedule
  pub lines : (from to : ℕ) → HasLine edges from to → clock < from → IsScheduledLine cert.schedule clock p from to

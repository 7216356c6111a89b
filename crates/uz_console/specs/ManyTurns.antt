-- Turns one after another, up to one with edges.
use Rattle.std.specs.Prelude.{◌≡◌, ◌⊎◌, ℕ, ◌+◌, ◌<◌, ◌≤◌, false, List}
use Rattle.uz_schedule.specs.declared.certificate.Cert.{Cert}
use Rattle.uz_core.specs.declared.machine.Edge.{Edge}
use Rattle.uz_core.specs.Arithmetic.{bit_is_set}
use Rattle.uz_core.specs.PadLine.{PadHistory}
use Rattle.uz_core.specs.Timer.{is_due, timer_after}
use Rattle.uz_core.specs.Turn.{State}
use Rattle.uz_pads.specs.declared.pads.Pads.{Pads}
use Rattle.uz_console.specs.declared.console.Console.{Console}
use Rattle.uz_console.specs.declared.turn.Made.{Made}
use Rattle.uz_console.specs.Consoles.{StandsFor, clock_of, state_of}
use Rattle.uz_console.specs.Entry.{NotEntered}
use Rattle.uz_console.specs.Runs.{RunsTo}
use Rattle.uz_console.specs.Approaches.{RunsUnentered}
use Rattle.uz_console.specs.Turns.{IsMade, HasSome, TakesTime}

-- no state that a console stands for meets the entry condition
abbrev pub IsUnmet : Cert → Console → Type 0
IsUnmet cert console = (s : State PadHistory) → StandsFor console s → NotEntered cert s

-- Any number of turns without edges lead from one console to another: whatever run the first was part of, the other is part of it. Each
-- begins before the limit, and the pc after it isn't the watched one, so that no entry condition of that pc is met on the way
pub record LeadsTo (limit watched : ℕ) (first mid : Console) : Type 0 where
  pub run : (start : State PadHistory) (edges : List Edge) → RunsTo limit start edges first → RunsTo limit start edges mid
  pub unmet : (cert : Cert) → cert.entry.pc ≡ watched → IsUnmet cert first → IsUnmet cert mid
  pub unentered : (cert : Cert) → cert.entry.pc ≡ watched → IsUnmet cert first → (start : State PadHistory) (edges : List Edge)
      → RunsUnentered cert limit start edges first → RunsUnentered cert limit start edges mid
  pub time : clock_of first ≤ clock_of mid
  pub before : clock_of first < limit → clock_of mid < limit
  pub none : limit ≤ clock_of first → state_of mid ≡ state_of first

-- while so many clocks pass, the interrupt isn't due
pub record IsNotDue (s : State Pads) (free : ℕ) : Type 0 where
  pub clear : is_due s.space.timer ≡ false
  pub stays : (clocks : ℕ) → clocks < free → (timer_after clocks s.space.timer).matched ≡ s.space.timer.matched

-- while so many clocks pass by instructions that leave I as it is, the interrupt isn't taken
abbrev pub IsIdle : State Pads → ℕ → Type 0
IsIdle s free = IsNotDue s free ⊎ (bit_is_set s.core.sreg 7 ≡ false)

-- and they pass within the limit
pub record IsFree (limit : ℕ) (s : State Pads) (free : ℕ) : Type 0 where
  pub idle : IsIdle s free
  pub within : s.clock + free ≤ limit

-- such turns, and one more of any kind
pub record AreMade (limit watched : ℕ) (old new : Console) (edges : List Edge) (answer : Made) : Type 0 where
  pub mid : Console
  pub quiet : LeadsTo limit watched old mid
  pub last : IsMade mid new edges answer
  pub some : HasSome edges answer
  pub time : TakesTime mid new answer

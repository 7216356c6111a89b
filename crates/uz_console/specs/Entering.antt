-- The least position at which a console meets an entry condition, by the parts of the condition.
use Rattle.std.specs.Prelude.{◌≡◌, Contains, ℕ, ◌+◌, ◌-◌, ◌%◌, ◌<◌, ◌≤◌, nat_lt, true, if◌then◌else◌, List, length, slice_index, Option}
use Rattle.std.specs.Prelude.{Some, None}
use Rattle.uz_schedule.specs.Ends.{Ends}
use Rattle.uz_schedule.specs.declared.facts.Bit.{Bit}
use Rattle.uz_schedule.specs.declared.kinds.Kind.TheVariants.{Handler}
use Rattle.uz_schedule.specs.declared.lines.Schedule.{Schedule}
use Rattle.uz_schedule.specs.declared.states.Rest.{Rest}
use Rattle.uz_schedule.specs.declared.certificate.Cert.{Cert}
use Rattle.uz_schedule.specs.Schedule.{start_of, frame_of, length_of, level_at, response_clocks}
use Rattle.uz_core.specs.Arithmetic.{bit_is_set}
use Rattle.uz_core.specs.Core.{Core, register}
use Rattle.uz_core.specs.Turn.{State, sync_level}
use Rattle.uz_schedule.specs.Tracked.{tracked}
use Rattle.uz_console.specs.Entry.{IsIn, BitHolds, ends_at, flag_at, CellsHold, TimerWaits, BeginsAlone, EntryCondition}

-- a console's state at position p of a frame: p is a least one
pub record IsFirstEntry {P : Type 0} (cert : Cert) (s : State P) (p : ℕ) : Type 0 where
  pub in_frame : p < frame_of cert.schedule
  pub meets : EntryCondition cert s p
  pub first : (q : ℕ) → EntryCondition cert s q → p ≤ q

-- By parts

abbrev pub RegistersMatch : List Ends → Core → Type 0
RegistersMatch regs core = (r : ℕ) → r < 32 → IsIn (ends_at regs r) (register core r)

abbrev pub FlagsMatch : List Bit → ℕ → Type 0
FlagsMatch flags sreg = (k : ℕ) → k < 7 → BitHolds (flag_at flags k) (bit_is_set sreg k)

abbrev pub StackMatches : List Ends → ℕ → List ℕ → Type 0
StackMatches slots sp bytes = (i : ℕ) → i < length slots → IsIn (ends_at slots i) (slice_index bytes (sp + length slots - i))

-- what doesn't depend on the position
pub record MatchesEntry {P : Type 0} (cert : Cert) (s : State P) : Type 0 where
  pub pc : s.core.pc ≡ cert.entry.pc
  pub response : s.response ≡ response_clocks cert.head.irq
  pub sp : s.core.sp + length cert.entry.stack.items ≡ cert.head.hi
  pub registers : RegistersMatch cert.entry.regs s.core
  pub flags : FlagsMatch cert.entry.flags s.core.sreg
  pub stack : StackMatches cert.entry.stack.items s.core.sp s.space.bytes
  pub cells : CellsHold (tracked cert.head cert.entry.kind) cert.entry.cells.items s.space.bytes

-- the position of a clock of a line
abbrev pub position_of : Schedule → ℕ → ℕ → ℕ
position_of s line clock = (start_of s line + clock) % frame_of s

-- the sync level is the schedule's
abbrev pub LevelMatches : {P : Type 0} → Cert → State P → ℕ → Type 0
LevelMatches cert s p = level_at cert.schedule p ≡ Some (sync_level s.space)

-- main waits on a rest's line
pub record WaitsAt {P : Type 0} (cert : Cert) (s : State P) (rest : Rest) : Type 0 where
  pub interrupts : bit_is_set s.core.sreg 7 ≡ true
  pub timer : TimerWaits s (length_of cert.schedule rest.line)
  pub rested : rest.clock ≤ s.space.timer.count
  pub within : s.space.timer.count < length_of cert.schedule rest.line
  pub cells : CellsHold (tracked cert.head Handler) rest.cells.items s.space.bytes

-- the only position at which it may enter from there
pub record EntersAt {P : Type 0} (cert : Cert) (s : State P) (rest : Rest) (p : ℕ) : Type 0 where
  pub waits : WaitsAt cert s rest
  pub place : p % frame_of cert.schedule ≡ position_of cert.schedule rest.line s.space.timer.count
  pub level : LevelMatches cert s p

-- a least position of a frame with some property; positions count modulo the frame
abbrev pub IsLeast : ℕ → (ℕ → Type 0) → Option ℕ → Type 0
IsLeast frame Holds None = (p : ℕ) → Holds p → ⊥
IsLeast frame Holds (Some q) = (q < frame) × Holds q × ((p : ℕ) → Holds p → q ≤ p % frame)

abbrev pub lesser_of : ℕ → ℕ → ℕ
lesser_of a b = if nat_lt b a then b else a

abbrev pub lesser : Option ℕ → Option ℕ → Option ℕ
lesser None b = b
lesser (Some a) None = Some a
lesser (Some a) (Some b) = Some (lesser_of a b)

-- it may enter at one of these rests
abbrev pub EntersAtOne : {P : Type 0} → Cert → State P → List Rest → ℕ → Type 0
EntersAtOne cert s rests p = (rest : Rest) × Contains rests rest × EntersAt cert s rest p

pub record EntersAlone {P : Type 0} (cert : Cert) (s : State P) (p : ℕ) : Type 0 where
  pub level : LevelMatches cert s p
  pub begins : BeginsAlone cert s p

-- The entry condition: the states at which the claim of a certificate begins. It speaks of the certificate's entry,
-- schedule and rests and of the machine's state alone, whatever the pads.
use Rattle.std.specs.Prelude.{◌≡◌, ⊤, Contains, ℕ, suc, ◌+◌, ◌-◌, ◌<◌, ◌≤◌, Bool, true, false, List, [], ◌∷◌, length, slice_index}
use Rattle.std.specs.Prelude.{slice_index_or, Some}
use Rattle.uz_schedule.specs.Ends.{Ends}
use Rattle.uz_schedule.specs.declared.facts.Bit.{Bit}
use Rattle.uz_schedule.specs.declared.facts.Bit.TheVariants.{Zero, One, Free, Old}
use Rattle.uz_schedule.specs.declared.kinds.Kind.{Kind}
use Rattle.uz_schedule.specs.declared.kinds.Kind.TheVariants.{Main, Handler, Alone}
use Rattle.uz_schedule.specs.declared.header.Cell.{Cell}
use Rattle.uz_schedule.specs.declared.states.Rest.{Rest}
use Rattle.uz_schedule.specs.declared.certificate.Cert.{Cert}
use Rattle.uz_schedule.specs.Schedule.{At, length_of, level_at, response_clocks}
use Rattle.uz_schedule.specs.Tracked.{tracked}
use Rattle.uz_core.specs.Arithmetic.{bit_is_set}
use Rattle.uz_core.specs.Core.{register}
use Rattle.uz_core.specs.Timer.{is_counting}
use Rattle.uz_core.specs.Turn.{State, sync_level}

-- What is known of bytes, flags and cells

abbrev pub whole_byte : Ends
whole_byte = record { lo = 0; hi = 255 }

-- a number is one of a range's
abbrev pub IsIn : Ends → ℕ → Type 0
IsIn e v = (e.lo ≤ v) × (v ≤ e.hi)

-- a flag is what is known of it; nothing is known of one that is free, nor of an interrupted one
abbrev pub BitHolds : Bit → Bool → Type 0
BitHolds Zero flag = flag ≡ false
BitHolds One flag = flag ≡ true
BitHolds Free flag = ⊤
BitHolds Old flag = ⊤

abbrev pub ends_at : List Ends → ℕ → Ends
ends_at spans i = slice_index_or spans i whole_byte

abbrev pub flag_at : List Bit → ℕ → Bit
flag_at flags i = slice_index_or flags i Free

-- each cell's byte lies in its range
abbrev pub CellsHold : List Cell → List Ends → List ℕ → Type 0
CellsHold [] spans bytes = ⊤
CellsHold (cell ∷ cells) [] bytes = ⊤
CellsHold (cell ∷ cells) (range ∷ spans) bytes = IsIn range (slice_index bytes cell.at) × CellsHold cells spans bytes

-- The condition

-- the timer counts lines of this length, its interrupt is enabled and isn't due, and no instruction is owed
pub record TimerWaits {P : Type 0} (s : State P) (length : ℕ) : Type 0 where
  pub counting : is_counting s.space.timer ≡ true
  pub top : suc s.space.timer.top ≡ length
  pub enabled : bit_is_set s.space.timer.interrupt_mask 1 ≡ true
  pub clear : s.space.timer.matched ≡ false
  pub settled : s.is_owed ≡ false

-- main, on a rest's line between the rest's clock and the line's end: interrupts are enabled
pub record BeginsMain {P : Type 0} (cert : Cert) (s : State P) (p : ℕ) : Type 0 where
  pub rest : Rest
  pub is_rest : Contains cert.rests rest
  pub interrupts : bit_is_set s.core.sreg 7 ≡ true
  pub timer : TimerWaits s (length_of cert.schedule rest.line)
  pub place : At cert.schedule p rest.line s.space.timer.count
  pub rested : rest.clock ≤ s.space.timer.count
  pub within : s.space.timer.count < length_of cert.schedule rest.line
  pub cells : CellsHold (tracked cert.head Handler) rest.cells.items s.space.bytes

-- a program that is alone, at the entry's line and clock: interrupts are disabled
pub record BeginsAlone {P : Type 0} (cert : Cert) (s : State P) (p : ℕ) : Type 0 where
  pub interrupts : bit_is_set s.core.sreg 7 ≡ false
  pub place : At cert.schedule p cert.entry.line cert.entry.clock

-- by the entry's kind. No entry is the handler's
abbrev pub Begins : {P : Type 0} → Kind → Cert → State P → ℕ → Type 0
Begins Main cert s p = BeginsMain cert s p
Begins Handler cert s p = ⊥
Begins Alone cert s p = BeginsAlone cert s p

-- The state meets the entry condition at position p of the frame. The first slot of the stack is the byte that was pushed
-- first
pub record EntryCondition {P : Type 0} (cert : Cert) (s : State P) (p : ℕ) : Type 0 where
  pub pc : s.core.pc ≡ cert.entry.pc
  pub registers : (r : ℕ) → r < 32 → IsIn (ends_at cert.entry.regs r) (register s.core r)
  pub flags : (k : ℕ) → k < 7 → BitHolds (flag_at cert.entry.flags k) (bit_is_set s.core.sreg k)
  pub stack : (i : ℕ) → i < length cert.entry.stack.items → IsIn (ends_at cert.entry.stack.items i)
      (slice_index s.space.bytes (s.core.sp + length cert.entry.stack.items - i))
  pub cells : CellsHold (tracked cert.head cert.entry.kind) cert.entry.cells.items s.space.bytes
  pub sp : s.core.sp + length cert.entry.stack.items ≡ cert.head.hi
  pub level : level_at cert.schedule p ≡ Some (sync_level s.space)
  pub response : s.response ≡ response_clocks cert.head.irq
  pub begins : Begins cert.entry.kind cert s p

-- the state meets it at no position
abbrev pub NotEntered : {P : Type 0} → Cert → State P → Type 0
NotEntered cert s = (p : ℕ) → EntryCondition cert s p → ⊥

-- The core, and what one instruction makes of it: loads with their sampling clock, held stores in order, outcome,
-- next pc, and the whole new state, as functions of the state before (AVR Instruction Set Manual).
use Rattle.std.specs.Prelude.{ℕ, ◌+◌, ◌-◌, ◌*◌, ◌/◌, ◌%◌, Bool, true, false, not, ◌&&◌, ◌||◌, if◌then◌else◌, nat_eq, nat_lt, nat_le, List}
use Rattle.std.specs.Prelude.{[], ◌∷◌, fold, filter, slice_index, slice_set, replicate}
use Rattle.std.specs.Ordering.{nat_cmp}
use Rattle.std.specs.FinMap.{FinMap}
use Rattle.uz_hex.specs.Cells.{byte_or_255, word_of}
use Rattle.avr_table.specs.Length.{length_of}
use Rattle.avr_table.specs.declared.Instr.{Instr}
use Rattle.avr_table.specs.declared.Outcome.{Outcome}
use Rattle.avr_table.specs.declared.Outcome.TheVariants.{Next, Taken, SkipOne, SkipTwo}
use Rattle.avr_table.specs.Rows.{words_of, clocks_of}
use Rattle.uz_core.specs.declared.machine.Operand.{Operand}
use Rattle.uz_core.specs.declared.machine.Operand.TheVariants.{Register, Constant}
use Rattle.uz_core.specs.declared.machine.BinaryOp.{BinaryOp}
use Rattle.uz_core.specs.declared.machine.BinaryOp.TheVariants as binary
use Rattle.uz_core.specs.declared.machine.UnaryOp.{UnaryOp}
use Rattle.uz_core.specs.declared.machine.UnaryOp.TheVariants as unary
use Rattle.uz_core.specs.declared.machine.AddressMode.{AddressMode}
use Rattle.uz_core.specs.declared.machine.AddressMode.TheVariants.{Direct, Displacement, PostIncrement, PreDecrement}
use Rattle.uz_core.specs.declared.machine.SkipTest.{SkipTest}
use Rattle.uz_core.specs.declared.machine.SkipTest.TheVariants.{Equal, RegisterBit, IoBit}
use Rattle.uz_core.specs.declared.machine.JumpTarget.{JumpTarget}
use Rattle.uz_core.specs.declared.machine.JumpTarget.TheVariants.{Absolute, Relative, Indirect}
use Rattle.uz_core.specs.declared.machine.Effect.{Effect}
use Rattle.uz_core.specs.declared.machine.Effect.TheVariants.{CopyByte, CopyPair, Binary, Unary, AddToPair, Multiply, Load, Store, PushByte}
use Rattle.uz_core.specs.declared.machine.Effect.TheVariants.{PopByte, LoadProgram, WriteIoBit, WriteFlag, LoadBit, StoreBit, Branch, SkipIf}
use Rattle.uz_core.specs.declared.machine.Effect.TheVariants.{Jump, Return}
use Rattle.uz_core.specs.declared.machine.HeldStore.{HeldStore}
use Rattle.uz_core.specs.declared.machine.HeldStore.TheVariants.{Byte, Bit}
use Rattle.uz_core.specs.Addresses.{IO_BASE, SPL, SPH, SREG, RAM_END, TIMER1_COMPA}
use Rattle.uz_core.specs.Arithmetic.{AluResult, bit_is_set, with_bit, sum_of, difference_of, chained_result, and_of, or_of, xor_of}
use Rattle.uz_core.specs.Arithmetic.{complement_of, negation_of, swap_of, increment_of, decrement_of, arithmetic_shift_of}
use Rattle.uz_core.specs.Arithmetic.{logical_shift_of, rotation_of, pair_sum_of, pair_difference_of, product_of, merged_sreg}
use Rattle.uz_core.specs.Effects.{effect_of}

pub record Core : Type 0 where
  pub pc : ℕ  -- a word address
  pub registers : List ℕ  -- R0 to R31
  pub sreg : ℕ  -- bits C Z N V S H T I
  pub sp : ℕ

-- all 0, but SP at the end of the RAM
abbrev pub reset_core : Core
reset_core = record { pc = 0; registers = replicate 32 0; sreg = 0; sp = RAM_END }

-- Registers and pairs; a pair is named by its low register

abbrev pub register : Core → ℕ → ℕ
register s n = slice_index s.registers n

abbrev pub pair : Core → ℕ → ℕ
pair s n = register s n + 256 * register s (n + 1)

abbrev pub with_register : ℕ → ℕ → Core → Core
with_register n v s = record s { registers = slice_set s.registers n v }

abbrev pub with_pair : ℕ → ℕ → Core → Core
with_pair n w s = with_register (n + 1) (w / 256) (with_register n (w % 256) s)

abbrev pub with_sp : ℕ → Core → Core
with_sp sp s = record s { sp = sp }

abbrev pub with_sreg : ℕ → Core → Core
with_sreg sreg s = record s { sreg = sreg }

-- the flags that an operation sets or clears go into SREG, the others stay
abbrev pub with_flags : AluResult → Core → Core
with_flags r s = record s { sreg = merged_sreg r.flags s.sreg }

abbrev pub operand_value : Operand → Core → ℕ
operand_value (Register r) s = register s r
operand_value (Constant k) s = k

-- The arithmetic of an effect; C and Z come from the old SREG

abbrev pub binary_result : BinaryOp → ℕ → ℕ → ℕ → AluResult
binary_result (binary.Add false) a b sreg = sum_of a b false
binary_result (binary.Add true) a b sreg = sum_of a b (bit_is_set sreg 0)
binary_result (binary.Subtract false) a b sreg = difference_of a b false
binary_result (binary.Subtract true) a b sreg = chained_result (difference_of a b (bit_is_set sreg 0)) (bit_is_set sreg 1)
binary_result binary.And a b sreg = and_of a b
binary_result binary.Or a b sreg = or_of a b
binary_result binary.Xor a b sreg = xor_of a b

abbrev pub unary_result : UnaryOp → ℕ → ℕ → AluResult
unary_result unary.Complement a sreg = complement_of a
unary_result unary.Negate a sreg = negation_of a
unary_result unary.Swap a sreg = swap_of a
unary_result unary.Increment a sreg = increment_of a
unary_result unary.Decrement a sreg = decrement_of a
unary_result unary.ArithmeticShiftRight a sreg = arithmetic_shift_of a
unary_result unary.LogicalShiftRight a sreg = logical_shift_of a
unary_result unary.RotateRight a sreg = rotation_of a (bit_is_set sreg 0)

abbrev pub add_to_pair_result : Bool → ℕ → ℕ → AluResult
add_to_pair_result false p k = pair_sum_of p k
add_to_pair_result true p k = pair_difference_of p k

-- The core's own data addresses: registers, SPL, SPH, SREG

abbrev pub is_core_address : ℕ → Bool
is_core_address at = nat_lt at IO_BASE || (nat_le SPL at && nat_le at SREG)

abbrev pub core_byte : Core → ℕ → ℕ
core_byte s at =
    if nat_lt at IO_BASE then register s at else
    if nat_eq at SPL then s.sp % 256 else
    if nat_eq at SPH then s.sp / 256 else s.sreg

abbrev pub with_core_byte : ℕ → ℕ → Core → Core
with_core_byte at v s =
    if nat_lt at IO_BASE then with_register at v s else
    if nat_eq at SPL then with_sp (s.sp / 256 * 256 + v) s else
    if nat_eq at SPH then with_sp (v * 256 + s.sp % 256) s else with_sreg v s

-- Addresses, and the pointer after one was used; pointers go round at 65,536

abbrev pub effective_address : AddressMode → Core → ℕ
effective_address (Direct k) s = k
effective_address (Displacement p q) s = (pair s p + q) % 65536
effective_address (PostIncrement p) s = pair s p
effective_address (PreDecrement p) s = (pair s p + 65535) % 65536

-- `at` is the effective address
abbrev pub with_pointer_after : AddressMode → ℕ → Core → Core
with_pointer_after (PostIncrement p) at s = with_pair p ((at + 1) % 65536) s
with_pointer_after (PreDecrement p) at s = with_pair p at s
with_pointer_after mode at s = s

-- the address of the following instruction; pc goes round at 32,768
abbrev pub following_pc : ℕ → Core → ℕ
following_pc words s = (s.pc + words) % 32768

-- Loads: their addresses in order, and how many clocks after the start they are sampled

-- a return loads the high byte first
abbrev pub load_addresses : Effect → Core → List ℕ
load_addresses (Load d from) s = effective_address from s ∷ []
load_addresses (PopByte d) s = (s.sp + 1) % 65536 ∷ []
load_addresses (Return from_interrupt) s = (s.sp + 1) % 65536 ∷ (s.sp + 2) % 65536 ∷ []
load_addresses (SkipIf (IoBit at b set)) s = at ∷ []
load_addresses e s = []

-- a skip's test samples at the start, all else one clock before the end
abbrev pub sample_clock : Effect → (Outcome → ℕ) → ℕ
sample_clock (SkipIf test) clocks = 0
sample_clock e clocks = clocks Next - 1

-- what loads make of a data space with contents of type C: by address and clocks after the start, the byte, and the content after it
pub record LoadModel (C : Type 0) : Type 0 where
  pub byte : C → ℕ → ℕ → ℕ
  pub content_after : C → ℕ → ℕ → C

-- the bytes that loads of these addresses give; the core's own addresses don't reach the data space
abbrev pub loaded_bytes : {C : Type 0} → LoadModel C → Core → ℕ → C → List ℕ → List ℕ
loaded_bytes model s late c [] = []
loaded_bytes model s late c (at ∷ more) =
    if is_core_address at then core_byte s at ∷ loaded_bytes model s late c more
    else model.byte c at late ∷ loaded_bytes model s late (model.content_after c at late) more

abbrev pub content_after_loads : {C : Type 0} → LoadModel C → ℕ → C → List ℕ → C
content_after_loads model late c [] = c
content_after_loads model late c (at ∷ more) =
    if is_core_address at then content_after_loads model late c more
    else content_after_loads model late (model.content_after c at late) more

-- Stores, in order

-- a pc is pushed low byte first
abbrev pub pc_stores : ℕ → Core → List HeldStore
pc_stores pc s = Byte s.sp (pc % 256) ∷ Byte ((s.sp + 65535) % 65536) (pc / 256) ∷ []

abbrev pub stores_of : Effect → ℕ → Core → List HeldStore
stores_of (Store to r) words s = Byte (effective_address to s) (register s r) ∷ []
stores_of (PushByte r) words s = Byte s.sp (register s r) ∷ []
stores_of (WriteIoBit at b set) words s = Bit at b set ∷ []
stores_of (Jump target true) words s = pc_stores (following_pc words s) s
stores_of e words s = []

-- a store to one of the core's own addresses
abbrev pub with_store : Core → HeldStore → Core
with_store s (Byte at v) = if is_core_address at then with_core_byte at v s else s
with_store s (Bit at b set) = s

-- the stores that are held for the data space
abbrev pub leaves_core : HeldStore → Bool
leaves_core (Byte at v) = not (is_core_address at)
leaves_core (Bit at b set) = true

-- What happens: next, taken, or a skip over one word or two, as the following instruction has

-- whether bit k of a number has this value
abbrev pub bit_equals : ℕ → ℕ → Bool → Bool
bit_equals n k true = bit_is_set n k
bit_equals n k false = not (bit_is_set n k)

abbrev pub test_holds : SkipTest → List ℕ → Core → Bool
test_holds (Equal d r) loaded s = nat_eq (register s d) (register s r)
test_holds (RegisterBit r b set) loaded s = bit_equals (register s r) b set
test_holds (IoBit at b set) loaded s = bit_equals (slice_index loaded 0) b set

abbrev pub outcome_of : Effect → FinMap nat_cmp ℕ → ℕ → List ℕ → Core → Outcome
outcome_of (Branch flag set offset) image words loaded s = if bit_equals s.sreg flag set then Taken else Next
outcome_of (SkipIf test) image words loaded s =
    if test_holds test loaded s then (if nat_eq (length_of (word_of image (following_pc words s))) 2 then SkipTwo else SkipOne) else Next
outcome_of e image words loaded s = Next

abbrev pub skipped_words : Outcome → ℕ
skipped_words SkipOne = 1
skipped_words SkipTwo = 2
skipped_words Next = 0
skipped_words Taken = 0

abbrev pub jump_address : JumpTarget → ℕ → Core → ℕ
jump_address (Absolute k) words s = k
jump_address (Relative k) words s = (following_pc words s + k) % 32768
jump_address Indirect words s = pair s 30 % 32768

abbrev pub next_pc : Effect → Outcome → ℕ → List ℕ → Core → ℕ
next_pc (Branch flag set offset) Taken words loaded s = (following_pc words s + offset) % 32768
next_pc (SkipIf test) outcome words loaded s = (following_pc words s + skipped_words outcome) % 32768
next_pc (Jump target call) outcome words loaded s = jump_address target words s
next_pc (Return from_interrupt) outcome words loaded s = (slice_index loaded 1 + 256 * slice_index loaded 0) % 32768
next_pc e outcome words loaded s = following_pc words s

-- What becomes of the core, but for its pc: the stores in order, then the pointer or SP, then the destination; each goes over what came
-- before it

abbrev pub changed_core : Effect → FinMap nat_cmp ℕ → ℕ → List ℕ → Core → Core
changed_core (CopyByte d source) image words loaded s = with_register d (operand_value source s) s
changed_core (CopyPair d r) image words loaded s = with_pair d (pair s r) s
changed_core (Binary op d source compare) image words loaded s =
    let r = binary_result op (register s d) (operand_value source s) s.sreg in
    with_flags r (if compare then s else with_register d r.value s)
changed_core (Unary op d) image words loaded s =
    let r = unary_result op (register s d) s.sreg in with_flags r (with_register d r.value s)
changed_core (AddToPair d k subtract) image words loaded s =
    let r = add_to_pair_result subtract (pair s d) k in with_flags r (with_pair d r.value s)
changed_core (Multiply d r d_signed r_signed shifted) image words loaded s =
    let p = product_of (register s d) (register s r) d_signed r_signed shifted in with_flags p (with_pair 0 p.value s)
changed_core (Load d from) image words loaded s =
    with_register d (slice_index loaded 0) (with_pointer_after from (effective_address from s) s)
changed_core (Store to r) image words loaded s =
    with_pointer_after to (effective_address to s) (fold with_store s (stores_of (Store to r) words s))
changed_core (PushByte r) image words loaded s =
    with_sp ((s.sp + 65535) % 65536) (fold with_store s (stores_of (PushByte r) words s))
changed_core (PopByte d) image words loaded s =
    with_register d (slice_index loaded 0) (with_sp ((s.sp + 1) % 65536) s)
changed_core (LoadProgram d increment) image words loaded s =
    with_register d (byte_or_255 image (pair s 30)) (if increment then with_pair 30 ((pair s 30 + 1) % 65536) s else s)
changed_core (WriteFlag flag set) image words loaded s = with_sreg (with_bit flag set s.sreg) s
changed_core (LoadBit d b) image words loaded s = with_register d (with_bit b (bit_is_set s.sreg 6) (register s d)) s
changed_core (StoreBit d b) image words loaded s = with_sreg (with_bit 6 (bit_is_set (register s d) b) s.sreg) s
changed_core (Jump target true) image words loaded s =
    with_sp ((s.sp + 65534) % 65536) (fold with_store s (pc_stores (following_pc words s) s))
changed_core (Return from_interrupt) image words loaded s =
    record s { sp = (s.sp + 2) % 65536; sreg = if from_interrupt then with_bit 7 true s.sreg else s.sreg }
changed_core e image words loaded s = s

-- RETI, and BSET 7 also where I was set, leave one instruction owed before the next interrupt
abbrev pub owes_instruction : Effect → Bool
owes_instruction (WriteFlag flag set) = set && nat_eq flag 7
owes_instruction (Return from_interrupt) = from_interrupt
owes_instruction e = false

abbrev pub returns_from_interrupt : Effect → Bool
returns_from_interrupt (Return from_interrupt) = from_interrupt
returns_from_interrupt e = false

-- The whole instruction

pub record StepResult (C : Type 0) : Type 0 where
  pub core : Core
  pub content : C  -- after the loads, before the stores
  pub stores : List HeldStore  -- the stores that are held
  pub clocks : ℕ
  pub owed : Bool
  pub returned : Bool

-- an effect, with the words and, by outcome, the clocks of its row
abbrev pub effect_result : {C : Type 0} → LoadModel C → FinMap nat_cmp ℕ → Effect → ℕ → (Outcome → ℕ) → Core → C → StepResult C
effect_result model image e words clocks s c =
    let late = sample_clock e clocks in
    let loaded = loaded_bytes model s late c (load_addresses e s) in
    let outcome = outcome_of e image words loaded s in
    record {
      core = record (changed_core e image words loaded s) { pc = next_pc e outcome words loaded s };
      content = content_after_loads model late c (load_addresses e s);
      stores = filter leaves_core (stores_of e words s);
      clocks = clocks outcome;
      owed = owes_instruction e;
      returned = returns_from_interrupt e;
    }

abbrev pub step_result : {C : Type 0} → LoadModel C → FinMap nat_cmp ℕ → Instr → Core → C → StepResult C
step_result model image i s c = effect_result model image (effect_of i) (words_of i) (clocks_of i) s c

-- the core's part of an interrupt's entry: the pc is pushed as by a call, then I is cleared, then the pc is the vector of TIMER1_COMPA
abbrev pub interrupted_core : Core → Core
interrupted_core s =
    let t = with_sp ((s.sp + 65534) % 65536) (fold with_store s (pc_stores s.pc s)) in
    record t { sreg = with_bit 7 false t.sreg; pc = TIMER1_COMPA }

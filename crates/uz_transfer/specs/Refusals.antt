-- Why an instance has no abstract results, by class of effect; the least reason that stands is named.
use Rattle.std.specs.Prelude.{Bool, None, Option, Some, false, if◌then◌else◌, nat_eq, nat_le, nat_lt, not, true, ℕ, ◌&&◌, ◌*◌, ◌+◌, ◌||◌}
use Rattle.uz_schedule.specs.Ends.{Ends}
use Rattle.uz_schedule.specs.Limits.{is_top}
use Rattle.uz_schedule.specs.declared.facts.Bit.{Bit}
use Rattle.uz_schedule.specs.declared.facts.Bit.TheVariants.{Free, Old as OldBit, One, Zero}
use Rattle.uz_schedule.specs.declared.facts.Val.{Val}
use Rattle.uz_schedule.specs.declared.facts.Val.TheVariants.{Old, OldFlags, Range}
use Rattle.uz_schedule.specs.declared.header.Head.{Head}
use Rattle.uz_schedule.specs.declared.kinds.Kind.{Kind}
use Rattle.uz_schedule.specs.declared.lines.EventKind.{EventKind}
use Rattle.uz_schedule.specs.declared.states.Instance.{Instance}
use Rattle.uz_core.specs.declared.machine.Effect.{Effect}
use Rattle.uz_core.specs.declared.machine.Effect.TheVariants.{Jump, PopByte, PushByte, Return, Stop, Store, WriteFlag, WriteIoBit}
use Rattle.uz_core.specs.declared.machine.JumpTarget.{JumpTarget}
use Rattle.uz_core.specs.declared.machine.JumpTarget.TheVariants.{Absolute, Indirect, Relative}
use Rattle.uz_range.specs.Answers.{is_known, is_single}
use Rattle.uz_range.specs.Rules.{bst_answer}
use Rattle.uz_transfer.specs.declared.fail.Fail.{Fail}
use Rattle.uz_transfer.specs.declared.fail.Fail.TheVariants.{Edge, Flag, Io, Mask, Opcode, Return as ReturnWhy, Stack, Store as StoreWhy}
use Rattle.uz_transfer.specs.Values.{span_of, value_at, pair_range}
use Rattle.uz_transfer.specs.Kinds.{cell_place, cell_range, misses, depth_limit, is_main, is_handler}
use Rattle.uz_transfer.specs.Memory.{address_range, depth_of, slot_value}
use Rattle.uz_transfer.specs.Emission.{emission}

-- the reason, where it stands
abbrev pub refuse_if : Bool → Fail → Option Fail → Option Fail
refuse_if b why later = if b then Some why else later

-- DDRA to DDRD, SPL, SPH, TIMSK1, TCCR1A, TCCR1B, TCNT1 and OCR1A
abbrev pub is_setup_register : ℕ → Bool
is_setup_register at =
    nat_eq at 0x21 || (nat_eq at 0x24 || (nat_eq at 0x27 || (nat_eq at 0x2A || (nat_eq at 0x5D || (nat_eq at 0x5E ||
    (nat_eq at 0x6F || (nat_eq at 0x80
    || (nat_eq at 0x81 || (nat_eq at 0x84 || (nat_eq at 0x85 || (nat_eq at 0x88 || nat_eq at 0x89)))))))))))

-- bit k of a value that is stored; the interrupted flags have bit 7 clear
abbrev pub stored_bit : Val → ℕ → Bit
stored_bit (Range e) k = bst_answer e k
stored_bit (Old r) k = Free
stored_bit OldFlags k = if nat_eq k 7 then Zero else Free

abbrev pub flag_is : Bit → Bool → Bool
flag_is Zero b = not b
flag_is One b = b
flag_is Free b = false
flag_is OldBit b = false

abbrev pub range_inside : Ends → Ends → Bool
range_inside a b = nat_le b.lo a.lo && nat_le a.hi b.hi

abbrev pub is_some : {A : Type 0} → Option A → Bool
is_some None = false
is_some (Some x) = true

-- a value may be stored to a tracked cell where it lies in the head's range
abbrev pub cell_admits : Option ℕ → Option Ends → Ends → Bool
cell_admits (Some j) (Some e) v = range_inside v e
cell_admits place range v = false

-- a single address in 0x20..0xFF; a tracked cell, whose range takes the value; RAM off the stack and the cells
abbrev pub may_store : Head → Kind → Ends → Val → Bool
may_store head kind a v =
    (is_single a && (nat_le 0x20 a.lo && nat_le a.lo 0xFF)) ||
    ((is_single a && cell_admits (cell_place head kind a.lo) (cell_range head a.lo) (span_of v)) ||
    ((nat_le 0x100 a.lo && nat_le a.hi 0x10FF) && ((nat_lt a.hi head.lo || nat_lt head.hi a.lo) && misses head.cells.items a)))

-- of a store at a single address
abbrev pub flag_fails : Kind → ℕ → Val → Bool
flag_fails kind at v = nat_eq at 0x36 && (is_main kind || (is_handler kind && not (is_known (stored_bit v 1))))

abbrev pub mask_fails : Kind → ℕ → Val → Bool
mask_fails kind at v = nat_eq at 0x5F && not (flag_is (stored_bit v 7) (is_main kind))

-- of a store to OCR1AL: the value or TEMP isn't known, or they give no line's last clock
abbrev pub top_fails : Instance → Val → Bool
top_fails inst v = not (is_single inst.temp && (is_single (span_of v) && is_top (inst.temp.lo * 256 + (span_of v).lo)))

-- of a store at a single address: a handler may store OCR1AH (0x89), and OCR1AL (0x88) where that gives a line's last clock
abbrev pub io_fails : Instance → ℕ → Val → Bool
io_fails inst at v =
    if is_handler inst.kind && nat_eq at 0x88 then top_fails inst v else
    if is_handler inst.kind && nat_eq at 0x89 then false else is_setup_register at

abbrev pub store_fail : Head → Ends → Val → Instance → Option (Option EventKind) → Option Fail
store_fail head a v inst emitted =
    refuse_if (is_single a && flag_fails inst.kind a.lo v) Flag
    (refuse_if (is_single a && mask_fails inst.kind a.lo v) Mask
    (refuse_if (not (may_store head inst.kind a v)) StoreWhy
    (refuse_if (is_single a && io_fails inst a.lo v) Io
    (refuse_if (not (is_some emitted)) Edge None))))

-- where an indirect jump isn't known to go to one of at most 16 words of the flash
abbrev pub target_fails : JumpTarget → Instance → Bool
target_fails (Absolute k) inst = false
target_fails (Relative k) inst = false
target_fails Indirect inst = nat_le (16 + (pair_range inst 30).lo) (pair_range inst 30).hi || nat_lt 0x7FFF (pair_range inst 30).hi

abbrev pub is_known_slot : Val → Bool
is_known_slot (Range e) = is_single e
is_known_slot (Old r) = false
is_known_slot OldFlags = false

abbrev pub fail_of : Head → Effect → Instance → Option Fail
fail_of head (Store to r) inst = store_fail head (address_range to inst) (value_at inst.regs r) inst (emission (Store to r) inst)
fail_of head (PushByte r) inst = refuse_if (nat_le (depth_limit head inst.kind) (depth_of inst)) Stack None
fail_of head (PopByte d) inst = refuse_if (nat_eq (depth_of inst) 0) Stack None
fail_of head (WriteIoBit at b set) inst =
    refuse_if (nat_eq at 0x36 && (set && is_main inst.kind)) Flag
    (refuse_if (is_setup_register at) Io (refuse_if (not (is_some (emission (WriteIoBit at b set) inst))) Edge None))
fail_of head (WriteFlag flag set) inst = refuse_if (nat_eq flag 7 && (set || is_main inst.kind)) Mask None
fail_of head (Jump target call) inst =
    refuse_if (call && nat_lt (depth_limit head inst.kind) (depth_of inst + 2)) Stack (refuse_if (target_fails target inst) ReturnWhy None)
fail_of head (Return false) inst =
    refuse_if (not (nat_le 2 (depth_of inst) && (is_known_slot (slot_value 1 inst) && is_known_slot (slot_value 2 inst)))) ReturnWhy None
fail_of head (Return true) inst = refuse_if (not (is_handler inst.kind)) ReturnWhy None
fail_of head Stop inst = Some Opcode
fail_of head e inst = None

-- What is known of bytes of the data space: SREG, addresses, loads, stores and the stack.
use Rattle.std.specs.FinMap.{FinMap}
use Rattle.std.specs.Ordering.{nat_cmp}
use Rattle.std.specs.Prelude.{Bool, List, None, Option, Some, [], false, if◌then◌else◌, length, nat_eq, nat_lt, slice_set, take, true, ℕ}
use Rattle.std.specs.Prelude.{◌%◌, ◌&&◌, ◌*◌, ◌+◌, ◌-◌, ◌∷◌}
use Rattle.uz_schedule.specs.Ends.{Ends}
use Rattle.uz_schedule.specs.declared.facts.Bit.{Bit}
use Rattle.uz_schedule.specs.declared.facts.Bit.TheVariants.{Free, Old as OldBit, One, Zero}
use Rattle.uz_schedule.specs.declared.facts.Val.{Val}
use Rattle.uz_schedule.specs.declared.facts.Val.TheVariants.{Old, OldFlags, Range}
use Rattle.uz_schedule.specs.declared.header.Head.{Head}
use Rattle.uz_schedule.specs.declared.states.Instance.{Instance}
use Rattle.uz_hex.specs.Cells.{byte_or_255}
use Rattle.uz_core.specs.Arithmetic.{bit_value}
use Rattle.uz_core.specs.declared.machine.AddressMode.{AddressMode}
use Rattle.uz_core.specs.declared.machine.AddressMode.TheVariants.{Direct, Displacement, PostIncrement, PreDecrement}
use Rattle.uz_range.specs.Answers.{ends, is_known, is_one, is_single}
use Rattle.uz_range.specs.Rules.{bst_answer, pair_add_answer, pair_sub_answer}
use Rattle.uz_transfer.specs.Values.{exact_pair, span_of, value_at, span_at, each_flag, pair_range, with_pair_value, with_flag_list}
use Rattle.uz_transfer.specs.Values.{any_byte, known_byte}
use Rattle.uz_transfer.specs.Kinds.{cell_place, cell_range, is_main, is_handler}

-- The byte of flags

abbrev pub all_flags : (Bit → Bool) → List Bit → Bool
all_flags p [] = true
all_flags p (b ∷ bs) = p b && all_flags p bs

abbrev pub is_old : Bit → Bool
is_old Zero = false
is_old One = false
is_old Free = false
is_old OldBit = true

abbrev pub flags_number : List Bit → ℕ
flags_number [] = 0
flags_number (b ∷ bs) = bit_value (is_one b) + 2 * flags_number bs

abbrev pub sreg_value : Instance → Val
sreg_value inst =
    if all_flags is_old inst.flags then OldFlags else
    if all_flags is_known inst.flags then known_byte (flags_number inst.flags + 128 * bit_value (is_main inst.kind)) else any_byte

-- the flags after a value is stored to SREG
abbrev pub flags_from : Val → List Bit
flags_from (Range e) = each_flag (λ k. bst_answer e k)
flags_from (Old r) = each_flag (λ k. Free)
flags_from OldFlags = each_flag (λ k. OldBit)

-- Addresses. Where one could wrap it may be any

abbrev pub address_range : AddressMode → Instance → Ends
address_range (Direct k) inst = ends k k
address_range (Displacement p q) inst =
    if nat_lt ((pair_range inst p).hi + q) 65536 then ends ((pair_range inst p).lo + q) ((pair_range inst p).hi + q) else ends 0 65535
address_range (PostIncrement p) inst = pair_range inst p
address_range (PreDecrement p) inst = (pair_sub_answer (exact_pair inst p) 1).span

abbrev pub with_pointer_range : AddressMode → Instance → Instance → Instance
with_pointer_range (PostIncrement p) old inst = with_pair_value p (pair_add_answer (exact_pair old p) 1).span inst
with_pointer_range (PreDecrement p) old inst = with_pair_value p (pair_sub_answer (exact_pair old p) 1).span inst
with_pointer_range mode old inst = inst

-- Loads

-- a tracked cell is in its range, and another in the head's
abbrev pub cell_value : List Ends → Option ℕ → Option Ends → Val
cell_value spans (Some j) range = Range (span_at spans j)
cell_value spans None (Some e) = Range e
cell_value spans None None = any_byte

-- the timer's count at the sampling clock, in a handler
abbrev pub value_at_address : Head → ℕ → Instance → ℕ → Val
value_at_address head sampled inst at =
    if nat_eq at 0x5F then sreg_value inst else
    if nat_eq at 0x84 && is_handler inst.kind then known_byte (sampled % 256) else
    cell_value inst.cells.items (cell_place head inst.kind at) (cell_range head at)

abbrev pub loaded_value : Head → ℕ → Instance → Ends → Val
loaded_value head sampled inst a = if is_single a then value_at_address head sampled inst a.lo else any_byte

abbrev pub flash_value : FinMap nat_cmp ℕ → Ends → Val
flash_value image z = if is_single z then known_byte (byte_or_255 image z.lo) else any_byte

-- Stores

abbrev pub with_cell : Option ℕ → Ends → Instance → Instance
with_cell (Some j) e inst = record inst { cells = record { items = slice_set inst.cells.items j e } }
with_cell None e inst = inst

abbrev pub with_stored : Head → ℕ → Val → Instance → Instance
with_stored head at v inst =
    if nat_eq at 0x5F then with_flag_list (flags_from v) inst else with_cell (cell_place head inst.kind at) (span_of v) inst

abbrev pub stored_in : Head → Ends → Val → Instance → Instance
stored_in head a v inst = if is_single a then with_stored head a.lo v inst else inst

-- The stack

abbrev pub with_slots : List Val → Instance → Instance
with_slots slots inst = record inst { stack = record { items = slots } }

abbrev pub depth_of : Instance → ℕ
depth_of inst = length inst.stack.items

-- slot i from the top, counted from 1
abbrev pub slot_value : ℕ → Instance → Val
slot_value i inst = value_at inst.stack.items (depth_of inst - i)

abbrev pub without_slots : ℕ → Instance → Instance
without_slots n inst = with_slots (take (depth_of inst - n) inst.stack.items) inst

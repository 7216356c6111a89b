-- The transfer function: what an instruction makes of what is known, by class of effect.
use Rattle.std.specs.FinMap.{FinMap}
use Rattle.std.specs.Ordering.{nat_cmp}
use Rattle.std.specs.Prelude.{Bool, List, [], false, if◌then◌else◌, nat_lt, slice_set, true, ℕ, ◌%◌, ◌++◌, ◌+◌, ◌/◌, ◌∷◌}
use Rattle.uz_schedule.specs.declared.facts.Bit.{Bit}
use Rattle.uz_schedule.specs.declared.facts.Bit.TheVariants.{One, Zero}
use Rattle.uz_schedule.specs.declared.facts.Val.{Val}
use Rattle.uz_schedule.specs.declared.facts.Val.TheVariants.{Range}
use Rattle.uz_schedule.specs.declared.header.Head.{Head}
use Rattle.uz_schedule.specs.declared.states.Instance.{Instance}
use Rattle.uz_core.specs.declared.machine.Effect.{Effect}
use Rattle.uz_core.specs.declared.machine.Effect.TheVariants.{AddToPair, Binary, CopyByte, CopyPair, Jump, Load, LoadBit, LoadProgram, Multiply}
use Rattle.uz_core.specs.declared.machine.Effect.TheVariants.{PopByte, PushByte, Return, Store, StoreBit, Unary, WriteFlag}
use Rattle.uz_range.specs.Rules.{bld_answer, bst_answer, pair_add_answer}
use Rattle.uz_transfer.specs.Values.{exact_pair, span_of, value_at, flag_at, pair_range, with_value, with_pair_range, with_pair_value}
use Rattle.uz_transfer.specs.Values.{with_flag_list, merged_flags, known_byte}
use Rattle.uz_transfer.specs.Arithmetic.{known_operand, operation_answer, operation_value, binary_keeps, unary_answer, unary_keeps}
use Rattle.uz_transfer.specs.Arithmetic.{add_to_pair_answer, pair_keeps, factors_answer, product_keeps}
use Rattle.uz_transfer.specs.Memory.{address_range, with_pointer_range, loaded_value, flash_value, stored_in, with_slots, slot_value}
use Rattle.uz_transfer.specs.Memory.{without_slots}

-- What registers, flags, stack and cells become

abbrev pub with_flag : ℕ → Bit → Instance → Instance
with_flag k b inst = with_flag_list (slice_set inst.flags k b) inst

abbrev pub pc_values : ℕ → List Val
pc_values pc = known_byte (pc % 256) ∷ known_byte (pc / 256) ∷ []

abbrev pub bit_of_bool : Bool → Bit
bit_of_bool true = One
bit_of_bool false = Zero

-- `following` is the pc of the following instruction, and `sampled` the line's clock at which a load samples
abbrev pub transfer : Head → FinMap nat_cmp ℕ → ℕ → ℕ → Effect → Instance → Instance
transfer head image following sampled (CopyByte d source) inst = with_value d (known_operand source inst) inst
transfer head image following sampled (CopyPair d r) inst =
    with_pair_range d (pair_range inst r) (with_value (d + 1) (value_at inst.regs (r + 1)) (with_value d (value_at inst.regs r) inst))
transfer head image following sampled (Binary op d source compare) inst =
    let w = with_flag_list (merged_flags (binary_keeps op) (operation_answer op d source compare inst).flags inst.flags) inst in
    if compare then w else with_value d (operation_value op d source compare inst) w
transfer head image following sampled (Unary op d) inst =
    let r = unary_answer op (span_of (value_at inst.regs d)) inst in
    with_value d (Range r.span) (with_flag_list (merged_flags (unary_keeps op) r.flags inst.flags) inst)
transfer head image following sampled (AddToPair d k subtract) inst =
    let r = add_to_pair_answer subtract (exact_pair inst d) k in
    with_pair_value d r.span (with_flag_list (merged_flags pair_keeps r.flags inst.flags) inst)
transfer head image following sampled (Multiply d r d_signed r_signed shifted) inst =
    let p = factors_answer d_signed r_signed shifted (span_of (value_at inst.regs d)) (span_of (value_at inst.regs r)) in
    with_pair_value 0 p.span (with_flag_list (merged_flags product_keeps p.flags inst.flags) inst)
transfer head image following sampled (Load d from) inst =
    with_value d (loaded_value head sampled inst (address_range from inst)) (with_pointer_range from inst inst)
transfer head image following sampled (Store to r) inst =
    with_pointer_range to inst (stored_in head (address_range to inst) (value_at inst.regs r) inst)
transfer head image following sampled (PushByte r) inst = with_slots (inst.stack.items ++ value_at inst.regs r ∷ []) inst
transfer head image following sampled (PopByte d) inst = with_value d (slot_value 1 inst) (without_slots 1 inst)
transfer head image following sampled (LoadProgram d increment) inst =
    with_value d (flash_value image (pair_range inst 30))
    (if increment then with_pair_value 30 (pair_add_answer (exact_pair inst 30) 1).span inst else inst)
transfer head image following sampled (WriteFlag flag set) inst = with_flag_list (if nat_lt flag 7 then slice_set inst.flags flag
    (bit_of_bool set) else inst.flags) inst
transfer head image following sampled (LoadBit d b) inst =
    with_value d (Range (bld_answer (span_of (value_at inst.regs d)) b (flag_at inst.flags 6))) inst
transfer head image following sampled (StoreBit d b) inst = with_flag 6 (bst_answer (span_of (value_at inst.regs d)) b) inst
transfer head image following sampled (Jump target true) inst = with_slots (inst.stack.items ++ pc_values following) inst
transfer head image following sampled (Return false) inst = without_slots 2 inst
transfer head image following sampled e inst = inst

-- What the classes of arithmetic make of what is known: operands, answers by the range rules, and the flags that each class keeps.
use Rattle.std.specs.Prelude.{Bool, false, if◌then◌else◌, nat_eq, nat_le, not, true, ℕ, ◌&&◌, ◌||◌}
use Rattle.uz_schedule.specs.Ends.{Ends}
use Rattle.uz_schedule.specs.declared.facts.Bit.TheVariants.{Free, Zero}
use Rattle.uz_schedule.specs.declared.facts.Val.{Val}
use Rattle.uz_schedule.specs.declared.facts.Val.TheVariants.{Range}
use Rattle.uz_schedule.specs.declared.states.Instance.{Instance}
use Rattle.uz_core.specs.declared.machine.BinaryOp.{BinaryOp}
use Rattle.uz_core.specs.declared.machine.BinaryOp.TheVariants as binary
use Rattle.uz_core.specs.declared.machine.Operand.{Operand}
use Rattle.uz_core.specs.declared.machine.Operand.TheVariants.{Constant, Register}
use Rattle.uz_core.specs.declared.machine.UnaryOp.{UnaryOp}
use Rattle.uz_core.specs.declared.machine.UnaryOp.TheVariants as unary
use Rattle.uz_range.specs.Answers.{open_wide_answer}
use Rattle.uz_range.specs.Rules.{and_answer, asr_answer, chained_answer, com_answer, difference_answer, lsr_answer, negate_answer}
use Rattle.uz_range.specs.Rules.{or_answer, pair_add_answer, pair_sub_answer, product_answer, ror_answer, same_and_answer, same_sub_answer}
use Rattle.uz_range.specs.Rules.{same_xor_answer, step_down_answer, step_up_answer, sum_answer, swap_answer, xor_answer}
use Rattle.uz_range.specs.declared.answer.Ranged.{Ranged}
use Rattle.uz_range.specs.declared.answer.WideRanged.{WideRanged}
use Rattle.uz_range.specs.declared.products.Form.TheVariants.{Fmul, Fmuls, Fmulsu, Mul, Muls, Mulsu}
use Rattle.uz_transfer.specs.Values.{span_of, value_at, flag_at, each_flag, known_byte}

abbrev pub known_operand : Operand → Instance → Val
known_operand (Register r) inst = value_at inst.regs r
known_operand (Constant k) inst = known_byte k

-- Arithmetic

abbrev pub binary_answer : BinaryOp → Ends → Ends → Instance → Ranged
binary_answer (binary.Add false) a b inst = sum_answer a b Zero
binary_answer (binary.Add true) a b inst = sum_answer a b (flag_at inst.flags 0)
binary_answer (binary.Subtract false) a b inst = difference_answer a b Zero
binary_answer (binary.Subtract true) a b inst = chained_answer (flag_at inst.flags 1) (difference_answer a b (flag_at inst.flags 0))
binary_answer binary.And a b inst = and_answer a b
binary_answer binary.Or a b inst = or_answer a b
binary_answer binary.Xor a b inst = xor_answer a b

-- a register with itself
abbrev pub same_register_answer : BinaryOp → Ends → Instance → Ranged
same_register_answer (binary.Subtract false) a inst = same_sub_answer
same_register_answer binary.And a inst = same_and_answer a
same_register_answer binary.Or a inst = same_and_answer a
same_register_answer binary.Xor a inst = same_xor_answer
same_register_answer op a inst = binary_answer op a a inst

abbrev pub is_same_register : ℕ → Operand → Bool
is_same_register d (Register r) = nat_eq d r
is_same_register d (Constant k) = false

abbrev pub operation_answer : BinaryOp → ℕ → Operand → Bool → Instance → Ranged
operation_answer op d source compare inst =
    if is_same_register d source && not compare then same_register_answer op (span_of (value_at inst.regs d)) inst
    else binary_answer op (span_of (value_at inst.regs d)) (span_of (known_operand source inst)) inst

-- AND and OR of a register with itself copy it
abbrev pub is_self_copy : BinaryOp → Bool
is_self_copy binary.And = true
is_self_copy binary.Or = true
is_self_copy op = false

abbrev pub operation_value : BinaryOp → ℕ → Operand → Bool → Instance → Val
operation_value op d source compare inst =
    if is_same_register d source && is_self_copy op then value_at inst.regs d else Range (operation_answer op d source compare inst).span

-- the flags that are kept: T, and by logic C and H
abbrev pub binary_keeps : BinaryOp → ℕ → Bool
binary_keeps (binary.Add c) k = nat_eq k 6
binary_keeps (binary.Subtract c) k = nat_eq k 6
binary_keeps op k = nat_eq k 0 || (nat_eq k 5 || nat_eq k 6)

abbrev pub unary_answer : UnaryOp → Ends → Instance → Ranged
unary_answer unary.Complement a inst = com_answer a
unary_answer unary.Negate a inst = negate_answer a
unary_answer unary.Swap a inst = record { span = swap_answer a; flags = each_flag (λ k. Free) }
unary_answer unary.Increment a inst = step_up_answer a
unary_answer unary.Decrement a inst = step_down_answer a
unary_answer unary.ArithmeticShiftRight a inst = asr_answer a
unary_answer unary.LogicalShiftRight a inst = lsr_answer a
unary_answer unary.RotateRight a inst = ror_answer a (flag_at inst.flags 0)

abbrev pub unary_keeps : UnaryOp → ℕ → Bool
unary_keeps unary.Negate k = nat_eq k 6
unary_keeps unary.Swap k = true
unary_keeps unary.Increment k = nat_eq k 0 || (nat_eq k 5 || nat_eq k 6)
unary_keeps unary.Decrement k = nat_eq k 0 || (nat_eq k 5 || nat_eq k 6)
unary_keeps op k = nat_eq k 5 || nat_eq k 6

abbrev pub add_to_pair_answer : Bool → Ends → ℕ → WideRanged
add_to_pair_answer false p k = pair_add_answer p k
add_to_pair_answer true p k = pair_sub_answer p k

abbrev pub pair_keeps : ℕ → Bool
pair_keeps k = nat_eq k 5 || nat_eq k 6

-- no row has a first factor without sign and a second with one
abbrev pub factors_answer : Bool → Bool → Bool → Ends → Ends → WideRanged
factors_answer false false false a b = product_answer a b Mul
factors_answer true true false a b = product_answer a b Muls
factors_answer true false false a b = product_answer a b Mulsu
factors_answer false false true a b = product_answer a b Fmul
factors_answer true true true a b = product_answer a b Fmuls
factors_answer true false true a b = product_answer a b Fmulsu
factors_answer false true shifted a b = open_wide_answer

-- the flags that a product keeps: all but C and Z
abbrev pub product_keeps : ℕ → Bool
product_keeps k = nat_le 2 k

-- The range rules, by class of instruction (this project's profile).
-- Where every byte and flag that the result reads is single, the answer is the instruction's own result (AVR Instruction
-- Set Manual). Else it is the range that the rule names.
use Rattle.std.specs.Prelude.{ℕ, ◌+◌, ◌-◌, ◌*◌, ◌/◌, ◌%◌, ◌^◌, false, true, ◌&&◌, min, max, slice_set, slice_index_or, nat_lt, nat_le}
use Rattle.std.specs.Prelude.{nat_eq, if◌then◌else◌}
use Rattle.uz_core.specs.Arithmetic.{AluResult, sum_of, difference_of, negation_of, and_of, or_of, xor_of, complement_of, increment_of}
use Rattle.uz_core.specs.Arithmetic.{decrement_of, logical_shift_of, arithmetic_shift_of, rotation_of, swap_of, product_of, pair_sum_of}
use Rattle.uz_core.specs.Arithmetic.{pair_difference_of, with_bit, bit_is_set}
use Rattle.uz_schedule.specs.Ends.{Ends}
use Rattle.uz_schedule.specs.declared.facts.Bit.{Bit}
use Rattle.uz_schedule.specs.declared.facts.Bit.TheVariants.{Zero, One, Free}
use Rattle.uz_range.specs.declared.answer.Ranged.{Ranged}
use Rattle.uz_range.specs.declared.answer.WideRanged.{WideRanged}
use Rattle.uz_range.specs.declared.products.Form.{Form}
use Rattle.uz_range.specs.declared.products.Form.TheVariants.{Mul, Muls, Mulsu, Fmul, Fmuls, Fmulsu}
use Rattle.uz_range.specs.Answers.{ends, is_single, is_known, is_one, least_carry, most_carry, exact_answer, arithmetic_answer}
use Rattle.uz_range.specs.Answers.{logic_answer, exact_wide_answer, wide_answer, open_wide_answer}

-- Sums: ADD, ADC

-- of sums from lo to hi: none reaches 256, or each does, or only a part
abbrev pub wrapped_sum : ℕ → ℕ → Ranged
wrapped_sum lo hi =
    if nat_lt hi 256 then arithmetic_answer lo hi Zero else
    if nat_le 256 lo then arithmetic_answer (lo - 256) (hi - 256) One else arithmetic_answer 0 255 Free

abbrev pub sum_answer : Ends → Ends → Bit → Ranged
sum_answer a b carry =
    if is_single a && is_single b && is_known carry then exact_answer (sum_of a.lo b.lo (is_one carry))
    else wrapped_sum (a.lo + b.lo + least_carry carry) (a.hi + b.hi + most_carry carry)

-- Differences: SUB, SUBI, CP, CPI, SBC, SBCI, CPC, NEG

-- of differences that are moved up by 256, from lo to hi: none falls below 0, or each does, or only a part
abbrev pub wrapped_difference : ℕ → ℕ → Ranged
wrapped_difference lo hi =
    if nat_le 256 lo then arithmetic_answer (lo - 256) (hi - 256) Zero else
    if nat_lt hi 256 then arithmetic_answer lo hi One else arithmetic_answer 0 255 Free

abbrev pub difference_answer : Ends → Ends → Bit → Ranged
difference_answer a b carry =
    if is_single a && is_single b && is_known carry then exact_answer (difference_of a.lo b.lo (is_one carry))
    else wrapped_difference (a.lo + 256 - (b.hi + most_carry carry)) (a.hi + 256 - (b.lo + least_carry carry))

-- Z of a result with Z z, chained to an earlier Z
abbrev pub chained_zero : Bit → Bit → Bit
chained_zero Zero before = Zero
chained_zero z Zero = Zero
chained_zero One One = One
chained_zero z before = Free

abbrev pub chained_answer : Bit → Ranged → Ranged
chained_answer before r = record { span = r.span; flags = slice_set r.flags 1 (chained_zero (slice_index_or r.flags 1 Free) before) }

abbrev pub negate_answer : Ends → Ranged
negate_answer a =
    if is_single a then exact_answer (negation_of a.lo) else
    if nat_lt 0 a.lo then arithmetic_answer (256 - a.hi) (256 - a.lo) One else arithmetic_answer 0 255 Free

-- Steps by one: INC, DEC

abbrev pub step_up_answer : Ends → Ranged
step_up_answer a =
    if is_single a then exact_answer (increment_of a.lo) else
    if nat_lt a.hi 255 then arithmetic_answer (a.lo + 1) (a.hi + 1) Free else arithmetic_answer 0 255 Free

abbrev pub step_down_answer : Ends → Ranged
step_down_answer a =
    if is_single a then exact_answer (decrement_of a.lo) else
    if nat_lt 0 a.lo then arithmetic_answer (a.lo - 1) (a.hi - 1) Free else arithmetic_answer 0 255 Free

-- Logic: AND, ANDI, OR, ORI, EOR, COM

abbrev pub and_answer : Ends → Ends → Ranged
and_answer a b = if is_single a && is_single b then exact_answer (and_of a.lo b.lo) else logic_answer 0 (min a.hi b.hi) Free

abbrev pub or_answer : Ends → Ends → Ranged
or_answer a b = if is_single a && is_single b then exact_answer (or_of a.lo b.lo) else logic_answer (max a.lo b.lo) 255 Free

abbrev pub xor_answer : Ends → Ends → Ranged
xor_answer a b = if is_single a && is_single b then exact_answer (xor_of a.lo b.lo) else logic_answer 0 255 Free

abbrev pub com_answer : Ends → Ranged
com_answer a = if is_single a then exact_answer (complement_of a.lo) else logic_answer (255 - a.hi) (255 - a.lo) One

-- A register with itself: AND and OR keep the byte, EOR and SUB give 0

abbrev pub same_and_answer : Ends → Ranged
same_and_answer a = if is_single a then exact_answer (and_of a.lo a.lo) else logic_answer a.lo a.hi Free

abbrev pub same_xor_answer : Ranged
same_xor_answer = exact_answer (xor_of 0 0)

abbrev pub same_sub_answer : Ranged
same_sub_answer = exact_answer (difference_of 0 0 false)

-- Shifts: LSR, ROR, ASR, SWAP

abbrev pub lsr_answer : Ends → Ranged
lsr_answer a = if is_single a then exact_answer (logical_shift_of a.lo) else arithmetic_answer (a.lo / 2) (a.hi / 2) Free

abbrev pub ror_answer : Ends → Bit → Ranged
ror_answer a carry =
    if is_single a && is_known carry then exact_answer (rotation_of a.lo (is_one carry)) else
    if is_known carry then arithmetic_answer (a.lo / 2 + least_carry carry * 128) (a.hi / 2 + least_carry carry * 128) Free
    else arithmetic_answer 0 255 Free

-- bit 7 stays: it has to be known
abbrev pub asr_answer : Ends → Ranged
asr_answer a =
    if is_single a then exact_answer (arithmetic_shift_of a.lo) else
    if nat_lt a.hi 128 then arithmetic_answer (a.lo / 2) (a.hi / 2) Free else
    if nat_le 128 a.lo then arithmetic_answer (a.lo / 2 + 128) (a.hi / 2 + 128) Free else arithmetic_answer 0 255 Free

abbrev pub swap_answer : Ends → Ends
swap_answer a = if is_single a then ends (swap_of a.lo).value (swap_of a.lo).value else ends 0 255

-- Single bits: BLD, BST

abbrev pub bld_answer : Ends → ℕ → Bit → Ends
bld_answer a b t =
    if is_single a && is_known t then ends (with_bit b (is_one t) a.lo) (with_bit b (is_one t) a.lo) else ends 0 255

-- a bit is known where it and all bits above it are the same at both ends
abbrev pub bst_answer : Ends → ℕ → Bit
bst_answer a b = if nat_eq (a.lo / 2 ^ b) (a.hi / 2 ^ b) then (if bit_is_set a.lo b then One else Zero) else Free

-- Pairs: ADIW, SBIW, the steps of pointers, and the bytes of a pair

abbrev pub wrapped_pair_sum : ℕ → ℕ → WideRanged
wrapped_pair_sum lo hi =
    if nat_lt hi 65536 then wide_answer lo hi Zero else
    if nat_le 65536 lo then wide_answer (lo - 65536) (hi - 65536) One else wide_answer 0 65535 Free

abbrev pub pair_add_answer : Ends → ℕ → WideRanged
pair_add_answer p k = if is_single p then exact_wide_answer (pair_sum_of p.lo k) else wrapped_pair_sum (p.lo + k) (p.hi + k)

-- of differences that are moved up by 65,536
abbrev pub wrapped_pair_difference : ℕ → ℕ → WideRanged
wrapped_pair_difference lo hi =
    if nat_le 65536 lo then wide_answer (lo - 65536) (hi - 65536) Zero else
    if nat_lt hi 65536 then wide_answer lo hi One else wide_answer 0 65535 Free

abbrev pub pair_sub_answer : Ends → ℕ → WideRanged
pair_sub_answer p k =
    if is_single p then exact_wide_answer (pair_difference_of p.lo k)
    else wrapped_pair_difference (p.lo + 65536 - k) (p.hi + 65536 - k)

abbrev pub low_answer : Ends → Ends
low_answer p = if nat_eq (p.lo / 256) (p.hi / 256) then ends (p.lo % 256) (p.hi % 256) else ends 0 255

abbrev pub high_answer : Ends → Ends
high_answer p = ends (p.lo / 256) (p.hi / 256)

-- Products: the signs of the factors, and the shift

abbrev pub product_by : Form → ℕ → ℕ → AluResult
product_by Mul a b = product_of a b false false false
product_by Muls a b = product_of a b true true false
product_by Mulsu a b = product_of a b true false false
product_by Fmul a b = product_of a b false false true
product_by Fmuls a b = product_of a b true true true
product_by Fmulsu a b = product_of a b true false true

abbrev pub product_answer : Ends → Ends → Form → WideRanged
product_answer a b form = if is_single a && is_single b then exact_wide_answer (product_by form a.lo b.lo) else open_wide_answer

-- The flags of a result are new ones: none is an interrupted flag.
use Rattle.uz_search.proofs.Common.{◌≡◌, ◌+◌, ◌-◌, ◌*◌, ◌/◌, min, max, ℕ, zero, suc, List, [], ◌∷◌, map, Option, Some, None, Bool, true}
use Rattle.uz_search.proofs.Common.{false, ◌&&◌, not, nat_lt, nat_le, nat_eq, refl, if◌then◌else◌, slice_set, slice_index_or, ⊤, BinaryOp}
use Rattle.uz_search.proofs.Common.{Operand, UnaryOp, Ends, Bit, Zero, One, Free, OldBit as Old, Instance, is_single, is_known, bst_answer}
use Rattle.uz_search.proofs.Common.{is_same_register, operation_answer, known_operand, unary_answer, add_to_pair_answer, factors_answer}
use Rattle.uz_search.proofs.Common.{is_old, flag_at, span_of, value_at}
use Rattle.std.proofs.Common.{◌^◌}
use Rattle.uz_range.specs.Answers.{is_one, least_carry, most_carry, flag_of, zero_flag, negative_flag}
use Rattle.uz_range.specs.Answers.{negative_wide_flag, exact_answer, arithmetic_answer, logic_answer, exact_wide_answer, wide_answer}
use Rattle.uz_range.specs.Answers.{open_wide_answer}
use Rattle.uz_range.specs.Rules.{wrapped_sum, wrapped_difference, wrapped_pair_sum, wrapped_pair_difference, sum_answer}
use Rattle.uz_range.specs.Rules.{difference_answer, chained_answer, chained_zero, product_answer, product_by}
use Rattle.uz_transfer.specs.Arithmetic.{binary_answer, same_register_answer}
use Rattle.uz_core.specs.Arithmetic.{AluResult, sum_of, difference_of, pair_sum_of, pair_difference_of, and_of, or_of, xor_of}
use Rattle.uz_core.specs.Arithmetic.{complement_of, negation_of, increment_of, decrement_of, arithmetic_shift_of, logical_shift_of}
use Rattle.uz_core.specs.Arithmetic.{rotation_of, bit_is_set}
use Rattle.uz_range.specs.declared.answer.Ranged.{Ranged}
use Rattle.uz_range.specs.declared.answer.WideRanged.{WideRanged}
use Rattle.uz_range.specs.declared.products.Form.{Form}
use Rattle.uz_search.proofs.Lists.{choose}
use Rattle.uz_core.specs.declared.machine.BinaryOp.TheVariants as binary
use Rattle.uz_core.specs.declared.machine.UnaryOp.TheVariants as unary
use Rattle.uz_range.specs.declared.products.Form.TheVariants as form

-- each flag of a list is new
abbrev pub AreNew : List Bit → Type 0
AreNew [] = ⊤
AreNew (b ∷ bs) = (is_old b ≡ false) × AreNew bs

pub record New (r : Ranged) : Type 0 where
  pub are : AreNew r.flags

pub record NewWide (r : WideRanged) : Type 0 where
  pub are : AreNew r.flags

pub new_at : (flags : List Bit) (k : ℕ) → AreNew flags → is_old (flag_at flags k) ≡ false
new_at [] k h = refl
new_at (b ∷ bs) zero h = h.0
new_at (b ∷ bs) (suc k) h = new_at bs k h.1

new_set : (flags : List Bit) (k : ℕ) (b : Bit) → AreNew flags → is_old b ≡ false → AreNew (slice_set flags k b)
new_set [] k b h new = tt
new_set (c ∷ cs) zero b h new = (new, h.1)
new_set (c ∷ cs) (suc k) b h new = (h.0, new_set cs k b h.1 new)

known_new : (o : Option Bool) → is_old (flag_of o) ≡ false
known_new None = refl
known_new (Some false) = refl
known_new (Some true) = refl

all_known : (os : List (Option Bool)) → AreNew (map flag_of os)
all_known [] = tt
all_known (o ∷ os) = (known_new o, all_known os)

abbrev NewBit : Bit → Type 0
NewBit b = is_old b ≡ false

zero_new : (lo : ℕ) → NewBit (zero_flag lo)
zero_new lo = choose NewBit (nat_lt 0 lo) Zero Free refl refl

negative_new : (lo hi : ℕ) → NewBit (negative_flag lo hi)
negative_new lo hi = choose NewBit (nat_lt hi 128) Zero _ refl (choose NewBit (nat_le 128 lo) One Free refl refl)

negative_wide_new : (lo hi : ℕ) → NewBit (negative_wide_flag lo hi)
negative_wide_new lo hi = choose NewBit (nat_lt hi 32768) Zero _ refl (choose NewBit (nat_le 32768 lo) One Free refl refl)

arithmetic_new : (lo hi : ℕ) (c : Bit) → NewBit c → New (arithmetic_answer lo hi c)
arithmetic_new lo hi c h = record { are = (h, (zero_new lo, (negative_new lo hi, (refl, (refl, (refl, (refl, tt))))))) }

logic_new : (lo hi : ℕ) (c : Bit) → NewBit c → New (logic_answer lo hi c)
logic_new lo hi c h = record { are = (h, (zero_new lo, (negative_new lo hi, (refl, (negative_new lo hi, (refl, (refl, tt))))))) }

wide_new : (lo hi : ℕ) (c : Bit) → NewBit c → NewWide (wide_answer lo hi c)
wide_new lo hi c h = record { are = (h, (zero_new lo, (negative_wide_new lo hi, (refl, (refl, (refl, (refl, tt))))))) }

exact_new : (o : AluResult) → New (exact_answer o)
exact_new o = record { are = all_known o.flags }

-- the rules

wrapped_sum_new : (lo hi : ℕ) → New (wrapped_sum lo hi)
wrapped_sum_new lo hi =
    choose New (nat_lt hi 256) (arithmetic_answer lo hi Zero) _ (arithmetic_new lo hi Zero refl)
    (choose New (nat_le 256 lo) (arithmetic_answer (lo - 256) (hi - 256) One) (arithmetic_answer 0 255 Free)
    (arithmetic_new (lo - 256) (hi - 256) One refl) (arithmetic_new 0 255 Free refl))

sum_new : (a b : Ends) (c : Bit) → New (sum_answer a b c)
sum_new a b c =
    choose New (is_single a && is_single b && is_known c) (exact_answer (sum_of a.lo b.lo (is_one c)))
    (wrapped_sum (a.lo + b.lo + least_carry c) (a.hi + b.hi + most_carry c))
    (exact_new (sum_of a.lo b.lo (is_one c))) (wrapped_sum_new (a.lo + b.lo + least_carry c) (a.hi + b.hi + most_carry c))

wrapped_difference_new : (lo hi : ℕ) → New (wrapped_difference lo hi)
wrapped_difference_new lo hi =
    choose New (nat_le 256 lo) (arithmetic_answer (lo - 256) (hi - 256) Zero) _ (arithmetic_new (lo - 256) (hi - 256) Zero refl)
    (choose New (nat_lt hi 256) (arithmetic_answer lo hi One) (arithmetic_answer 0 255 Free) (arithmetic_new lo hi One refl)
    (arithmetic_new 0 255 Free refl))

difference_new : (a b : Ends) (c : Bit) → New (difference_answer a b c)
difference_new a b c =
    choose New (is_single a && is_single b && is_known c) (exact_answer (difference_of a.lo b.lo (is_one c)))
    (wrapped_difference (a.lo + 256 - (b.hi + most_carry c)) (a.hi + 256 - (b.lo + least_carry c)))
    (exact_new (difference_of a.lo b.lo (is_one c))) (wrapped_difference_new (a.lo + 256 - (b.hi + most_carry c))
    (a.hi + 256 - (b.lo + least_carry c)))

chained_zero_new : (z before : Bit) → NewBit z → NewBit (chained_zero z before)
chained_zero_new Zero before h = refl
chained_zero_new One Zero h = refl
chained_zero_new One One h = refl
chained_zero_new One Free h = refl
chained_zero_new One Old h = refl
chained_zero_new Free Zero h = refl
chained_zero_new Free One h = refl
chained_zero_new Free Free h = refl
chained_zero_new Free Old h = refl
chained_zero_new Old before h = cc

chained_new : (before : Bit) (r : Ranged) → New r → New (chained_answer before r)
chained_new before r h = record {
  are = new_set r.flags 1 (chained_zero (slice_index_or r.flags 1 Free) before) h.are
      (chained_zero_new (slice_index_or r.flags 1 Free) before (new_at r.flags 1 h.are));
}

-- an exact answer, or one of the two shapes
or_logic : (b : Bool) (o : AluResult) (lo hi : ℕ) (c : Bit) → NewBit c → New (if b then exact_answer o else logic_answer lo hi c)
or_logic b o lo hi c h = choose New b (exact_answer o) (logic_answer lo hi c) (exact_new o) (logic_new lo hi c h)

or_other : (b : Bool) (o : AluResult) (r : Ranged) → New r → New (if b then exact_answer o else r)
or_other b o r h = choose New b (exact_answer o) r (exact_new o) h

open_byte : New (arithmetic_answer 0 255 Free)
open_byte = arithmetic_new 0 255 Free refl

or_open : (b : Bool) (lo hi : ℕ) (c : Bit) → NewBit c → New (if b then arithmetic_answer lo hi c else arithmetic_answer 0 255 Free)
or_open b lo hi c h = choose New b (arithmetic_answer lo hi c) (arithmetic_answer 0 255 Free) (arithmetic_new lo hi c h) open_byte

pub binary_new : (op : BinaryOp) (a b : Ends) (x : Instance) → New (binary_answer op a b x)
binary_new (binary.Add false) a b x = sum_new a b Zero
binary_new (binary.Add true) a b x = sum_new a b (flag_at x.flags 0)
binary_new (binary.Subtract false) a b x = difference_new a b Zero
binary_new (binary.Subtract true) a b x = chained_new (flag_at x.flags 1) (difference_answer a b (flag_at x.flags 0))
    (difference_new a b (flag_at x.flags 0))
binary_new binary.And a b x = or_logic (is_single a && is_single b) (and_of a.lo b.lo) 0 (min a.hi b.hi) Free refl
binary_new binary.Or a b x = or_logic (is_single a && is_single b) (or_of a.lo b.lo) (max a.lo b.lo) 255 Free refl
binary_new binary.Xor a b x = or_logic (is_single a && is_single b) (xor_of a.lo b.lo) 0 255 Free refl

same_new : (op : BinaryOp) (a : Ends) (x : Instance) → New (same_register_answer op a x)
same_new (binary.Subtract false) a x = exact_new (difference_of 0 0 false)
same_new (binary.Subtract true) a x = binary_new (binary.Subtract true) a a x
same_new (binary.Add c) a x = binary_new (binary.Add c) a a x
same_new binary.And a x = or_logic (is_single a) (and_of a.lo a.lo) a.lo a.hi Free refl
same_new binary.Or a x = or_logic (is_single a) (and_of a.lo a.lo) a.lo a.hi Free refl
same_new binary.Xor a x = exact_new (xor_of 0 0)

pub operation_new : (op : BinaryOp) (d : ℕ) (source : Operand) (compare : Bool) (x : Instance)
    → New (operation_answer op d source compare x)
operation_new op d source compare x =
    choose New (is_same_register d source && not compare) (same_register_answer op (span_of (value_at x.regs d)) x)
    (binary_answer op (span_of (value_at x.regs d)) (span_of (known_operand source x)) x) (same_new op (span_of (value_at x.regs d)) x)
    (binary_new op (span_of (value_at x.regs d)) (span_of (known_operand source x)) x)

pub unary_new : (op : UnaryOp) (a : Ends) (x : Instance) → New (unary_answer op a x)
unary_new unary.Complement a x = or_logic (is_single a) (complement_of a.lo) (255 - a.hi) (255 - a.lo) One refl
unary_new unary.Negate a x = or_other (is_single a) (negation_of a.lo) _ (or_open (nat_lt 0 a.lo) (256 - a.hi) (256 - a.lo) One refl)
unary_new unary.Swap a x = record { are = (refl, (refl, (refl, (refl, (refl, (refl, (refl, tt))))))) }
unary_new unary.Increment a x = or_other (is_single a) (increment_of a.lo) _ (or_open (nat_lt a.hi 255) (a.lo + 1) (a.hi + 1) Free refl)
unary_new unary.Decrement a x = or_other (is_single a) (decrement_of a.lo) _ (or_open (nat_lt 0 a.lo) (a.lo - 1) (a.hi - 1) Free refl)
unary_new unary.ArithmeticShiftRight a x =
    or_other (is_single a) (arithmetic_shift_of a.lo) _
    (choose New (nat_lt a.hi 128) (arithmetic_answer (a.lo / 2) (a.hi / 2) Free) _ (arithmetic_new (a.lo / 2) (a.hi / 2) Free refl)
    (or_open (nat_le 128 a.lo) (a.lo / 2 + 128) (a.hi / 2 + 128) Free refl))
unary_new unary.LogicalShiftRight a x = or_other (is_single a) (logical_shift_of a.lo) _ (arithmetic_new (a.lo / 2) (a.hi / 2) Free refl)
unary_new unary.RotateRight a x =
    or_other (is_single a && is_known (flag_at x.flags 0)) (rotation_of a.lo (is_one (flag_at x.flags 0))) _
    (or_open (is_known (flag_at x.flags 0)) (a.lo / 2 + least_carry (flag_at x.flags 0) * 128)
    (a.hi / 2 + least_carry (flag_at x.flags 0) * 128) Free refl)

exact_wide_new : (o : AluResult) → NewWide (exact_wide_answer o)
exact_wide_new o = record { are = all_known o.flags }

wrapped_pair_sum_new : (lo hi : ℕ) → NewWide (wrapped_pair_sum lo hi)
wrapped_pair_sum_new lo hi =
    choose NewWide (nat_lt hi 65536) (wide_answer lo hi Zero) _ (wide_new lo hi Zero refl)
    (choose NewWide (nat_le 65536 lo) (wide_answer (lo - 65536) (hi - 65536) One) (wide_answer 0 65535 Free)
    (wide_new (lo - 65536) (hi - 65536) One refl) (wide_new 0 65535 Free refl))

wrapped_pair_difference_new : (lo hi : ℕ) → NewWide (wrapped_pair_difference lo hi)
wrapped_pair_difference_new lo hi =
    choose NewWide (nat_le 65536 lo) (wide_answer (lo - 65536) (hi - 65536) Zero) _ (wide_new (lo - 65536) (hi - 65536) Zero refl)
    (choose NewWide (nat_lt hi 65536) (wide_answer lo hi One) (wide_answer 0 65535 Free) (wide_new lo hi One refl)
    (wide_new 0 65535 Free refl))

pub pair_new : (subtract : Bool) (p : Ends) (k : ℕ) → NewWide (add_to_pair_answer subtract p k)
pair_new false p k = choose NewWide (is_single p) (exact_wide_answer (pair_sum_of p.lo k)) (wrapped_pair_sum (p.lo + k) (p.hi + k))
    (exact_wide_new (pair_sum_of p.lo k)) (wrapped_pair_sum_new (p.lo + k) (p.hi + k))
pair_new true p k =
    choose NewWide (is_single p) (exact_wide_answer (pair_difference_of p.lo k))
    (wrapped_pair_difference (p.lo + 65536 - k) (p.hi + 65536 - k))
    (exact_wide_new (pair_difference_of p.lo k)) (wrapped_pair_difference_new (p.lo + 65536 - k) (p.hi + 65536 - k))

open_new : NewWide open_wide_answer
open_new = record { are = (refl, (refl, (refl, (refl, (refl, (refl, (refl, tt))))))) }

product_new : (a b : Ends) (f : Form) → NewWide (product_answer a b f)
product_new a b f = choose NewWide (is_single a && is_single b) (exact_wide_answer (product_by f a.lo b.lo)) open_wide_answer
    (exact_wide_new (product_by f a.lo b.lo)) open_new

pub factors_new : (d_signed r_signed shifted : Bool) (a b : Ends) → NewWide (factors_answer d_signed r_signed shifted a b)
factors_new false false false a b = product_new a b form.Mul
factors_new true true false a b = product_new a b form.Muls
factors_new true false false a b = product_new a b form.Mulsu
factors_new false false true a b = product_new a b form.Fmul
factors_new true true true a b = product_new a b form.Fmuls
factors_new true false true a b = product_new a b form.Fmulsu
factors_new false true false a b = open_new
factors_new false true true a b = open_new

pub bst_new : (a : Ends) (b : ℕ) → is_old (bst_answer a b) ≡ false
bst_new a b = choose NewBit (nat_eq (a.lo / 2 ^ b) (a.hi / 2 ^ b)) (if bit_is_set a.lo b then One else Zero) Free
    (choose NewBit (bit_is_set a.lo b) One Zero refl refl) refl

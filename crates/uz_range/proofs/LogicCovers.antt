-- Logic, steps, shifts and is_single bits.
use Rattle.std.proofs.Common.{◌≡◌, ℕ, ◌+◌, ◌-◌, ◌*◌, ◌/◌, ◌%◌, ◌^◌, ◌<◌, ◌≤◌, Bool, true, false, ◌&&◌, nat_lt, nat_le, refl, arith, bit_and}
use Rattle.std.proofs.Common.{bit_or, min, max}
use Rattle.std.specs.Prelude.{bit_xor}
use Rattle.std.proofs.lemmas.Nat.{and_le_l, and_le_r, le_or_l, le_or_r, or_lt, xor_lt}
use Rattle.std.proofs.lemmas.Bool.Decides.{nat_tests}
use Rattle.uz_core.specs.Arithmetic.{and_of, or_of, xor_of, complement_of, increment_of, decrement_of, logical_shift_of}
use Rattle.uz_core.specs.Arithmetic.{arithmetic_shift_of, rotation_of, bit_value}
use Rattle.uz_schedule.specs.Ends.{Ends}
use Rattle.uz_schedule.specs.declared.facts.Bit.{Bit}
use Rattle.uz_schedule.specs.declared.facts.Bit.TheVariants.{One, Free}
use Rattle.uz_range.specs.Containment.{IsWithin, MayBe, Covers}
use Rattle.uz_range.specs.Answers.{is_single, is_known, least_carry}
use Rattle.uz_range.specs.Rules.{and_answer, or_answer, xor_answer, com_answer, step_up_answer, step_down_answer, lsr_answer, asr_answer}
use Rattle.uz_range.specs.Rules.{ror_answer}
use Rattle.uz_range.proofs.ShapesCover.{choose, exactly_covers, only, only_flag, ranged_covers, plain_covers, exclusive_or_false, both_true}
use Rattle.uz_range.proofs.ShapesCover.{known_least}

pub and_covers : (a b : Ends) (x y : ℕ) → IsWithin x a → IsWithin y b → Covers (and_answer a b) (and_of x y)
and_covers a b x y hx hy =
    choose (is_single a && is_single b) _ _ _
    (λ t. let s : (is_single a ≡ true) × (is_single b ≡ true) = both_true _ _ t in rw (only a x s.0 hx, only b y s.1 hy)
    (exactly_covers (and_of x y)))
    (λ t. plain_covers 0 (min a.hi b.hi) Free (bit_and x y) _ _ _ _ (omega arith)
    (omega (arith, and_le_l x y, and_le_r x y, hx.below, hy.below)) tt (exclusive_or_false _))

pub or_covers : (a b : Ends) (x y : ℕ) → x < 256 → y < 256 → IsWithin x a → IsWithin y b → Covers (or_answer a b) (or_of x y)
or_covers a b x y wx wy hx hy =
    choose (is_single a && is_single b) _ _ _
    (λ t. let s : (is_single a ≡ true) × (is_single b ≡ true) = both_true _ _ t in rw (only a x s.0 hx, only b y s.1 hy)
    (exactly_covers (or_of x y)))
    (λ t. let w : bit_or x y < 2 ^ 8 = or_lt 8 x y wx wy in plain_covers (max a.lo b.lo) 255 Free (bit_or x y) _ _ _ _
    (omega (arith, le_or_l x y, le_or_r x y, hx.above, hy.above)) (omega arith) tt (exclusive_or_false _))

pub xor_covers : (a b : Ends) (x y : ℕ) → x < 256 → y < 256 → IsWithin x a → IsWithin y b → Covers (xor_answer a b) (xor_of x y)
xor_covers a b x y wx wy hx hy =
    choose (is_single a && is_single b) _ _ _
    (λ t. let s : (is_single a ≡ true) × (is_single b ≡ true) = both_true _ _ t in rw (only a x s.0 hx, only b y s.1 hy)
    (exactly_covers (xor_of x y)))
    (λ t. let w : bit_xor x y < 2 ^ 8 = xor_lt 8 x y wx wy in plain_covers 0 255 Free (bit_xor x y) _ _ _ _ (omega arith) (omega arith) tt
    (exclusive_or_false _))

pub com_covers : (a : Ends) (x : ℕ) → IsWithin x a → Covers (com_answer a) (complement_of x)
com_covers a x h =
    choose (is_single a) _ _ _
    (λ t. rw (only a x t h) (exactly_covers (complement_of x)))
    (λ t. plain_covers (255 - a.hi) (255 - a.lo) One (255 - x) _ _ _ _ (omega (arith, h.above, h.below)) (omega (arith, h.above, h.below))
    refl (exclusive_or_false _))

pub step_up_covers : (a : Ends) (x : ℕ) → IsWithin x a → Covers (step_up_answer a) (increment_of x)
step_up_covers a x h =
    choose (is_single a) _ _ _
    (λ t. rw (only a x t h) (exactly_covers (increment_of x)))
    (λ t. choose (nat_lt a.hi 255) _ _ _
    (λ t'. let u : a.hi < 255 = grind (arith, nat_tests) in ranged_covers (a.lo + 1) (a.hi + 1) Free ((x + 1) % 256) _ _ _ _ _
    (omega (arith, h.above, h.below)) (omega (arith, h.above, h.below)) tt)
    (λ t'. ranged_covers 0 255 Free ((x + 1) % 256) _ _ _ _ _ (omega arith) (omega arith) tt))

pub step_down_covers : (a : Ends) (x : ℕ) → x < 256 → IsWithin x a → Covers (step_down_answer a) (decrement_of x)
step_down_covers a x w h =
    choose (is_single a) _ _ _
    (λ t. rw (only a x t h) (exactly_covers (decrement_of x)))
    (λ t. choose (nat_lt 0 a.lo) _ _ _
    (λ t'. let u : 0 < a.lo = grind (arith, nat_tests) in ranged_covers (a.lo - 1) (a.hi - 1) Free ((x + 255) % 256) _ _ _ _ _
    (omega (arith, h.above, h.below)) (omega (arith, h.above, h.below)) tt)
    (λ t'. ranged_covers 0 255 Free ((x + 255) % 256) _ _ _ _ _ (omega arith) (omega arith) tt))

pub lsr_covers : (a : Ends) (x : ℕ) → IsWithin x a → Covers (lsr_answer a) (logical_shift_of x)
lsr_covers a x h =
    choose (is_single a) _ _ _
    (λ t. rw (only a x t h) (exactly_covers (logical_shift_of x)))
    (λ t. ranged_covers (a.lo / 2) (a.hi / 2) Free (x / 2) _ _ _ _ _ (omega (arith, h.above)) (omega (arith, h.below)) tt)

pub asr_covers : (a : Ends) (x : ℕ) → x < 256 → IsWithin x a → Covers (asr_answer a) (arithmetic_shift_of x)
asr_covers a x w h =
    choose (is_single a) _ _ _
    (λ t. rw (only a x t h) (exactly_covers (arithmetic_shift_of x)))
    (λ t. choose (nat_lt a.hi 128) _ _ _
    (λ t'. let u : a.hi < 128 = grind (arith, nat_tests) in ranged_covers (a.lo / 2) (a.hi / 2) Free (x / 2 + x / 128 * 128) _ _ _ _ _
    (omega (arith, h.above, h.below)) (omega (arith, h.above, h.below)) tt)
    (λ t'. choose (nat_le 128 a.lo) _ _ _
    (λ t''. let u : 128 ≤ a.lo = grind (arith, nat_tests) in ranged_covers (a.lo / 2 + 128) (a.hi / 2 + 128) Free (x / 2 + x / 128 * 128) _
    _ _ _ _ (omega (arith, h.above, h.below)) (omega (arith, h.above, h.below)) tt)
    (λ t''. ranged_covers 0 255 Free (x / 2 + x / 128 * 128) _ _ _ _ _ (omega arith) (omega arith) tt)))

pub ror_covers : (a : Ends) (k : Bit) (x : ℕ) (c : Bool) → x < 256 → IsWithin x a → MayBe k c → Covers (ror_answer a k) (rotation_of x c)
ror_covers a k x c w h hk =
    choose (is_single a && is_known k) _ _ _
    (λ t. let s : (is_single a ≡ true) × (is_known k ≡ true) = both_true _ _ t in rw (only a x s.0 h, only_flag k c s.1 hk)
    (exactly_covers (rotation_of x c)))
    (λ t. choose (is_known k) _ _ _
    (λ t'. let e : least_carry k ≡ bit_value c = known_least k c t' hk in ranged_covers (a.lo / 2 + least_carry k * 128)
    (a.hi / 2 + least_carry k * 128) Free (x / 2 + bit_value c * 128) _ _ _ _ _ (omega (arith, h.above, e)) (omega (arith, h.below, e))
    tt)
    (λ t'. ranged_covers 0 255 Free (x / 2 + bit_value c * 128) _ _ _ _ _ (omega arith) (omega (arith, bit_value-le c)) tt))
  where
    bit_value-le : (c : Bool) → bit_value c ≤ 1
    bit_value-le true = omega arith
    bit_value-le false = omega arith

-- Sums.
use Rattle.std.proofs.Common.{◌≡◌, ℕ, ◌+◌, ◌-◌, ◌%◌, ◌<◌, ◌≤◌, Bool, true, ◌&&◌, Some, nat_lt, nat_le, ap, arith}
use Rattle.std.proofs.lemmas.Bool.Decides.{nat_tests}
use Rattle.uz_core.specs.Arithmetic.{sum_of, difference_of, negation_of, byte_result, bit_value}
use Rattle.uz_schedule.specs.Ends.{Ends}
use Rattle.uz_schedule.specs.declared.facts.Bit.{Bit}
use Rattle.uz_schedule.specs.declared.facts.Bit.TheVariants.{Zero, One, Free}
use Rattle.uz_range.specs.Containment.{IsWithin, MayBe, Covers}
use Rattle.uz_range.specs.Answers.{is_single, is_known, least_carry, most_carry}
use Rattle.uz_range.specs.Rules.{wrapped_sum, sum_answer, wrapped_difference, difference_answer, negate_answer}
use Rattle.uz_range.proofs.ShapesCover.{choose, exactly_covers, only, only_flag, ranged_covers, all_true, within, bit_value-le}

sum_shape : (lo hi s : ℕ) (v h : Bool) → lo ≤ s → s ≤ hi → s < 512 → Covers (wrapped_sum lo hi) (byte_result s v h (nat_le 256 s))
sum_shape lo hi s v h a b w =
    choose (nat_lt hi 256) _ _ _
    (λ t. let u : hi < 256 = grind (arith, nat_tests) in ranged_covers lo hi Zero (s % 256) _ _ _ _ _ (omega arith) (omega arith)
    (ap Some (grind (arith, nat_tests))))
    (λ t. choose (nat_le 256 lo) _ _ _
    (λ t'. let u : 256 ≤ lo = grind (arith, nat_tests) in ranged_covers (lo - 256) (hi - 256) One (s % 256) _ _ _ _ _ (omega arith)
    (omega arith) (ap Some (grind (arith, nat_tests))))
    (λ t'. ranged_covers 0 255 Free (s % 256) _ _ _ _ _ (omega arith) (omega arith) tt))

pub sum_covers : (a b : Ends) (k : Bit) (x y : ℕ) (c : Bool) → x < 256 → y < 256 → IsWithin x a → IsWithin y b → MayBe k c
    → Covers (sum_answer a b k) (sum_of x y c)
sum_covers a b k x y c wa wb hx hy hk =
    choose (is_single a && is_single b && is_known k) _ _ _
    (λ t. let s : (is_single a ≡ true) × ((is_single b ≡ true) × (is_known k ≡ true)) = all_true _ _ _ t in
    rw (only a x s.0 hx, only b y s.1.0 hy, only_flag k c s.1.1 hk) (exactly_covers (sum_of x y c)))
    (λ t. let r : (least_carry k ≤ bit_value c) × (bit_value c ≤ most_carry k) = within k c hk in
    sum_shape (a.lo + b.lo + least_carry k) (a.hi + b.hi + most_carry k) (x + y + bit_value c) _ _ (omega (arith, hx.above, hy.above, r.0))
    (omega (arith, hx.below, hy.below, r.1)) (let m : bit_value c ≤ 1 = bit_value-le c in omega arith))

-- m is the subtrahend with its carry
difference_shape : (lo hi x m : ℕ) (v h : Bool) → lo ≤ x + 256 - m → x + 256 - m ≤ hi → x < 256 → m ≤ 256
    → Covers (wrapped_difference lo hi) (byte_result (x + 512 - m) v h (nat_lt x m))
difference_shape lo hi x m v h a b w w' =
    choose (nat_le 256 lo) _ _ _
    (λ t. let u : 256 ≤ lo = grind (arith, nat_tests) in ranged_covers (lo - 256) (hi - 256) Zero ((x + 512 - m) % 256) _ _ _ _ _
    (omega arith) (omega arith) (ap Some (grind (arith, nat_tests))))
    (λ t. choose (nat_lt hi 256) _ _ _
    (λ t'. let u : hi < 256 = grind (arith, nat_tests) in ranged_covers lo hi One ((x + 512 - m) % 256) _ _ _ _ _ (omega arith)
    (omega arith) (ap Some (grind (arith, nat_tests))))
    (λ t'. ranged_covers 0 255 Free ((x + 512 - m) % 256) _ _ _ _ _ (omega arith) (omega arith) tt))

pub difference_covers : (a b : Ends) (k : Bit) (x y : ℕ) (c : Bool) → x < 256 → y < 256 → IsWithin x a → IsWithin y b → MayBe k c
    → Covers (difference_answer a b k) (difference_of x y c)
difference_covers a b k x y c wa wb hx hy hk =
    choose (is_single a && is_single b && is_known k) _ _ _
    (λ t. let s : (is_single a ≡ true) × ((is_single b ≡ true) × (is_known k ≡ true)) = all_true _ _ _ t in
    rw (only a x s.0 hx, only b y s.1.0 hy, only_flag k c s.1.1 hk) (exactly_covers (difference_of x y c)))
    (λ t. let r : (least_carry k ≤ bit_value c) × (bit_value c ≤ most_carry k) = within k c hk in
    difference_shape (a.lo + 256 - (b.hi + most_carry k)) (a.hi + 256 - (b.lo + least_carry k)) x (y + bit_value c) _ _
    (omega (arith, hx.above, hy.below, r.1)) (omega (arith, hx.below, hy.above, r.0)) wa (omega (arith, bit_value-le c)))

pub negate_covers : (a : Ends) (x : ℕ) → x < 256 → IsWithin x a → Covers (negate_answer a) (negation_of x)
negate_covers a x w h =
    choose (is_single a) _ _ _
    (λ t. rw (only a x t h) (exactly_covers (negation_of x)))
    (λ t. choose (nat_lt 0 a.lo) _ _ _
    (λ t'. let u : 0 < a.lo = grind (arith, nat_tests) in ranged_covers (256 - a.hi) (256 - a.lo) One ((0 + 512 - (x + 0)) % 256) _ _ _ _ _
    (omega (arith, h.above, h.below)) (omega (arith, h.above, h.below))
    (ap Some (let z : a.lo ≤ x = h.above in grind (arith, nat_tests))))
    (λ t'. ranged_covers 0 255 Free ((0 + 512 - (x + 0)) % 256) _ _ _ _ _ (omega arith) (omega arith) tt))

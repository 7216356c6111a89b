-- A register with itself.
use Rattle.std.proofs.Common.{◌≡◌, ℕ, ◌+◌, ◌-◌, ◌%◌, false, nat_lt, arith}
use Rattle.std.specs.Prelude.{ℤ, pos, ◌-ℤ◌}
use Rattle.std.specs.Int.Bits.{and_self, xor_self}
use Rattle.std.proofs.lemmas.Bool.Decides.{nat_tests}
use Rattle.std.proofs.lemmas.Int.{ints}
use Rattle.uz_core.specs.Arithmetic.{and_of, xor_of, difference_of, logic_result, signed}
use Rattle.uz_schedule.specs.Ends.{Ends}
use Rattle.uz_schedule.specs.declared.facts.Bit.TheVariants.{Free}
use Rattle.uz_range.specs.Containment.{IsWithin, Covers}
use Rattle.uz_range.specs.Answers.{is_single}
use Rattle.uz_range.specs.Rules.{same_and_answer, same_xor_answer, same_sub_answer}
use Rattle.uz_range.proofs.ShapesCover.{choose, exactly_covers, only, plain_covers, exclusive_or_false}

pub same_and_covers : (a : Ends) (x : ℕ) → IsWithin x a → Covers (same_and_answer a) (and_of x x)
same_and_covers a x h =
    choose (is_single a) _ _ _
    (λ t. rw (only a x t h) (exactly_covers (and_of x x)))
    (λ t. rw (and_self x) (plain_covers a.lo a.hi Free x _ _ _ _ h.above h.below tt (exclusive_or_false _)))

pub same_xor_covers : (x : ℕ) → Covers same_xor_answer (xor_of x x)
same_xor_covers x = rw (xor_self x) (exactly_covers (logic_result 0))

nothing : (z : ℤ) → z -ℤ z -ℤ pos 0 ≡ pos 0
nothing z = omega (arith, ints)

pub same_sub_covers : (x : ℕ) → Covers same_sub_answer (difference_of x x false)
same_sub_covers x =
    let v : (x + 512 - (x + 0)) % 256 ≡ 0 = omega arith in
    let c : nat_lt x (x + 0) ≡ false = grind (arith, nat_tests) in
    let h : nat_lt (x % 16) (x % 16 + 0) ≡ false = grind (arith, nat_tests) in
    rw (v, c, h, nothing (signed x)) (exactly_covers (difference_of 0 0 false))

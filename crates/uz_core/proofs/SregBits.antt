-- Single bits of a byte, and of SREG after an operation.
use Rattle.std.proofs.Common.{◌≡◌, inl, inr, ℕ, zero, suc, ◌+◌, ◌-◌, ◌*◌, ◌/◌, ◌%◌, ◌^◌, ◌<◌, Bool, true, false, if◌then◌else◌, nat_eq}
use Rattle.std.proofs.Common.{Option, Some, None, List, [], ◌∷◌, refl, ◌∙◌, ap, arith}
use Rattle.std.specs.Prelude.{bit_or, bit_and, slice_index_or, ◌&&◌}
use Rattle.std.specs.Int.{bit_at}
use Rattle.std.proofs.lemmas.Bool.Decides.{eqb_tells, nat_tests}
use Rattle.std.proofs.lemmas.Nat.Bits.{bit_at-suc, bit_at_lowest, bit_at_or, bit_at_and, bit_at-lt, bit_at-pow_same, bit_at-pow_other}
use Rattle.uz_core.specs.declared.machine.BinaryOp.{BinaryOp}
use Rattle.uz_core.specs.declared.machine.BinaryOp.TheVariants as binary
use Rattle.uz_core.specs.declared.machine.UnaryOp.{UnaryOp}
use Rattle.uz_core.specs.declared.machine.UnaryOp.TheVariants as unary
use Rattle.uz_core.specs.Arithmetic.{AluResult, bit_value, bit_is_set, with_bit, merged_sreg, chained_result, with_z_cleared, difference_of}
use Rattle.uz_core.specs.Core.{add_to_pair_result, binary_result, unary_result}

-- a test that holds of each number below a bound
unfoldable all_below : ℕ → (ℕ → Bool) → Bool
all_below zero test = true
all_below (suc n) test = all_below n test && test n

and_true : (a b : Bool) → (a && b) ≡ true → (a ≡ true) × (b ≡ true)
and_true true b e = (refl, e)
and_true false b e = absurd cc

below_tells : (n : ℕ) (test : ℕ → Bool) → all_below n test ≡ true → (k : ℕ) → k < n → test k ≡ true
unfolding all_below
below_tells zero test e k h = absurd (omega arith)
below_tells (suc n) test e k h =
    let both = and_true (all_below n test) (test n) e in
    elim (eqb_tells k n) [
      | inl t ↦ ap test t.1 ∙ both.1
      | inr t ↦ below_tells n test both.0 k (omega (arith, t.1, h))
    ]

-- the bits of the mask that clears bit k
abbrev mask_bit : ℕ → ℕ → Bool
mask_bit k j = nat_eq (bit_at (255 - 2 ^ k) j) (if nat_eq j k then 0 else 1)

masks : all_below 8 (λ k. all_below 8 (mask_bit k)) ≡ true
unfolding all_below
masks = refl

cleared : (k j : ℕ) → k < 8 → j < 8 → bit_at (255 - 2 ^ k) j ≡ (if nat_eq j k then 0 else 1)
cleared k j hk hj =
    let e = below_tells 8 (mask_bit k) (below_tells 8 (λ k. all_below 8 (mask_bit k)) masks k hk) j hj in
    grind (arith, nat_tests)

-- a byte with bit k set or cleared
pub bit_of_with_bit : (k j n : ℕ) (b : Bool) → k < 8 → j < 8 → bit_is_set (with_bit k b n) j ≡ (if nat_eq j k then b else bit_is_set n j)
bit_of_with_bit k j n true hk hj =
    elim (eqb_tells j k) [
      | inl t ↦
          let p : bit_at (2 ^ k) j ≡ 1 = ap (bit_at (2 ^ k)) t.1 ∙ bit_at-pow_same k in
          let q : bit_at (bit_or n (2 ^ k)) j ≡ 1 = bit_at_or n (2 ^ k) j ∙ omega (arith, p, bit_at-lt n j) in
          rw (t.0, q) refl
      | inr t ↦
          let p : bit_at (2 ^ k) j ≡ 0 = bit_at-pow_other k j t.1 in
          let q : bit_at (bit_or n (2 ^ k)) j ≡ bit_at n j = bit_at_or n (2 ^ k) j ∙ omega (arith, p) in
          rw (t.0, q) refl
    ]
bit_of_with_bit k j n false hk hj =
    let m = cleared k j hk hj in
    elim (eqb_tells j k) [
      | inl t ↦
          let p : bit_at (255 - 2 ^ k) j ≡ 0 = rw t.0 at m in
          let q : bit_at (bit_and n (255 - 2 ^ k)) j ≡ 0 = bit_at_and n (255 - 2 ^ k) j ∙ omega (arith, p) in
          rw (t.0, q) refl
      | inr t ↦
          let p : bit_at (255 - 2 ^ k) j ≡ 1 = rw t.0 at m in
          let q : bit_at (bit_and n (255 - 2 ^ k)) j ≡ bit_at n j = bit_at_and n (255 - 2 ^ k) j ∙ omega (arith, p, bit_at-lt n j) in
          rw (t.0, q) refl
    ]

-- a flag that an operation gives, or the old one
abbrev pub or_kept : Option Bool → Bool → Bool
or_kept None b = b
or_kept (Some c) b = c

low_of : (b : Bool) (n : ℕ) → nat_eq ((bit_value b + 2 * n) % 2) 1 ≡ b
low_of true n = let e : (1 + 2 * n) % 2 ≡ 1 = omega arith in rw e refl
low_of false n = let e : (0 + 2 * n) % 2 ≡ 0 = omega arith in rw e refl

half_of : (b : Bool) (n : ℕ) → (bit_value b + 2 * n) / 2 ≡ n
half_of true n = omega arith
half_of false n = omega arith

pub bit_of_merged : (flags : List (Option Bool)) (s k : ℕ) → bit_is_set (merged_sreg flags s) k ≡ or_kept (slice_index_or flags k None)
    (bit_is_set s k)
bit_of_merged [] s k = refl
bit_of_merged (None ∷ flags) s zero =
    let e : (s % 2 + 2 * merged_sreg flags (s / 2)) % 2 ≡ s % 2 = omega arith in
    rw (bit_at_lowest (s % 2 + 2 * merged_sreg flags (s / 2)), e, bit_at_lowest s) refl
bit_of_merged (Some b ∷ flags) s zero = rw (bit_at_lowest (bit_value b + 2 * merged_sreg flags (s / 2))) (low_of b _)
bit_of_merged (None ∷ flags) s (suc k) =
    let e : (s % 2 + 2 * merged_sreg flags (s / 2)) / 2 ≡ merged_sreg flags (s / 2) = omega arith in
    rw (bit_at-suc (s % 2 + 2 * merged_sreg flags (s / 2)) k, e, bit_at-suc s k) (bit_of_merged flags (s / 2) k)
bit_of_merged (Some b ∷ flags) s (suc k) =
    rw (bit_at-suc (bit_value b + 2 * merged_sreg flags (s / 2)) k, half_of b (merged_sreg flags (s / 2)), bit_at-suc s k)
    (bit_of_merged flags (s / 2) k)

-- I isn't among the flags of an operation

chained_seven : (r : AluResult) (c z n v s h t : Option Bool) → r.flags ≡ c ∷ z ∷ n ∷ v ∷ s ∷ h ∷ t ∷ [] → (b : Bool) → slice_index_or
    (chained_result r b).flags 7 None ≡ None
chained_seven r c z n v s h t e true = ap (λ fs. slice_index_or fs 7 None) e
chained_seven r c z n v s h t e false = ap (λ fs. slice_index_or (with_z_cleared fs) 7 None) e

pub binary_seven : (op : BinaryOp) (a b sreg : ℕ) → slice_index_or (binary_result op a b sreg).flags 7 None ≡ None
binary_seven (binary.Add false) a b sreg = refl
binary_seven (binary.Add true) a b sreg = refl
binary_seven (binary.Subtract false) a b sreg = refl
binary_seven (binary.Subtract true) a b sreg = chained_seven (difference_of a b (bit_is_set sreg 0)) _ _ _ _ _ _ _ refl (bit_is_set sreg 1)
binary_seven binary.And a b sreg = refl
binary_seven binary.Or a b sreg = refl
binary_seven binary.Xor a b sreg = refl

pub unary_seven : (op : UnaryOp) (a sreg : ℕ) → slice_index_or (unary_result op a sreg).flags 7 None ≡ None
unary_seven unary.Complement a sreg = refl
unary_seven unary.Negate a sreg = refl
unary_seven unary.Swap a sreg = refl
unary_seven unary.Increment a sreg = refl
unary_seven unary.Decrement a sreg = refl
unary_seven unary.ArithmeticShiftRight a sreg = refl
unary_seven unary.LogicalShiftRight a sreg = refl
unary_seven unary.RotateRight a sreg = refl

pub pair_seven : (subtract : Bool) (p k : ℕ) → slice_index_or (add_to_pair_result subtract p k).flags 7 None ≡ None
pair_seven false p k = refl
pair_seven true p k = refl

-- so it stays
pub enabled_kept : (r : AluResult) (sreg : ℕ) → slice_index_or r.flags 7 None ≡ None → bit_is_set (merged_sreg r.flags sreg) 7 ≡ bit_is_set
    sreg 7
enabled_kept r sreg e = bit_of_merged r.flags sreg 7 ∙ ap (λ x. or_kept x (bit_is_set sreg 7)) e

-- Pairs: a difference of the low bytes, and one of the high ones with its carry.
use Rattle.std.proofs.Common.{◌≡◌, ℕ, ◌+◌, ◌-◌, ◌/◌, ◌%◌, ◌<◌, ◌≤◌, Bool, true, false, ◌&&◌, Some, nat_eq, nat_lt, refl, sym, ap, ◌∙◌}
use Rattle.std.proofs.Common.{arith, ◌≢◌}
use Rattle.std.proofs.lemmas.Bool.Decides.{nat_tests}
use Rattle.uz_core.specs.Arithmetic.{difference_of, chained_result, bit_value}
use Rattle.uz_schedule.specs.Ends.{Ends}
use Rattle.uz_range.specs.Containment.{IsWithin}
use Rattle.uz_range.specs.Narrowing.{narrowed, KeepsBoth}
use Rattle.uz_range.specs.Flags.{flag_after, pair_flag}
use Rattle.uz_range.proofs.Narrows.{IsSign}
use Rattle.uz_range.proofs.FlagsOfBytes.{Tell, narrowed_keeps, some_is, sign_flag, sign_low, sign_high, sign_less, sign_more}

and_true : (b : Bool) → b ≡ (b && true)
and_true true = refl
and_true false = refl

and_false : (b : Bool) → false ≡ (b && false)
and_false true = refl
and_false false = refl

pub chained_carry : (a b : ℕ) (c z : Bool) → flag_after (chained_result (difference_of a b c) z) 0 ≡ Some (nat_lt a (b + bit_value c))
chained_carry a b c true = refl
chained_carry a b c false = refl

pub chained_zero : (a b : ℕ) (c z : Bool)
    → flag_after (chained_result (difference_of a b c) z) 1 ≡ Some (nat_eq ((a + 512 - (b + bit_value c)) % 256) 0 && z)
chained_zero a b c true = ap Some (and_true _)
chained_zero a b c false = ap Some (and_false (nat_eq ((a + 512 - (b + bit_value c)) % 256) 0))

pub chained_sign : (a b : ℕ) (c z : Bool) → flag_after (chained_result (difference_of a b c) z) 4 ≡ Some (sign_flag a b (bit_value c))
chained_sign a b c true = refl
chained_sign a b c false = refl

-- c is the borrow of the low bytes, and z whether they are equal
pub borrow_is : (x y : ℕ) (c : Bool) → c ≡ nat_lt (x % 256) (y % 256 + 0) → nat_lt (x / 256) (y / 256 + bit_value c) ≡ nat_lt x y
borrow_is x y true e = let h : x % 256 < y % 256 + 0 = grind (arith, nat_tests) in grind (arith, nat_tests)
borrow_is x y false e = let h : y % 256 + 0 ≤ x % 256 = grind (arith, nat_tests) in grind (arith, nat_tests)

bit_value-le : (c : Bool) → bit_value c ≤ 1
bit_value-le true = omega arith
bit_value-le false = omega arith

pub equal_is : (x y : ℕ) (c z : Bool) → x < 65536 → y < 65536 → c ≡ nat_lt (x % 256) (y % 256 + 0)
    → z ≡ nat_eq ((x % 256 + 512 - (y % 256 + 0)) % 256) 0
    → (nat_eq ((x / 256 + 512 - (y / 256 + bit_value c)) % 256) 0 && z) ≡ nat_eq x y
equal_is x y c false wx wy is_c is_z =
    let ne : x % 256 ≢ y % 256 = grind (arith, nat_tests) in
    sym (and_false (nat_eq ((x / 256 + 512 - (y / 256 + bit_value c)) % 256) 0)) ∙ grind (arith, nat_tests)
equal_is x y true true wx wy is_c is_z =
    let e : x % 256 ≡ y % 256 = grind (arith, nat_tests) in
    let h : x % 256 < y % 256 + 0 = grind (arith, nat_tests) in absurd (omega arith)
equal_is x y false true wx wy is_c is_z =
    let e : x % 256 ≡ y % 256 = grind (arith, nat_tests) in
    sym (and_true (nat_eq ((x / 256 + 512 - (y / 256 + 0)) % 256) 0)) ∙ grind (arith, nat_tests)

sign_is : (x y : ℕ) (c s : Bool) → x < 65536 → y < 65536 → c ≡ nat_lt (x % 256) (y % 256 + 0)
    → sign_flag (x / 256) (y / 256) (bit_value c) ≡ s → IsSign 32768 x y s
sign_is x y c s wx wy is_c e =
    let one : bit_value c ≤ 1 = bit_value-le c in
    let lx : x / 256 < 256 = omega arith in
    let ly : y / 256 < 256 = omega arith in
    let order : nat_lt (x / 256) (y / 256 + bit_value c) ≡ nat_lt x y = borrow_is x y c is_c in
    record {
      low = λ hx hy. sym order ∙ sign_low (x / 256) (y / 256) (bit_value c) (omega arith) (omega arith) one ∙ e;
      high = λ hx hy. sym order ∙ sign_high (x / 256) (y / 256) (bit_value c) (omega arith) (omega arith) lx ly one ∙ e;
      less = λ hx hy. sym e ∙ sign_less (x / 256) (y / 256) (bit_value c) (omega arith) (omega arith) lx one;
      more = λ hx hy. sym e ∙ sign_more (x / 256) (y / 256) (bit_value c) (omega arith) (omega arith) ly one;
    }

pub pair_tells : (x y : ℕ) → x < 65536 → y < 65536 → Tell 32768 x y (pair_flag x y)
pair_tells x y wx wy = record {
  carry = chained_carry (x / 256) (y / 256) _ _ ∙ ap Some (borrow_is x y (nat_lt (x % 256) (y % 256 + 0)) refl);
  zero = chained_zero (x / 256) (y / 256) _ _ ∙ ap Some (equal_is x y (nat_lt (x % 256) (y % 256 + 0)) _ wx wy refl refl);
  sign = λ s h. sign_is x y (nat_lt (x % 256) (y % 256 + 0)) s wx wy refl
      (some_is _ _ (sym (chained_sign (x / 256) (y / 256) _ (nat_eq ((x % 256 + 512 - (y % 256 + 0)) % 256) 0)) ∙ h));
}

pub pair_difference_keeps : (k : ℕ) (s : Bool) (a b : Ends) (x y : ℕ) → x < 65536 → y < 65536 → IsWithin x a → IsWithin y b
    → pair_flag x y k ≡ Some s → KeepsBoth x y (narrowed 32768 k s a b)
pair_difference_keeps k s a b x y wx wy hx hy h = narrowed_keeps 32768 k s a b x y (pair_flag x y) hx hy (pair_tells x y wx wy) h

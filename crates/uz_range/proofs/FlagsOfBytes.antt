-- What the flags of a difference of two bytes or pairs say of their order.
use Rattle.std.proofs.Common.{◌≡◌, ℕ, ◌+◌, ◌-◌, ◌%◌, ◌<◌, ◌≤◌, Bool, true, false, not, Some, nat_eq, nat_lt, nat_le, refl, sym, ap, ◌∙◌}
use Rattle.std.proofs.Common.{subst, arith}
use Rattle.std.specs.Prelude.{pos, ◌-ℤ◌, unwrap_or, Option}
use Rattle.std.proofs.lemmas.Bool.Decides.{nat_tests}
use Rattle.std.proofs.lemmas.Int.{ints}
use Rattle.uz_core.specs.Arithmetic.{signed, overflows, exclusive_or, is_negative}
use Rattle.uz_schedule.specs.Ends.{Ends}
use Rattle.uz_range.specs.Containment.{IsWithin}
use Rattle.uz_range.specs.Narrowing.{narrowed, KeepsBoth}
use Rattle.uz_range.specs.Flags.{byte_flag}
use Rattle.uz_range.proofs.Narrows.{keep_if, carry_keeps, zero_keeps, sign_keeps, IsSign}

pub some_is : (b s : Bool) → Some b ≡ Some s → b ≡ s
some_is b s e = ap (λ o. unwrap_or o true) e

-- Flag S of bytes x and y with a borrow c

signed_low : (x : ℕ) → x < 128 → signed x ≡ pos x
signed_low x h = let e : nat_lt x 128 ≡ true = grind (arith, nat_tests) in rw e refl

signed_high : (x : ℕ) → 128 ≤ x → signed x ≡ pos x -ℤ pos 256
signed_high x h = let e : nat_lt x 128 ≡ false = grind (arith, nat_tests) in rw e refl

over_low : (x y c : ℕ) → x < 128 → y < 128 → c ≤ 1 → overflows (pos x -ℤ pos y -ℤ pos c) ≡ false
over_low x y c hx hy hc = grind (arith, ints)

over_high : (x y c : ℕ) → 128 ≤ x → 128 ≤ y → x < 256 → y < 256 → c ≤ 1
    → overflows ((pos x -ℤ pos 256) -ℤ (pos y -ℤ pos 256) -ℤ pos c) ≡ false
over_high x y c hx hy wx wy hc = grind (arith, ints)

over_less : (x y c : ℕ) → 128 ≤ x → y < 128 → x < 256 → c ≤ 1
    → overflows ((pos x -ℤ pos 256) -ℤ pos y -ℤ pos c) ≡ nat_lt x (y + c + 128)
over_less x y c hx hy wx hc = grind (arith, ints, nat_tests)

over_more : (x y c : ℕ) → x < 128 → 128 ≤ y → y < 256 → c ≤ 1
    → overflows (pos x -ℤ (pos y -ℤ pos 256) -ℤ pos c) ≡ nat_le (y + c) (x + 128)
over_more x y c hx hy wy hc = grind (arith, ints, nat_tests)

abbrev pub sign_flag : ℕ → ℕ → ℕ → Bool
sign_flag x y c = exclusive_or (is_negative ((x + 512 - (y + c)) % 256)) (overflows (signed x -ℤ signed y -ℤ pos c))

xor_false : (n t : Bool) → t ≡ n → t ≡ exclusive_or n false
xor_false true t e = e
xor_false false t e = e

xor_other : (n v : Bool) → n ≡ not v → exclusive_or n v ≡ true
xor_other true v e = sym e
xor_other false true e = refl
xor_other false false e = e

xor_same : (n v : Bool) → n ≡ v → exclusive_or n v ≡ false
xor_same n true e = rw e refl
xor_same n false e = rw e refl

pub sign_low : (x y c : ℕ) → x < 128 → y < 128 → c ≤ 1 → nat_lt x (y + c) ≡ sign_flag x y c
sign_low x y c hx hy hc =
    rw (signed_low x hx, signed_low y hy, over_low x y c hx hy hc)
    (xor_false (is_negative ((x + 512 - (y + c)) % 256)) (nat_lt x (y + c)) (grind (arith, nat_tests)))

pub sign_high : (x y c : ℕ) → 128 ≤ x → 128 ≤ y → x < 256 → y < 256 → c ≤ 1 → nat_lt x (y + c) ≡ sign_flag x y c
sign_high x y c hx hy wx wy hc =
    rw (signed_high x hx, signed_high y hy, over_high x y c hx hy wx wy hc)
    (xor_false (is_negative ((x + 512 - (y + c)) % 256)) (nat_lt x (y + c)) (grind (arith, nat_tests)))

pub sign_less : (x y c : ℕ) → 128 ≤ x → y < 128 → x < 256 → c ≤ 1 → sign_flag x y c ≡ true
sign_less x y c hx hy wx hc =
    rw (signed_high x hx, signed_low y hy, over_less x y c hx hy wx hc)
    (xor_other (is_negative ((x + 512 - (y + c)) % 256)) (nat_lt x (y + c + 128)) (grind (arith, nat_tests)))

pub sign_more : (x y c : ℕ) → x < 128 → 128 ≤ y → y < 256 → c ≤ 1 → sign_flag x y c ≡ false
sign_more x y c hx hy wy hc =
    rw (signed_low x hx, signed_high y hy, over_more x y c hx hy wy hc)
    (xor_same (is_negative ((x + 512 - (y + c)) % 256)) (nat_le (y + c) (x + 128)) (grind (arith, nat_tests)))

-- What three flags say

pub record Tell (half x y : ℕ) (flag : ℕ → Option Bool) : Type 0 where
  pub carry : flag 0 ≡ Some (nat_lt x y)
  pub zero : flag 1 ≡ Some (nat_eq x y)
  pub sign : (s : Bool) → flag 4 ≡ Some s → IsSign half x y s

pub narrowed_keeps : (half k : ℕ) (s : Bool) (a b : Ends) (x y : ℕ) (flag : ℕ → Option Bool) → IsWithin x a → IsWithin y b → Tell half x y flag
    → flag k ≡ Some s → KeepsBoth x y (narrowed half k s a b)
narrowed_keeps half k s a b x y flag hx hy tell h =
    keep_if (nat_eq k 0) _ _ x y
    (λ t. let e : k ≡ 0 = grind (arith, nat_tests) in
    carry_keeps s a b x y hx hy (some_is _ _ (sym tell.carry ∙ subst (λ j. flag j ≡ Some s) e h)))
    (λ t. keep_if (nat_eq k 1) _ _ x y
    (λ t'. let e : k ≡ 1 = grind (arith, nat_tests) in
    zero_keeps s a b x y hx hy (some_is _ _ (sym tell.zero ∙ subst (λ j. flag j ≡ Some s) e h)))
    (λ t'. keep_if (nat_eq k 4) _ _ x y
    (λ t''. let e : k ≡ 4 = grind (arith, nat_tests) in
    sign_keeps half s a b x y hx hy (tell.sign s (subst (λ j. flag j ≡ Some s) e h)))
    (λ t''. (hx, hy))))

-- Bytes

pub byte_tells : (x y : ℕ) → x < 256 → y < 256 → Tell 128 x y (byte_flag x y)
byte_tells x y wx wy = record {
  carry = ap (λ n. Some (nat_lt x n)) (omega arith);
  zero = ap Some (grind (arith, nat_tests));
  sign = λ s h. let e : sign_flag x y 0 ≡ s = some_is _ _ h in record {
    low = λ hx hy. ap (nat_lt x) (omega arith) ∙ sign_low x y 0 hx hy (omega arith) ∙ e;
    high = λ hx hy. ap (nat_lt x) (omega arith) ∙ sign_high x y 0 hx hy wx wy (omega arith) ∙ e;
    less = λ hx hy. sym e ∙ sign_less x y 0 hx hy wx (omega arith);
    more = λ hx hy. sym e ∙ sign_more x y 0 hx hy wy (omega arith);
  };
}

pub difference_keeps : (k : ℕ) (s : Bool) (a b : Ends) (x y : ℕ) → x < 256 → y < 256 → IsWithin x a → IsWithin y b
    → byte_flag x y k ≡ Some s → KeepsBoth x y (narrowed 128 k s a b)
difference_keeps k s a b x y wx wy hx hy h = narrowed_keeps 128 k s a b x y (byte_flag x y) hx hy (byte_tells x y wx wy) h

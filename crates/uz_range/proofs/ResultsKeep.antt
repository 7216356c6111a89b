-- The result of a difference lies in what its flags leave, and a byte in what one of its bits leaves.
use Rattle.std.proofs.Common.{◌≡◌, ℕ, ◌+◌, ◌-◌, ◌*◌, ◌/◌, ◌%◌, ◌^◌, ◌<◌, ◌≤◌, Bool, true, false, not, ◌&&◌, ◌||◌, if◌then◌else◌, Option, None, Some}
use Rattle.std.proofs.Common.{zero, suc, nat_eq, nat_lt, nat_le, refl, sym, ap, ◌∙◌, subst, arith}
use Rattle.std.proofs.lemmas.Bool.Decides.{nat_tests}
use Rattle.std.proofs.Math.Pow.{shr_mono}
use Rattle.uz_core.specs.Arithmetic.{difference_of, chained_result, bit_value, pair_difference_of, exclusive_or, bit_is_set}
use Rattle.uz_schedule.specs.Ends.{Ends}
use Rattle.uz_range.specs.Containment.{IsWithin}
use Rattle.uz_range.specs.Answers.{ends}
use Rattle.uz_range.specs.Narrowing.{by_value, less, left_less, narrowed, result_narrowed, middle, bit_narrowed, Keeps, KeepsBoth}
use Rattle.uz_range.specs.Narrowing.{against, valued, of_part, either_one, lower, upper}
use Rattle.uz_range.specs.Flags.{flag_after, byte_flag, pair_flag, difference_value}
use Rattle.uz_range.proofs.Narrows.{keep_one, common_keeps, between_keeps, lower_keeps, upper_keeps, IsSign, joined_left, joined_right}
use Rattle.uz_range.proofs.FlagsOfBytes.{some_is, Tell, narrowed_keeps, byte_tells}
use Rattle.uz_range.proofs.FlagsOfPairs.{pair_tells}

choose_by : (s : Bool) (p q : Option Ends) (v : ℕ) → (s ≡ true → Keeps v p) → (s ≡ false → Keeps v q) → Keeps v (if s then p else q)
choose_by true p q v f g = f refl
choose_by false p q v f g = g refl

pub value_keeps : (half j : ℕ) (s : Bool) (now : Ends) (v : ℕ) → IsWithin v now → (j ≡ 1 → nat_eq v 0 ≡ s)
    → (j ≡ 2 → nat_le half v ≡ s) → Keeps v (by_value half j s now)
value_keeps half j s now v h is_zero negative =
    keep_one (nat_eq j 1) _ _ v
    (λ t. let is : nat_eq v 0 ≡ s = is_zero (grind (arith, nat_tests)) in
    choose_by s _ _ v
    (λ e. let u : v ≡ 0 = grind (arith, nat_tests) in between_keeps _ _ v h.above (omega arith))
    (λ e. let u : 1 ≤ v = grind (arith, nat_tests) in between_keeps _ _ v (omega (arith, h.above, u)) h.below))
    (λ t. keep_one (nat_eq j 2) _ _ v
    (λ t'. let is : nat_le half v ≡ s = negative (grind (arith, nat_tests)) in
    choose_by s _ _ v
    (λ e. let u : half ≤ v = grind (arith, nat_tests) in upper_keeps half now v h u)
    (λ e. let u : v < half = grind (arith, nat_tests) in lower_keeps half now v h u))
    (λ t'. h))

-- v is x less k
pub record IsLess (half x k v : ℕ) : Type 0 where
  pub wraps : x < k → v + k ≡ x + half + half
  pub stays : k ≤ x → v + k ≡ x
  pub fits : v < half + half

within_if : (t : Bool) (p q : Ends) (v : ℕ) → (t ≡ true → IsWithin v p) → (t ≡ false → IsWithin v q) → IsWithin v (if t then p else q)
within_if true p q v f g = f refl
within_if false p q v f g = g refl

less_holds : (half : ℕ) (a : Ends) (k x v : ℕ) → IsWithin x a → IsLess half x k v → IsWithin v (less half a k)
less_holds half a k x v h is =
    within_if (nat_le k a.lo) _ _ v
    (λ t. let u : k ≤ a.lo = grind (arith, nat_tests) in
    let e : v + k ≡ x = is.stays (omega (arith, u, h.above)) in
    record { above = omega (arith, e, h.above); below = omega (arith, e, h.below) })
    (λ t. within_if (nat_lt a.hi k) _ _ v
    (λ t'. let u : a.hi < k = grind (arith, nat_tests) in
    let e : v + k ≡ x + half + half = is.wraps (omega (arith, u, h.below)) in
    record { above = omega (arith, e, h.above); below = omega (arith, e, h.below) })
    (λ t'. record { above = omega arith; below = omega (arith, is.fits) }))

left_keeps : (half k : ℕ) (now : Ends) (p : Option (Ends × Ends)) (x v : ℕ) → KeepsBoth x k p → IsLess half x k v → IsWithin v now
    → Keeps v (left_less half k now p)
left_keeps half k now None x v h is hv = h
left_keeps half k now (Some p) x v h is hv = common_keeps (less half p.0 k) now v (less_holds half p.0 k x v h.0 is) hv

against_keeps : (half j : ℕ) (s : Bool) (k : ℕ) (part : Option Ends) (x : ℕ) (flag : ℕ → Option Bool) → Keeps x part → Tell half x k flag
    → flag j ≡ Some s → KeepsBoth x k (against half j s k part)
against_keeps half j s k None x flag hx tell h = hx
against_keeps half j s k (Some a) x flag hx tell h =
    narrowed_keeps half j s a (ends k k) x k flag hx (record { above = omega arith; below = omega arith }) tell h

valued_keeps : (half j : ℕ) (s : Bool) (p : Option Ends) (v : ℕ) → Keeps v p → (j ≡ 1 → nat_eq v 0 ≡ s) → (j ≡ 2 → nat_le half v ≡ s)
    → Keeps v (valued half j s p)
valued_keeps half j s None v h f g = h
valued_keeps half j s (Some e) v h f g = value_keeps half j s e v h f g

first_keeps : (p q : Option Ends) (v : ℕ) → Keeps v p → Keeps v (either_one p q)
first_keeps None q v h = absurd h
first_keeps (Some a) None v h = h
first_keeps (Some a) (Some b) v h = joined_left a b v h

second_keeps : (p q : Option Ends) (v : ℕ) → Keeps v q → Keeps v (either_one p q)
second_keeps None q v h = h
second_keeps (Some a) None v h = absurd h
second_keeps (Some a) (Some b) v h = joined_right a b v h

pub result_keeps : (half j : ℕ) (s : Bool) (old : Ends) (k : ℕ) (now : Ends) (x v : ℕ) (flag : ℕ → Option Bool) → IsWithin x old
    → IsWithin v now → IsLess half x k v → Tell half x k flag → (flag 1 ≡ Some (nat_eq v 0)) → (flag 2 ≡ Some (nat_le half v))
    → flag j ≡ Some s → Keeps v (result_narrowed half j s old k now)
result_keeps half j s old k now x v flag hx hv is tell is_zero negative h = by_order (nat_lt x k) refl
  where
    of_its_part : (part : Option Ends) → Keeps x part → Keeps v (of_part half j s k now part)
    of_its_part part hp =
        valued_keeps half j s (left_less half k now (against half j s k part)) v
        (left_keeps half k now (against half j s k part) x v (against_keeps half j s k part x flag hp tell h) is hv)
        (λ e. some_is _ _ (sym is_zero ∙ subst (λ i. flag i ≡ Some s) e h))
        (λ e. some_is _ _ (sym negative ∙ subst (λ i. flag i ≡ Some s) e h))

    by_order : (t : Bool) → t ≡ nat_lt x k → Keeps v (result_narrowed half j s old k now)
    by_order true e =
        let u : x < k = grind (arith, nat_tests) in
        first_keeps (of_part half j s k now (lower k old)) (of_part half j s k now (upper k old)) v
        (of_its_part (lower k old) (lower_keeps k old x hx u))
    by_order false e =
        let u : k ≤ x = grind (arith, nat_tests) in
        second_keeps (of_part half j s k now (lower k old)) (of_part half j s k now (upper k old)) v
        (of_its_part (upper k old) (upper_keeps k old x hx u))

-- SUBI and SBCI

chained_negative : (a b : ℕ) (c z : Bool)
    → flag_after (chained_result (difference_of a b c) z) 2 ≡ Some (nat_le 128 ((a + 512 - (b + bit_value c)) % 256))
chained_negative a b c true = refl
chained_negative a b c false = refl

chained_value : (a b : ℕ) (c z : Bool) → (chained_result (difference_of a b c) z).value ≡ (a + 512 - (b + bit_value c)) % 256
chained_value a b c true = refl
chained_value a b c false = refl

-- what the two bytes of the result are
value_is : (x k : ℕ) (c : Bool) → x < 65536 → k < 65536 → c ≡ nat_lt (x % 256) (k % 256 + 0)
    → (x % 256 + 512 - (k % 256 + 0)) % 256 + 256 * ((x / 256 + 512 - (k / 256 + bit_value c)) % 256) ≡ (x + 65536 - k) % 65536
value_is x k true wx wk e = let h : x % 256 < k % 256 + 0 = grind (arith, nat_tests) in omega arith
value_is x k false wx wk e = let h : k % 256 + 0 ≤ x % 256 = grind (arith, nat_tests) in omega arith

difference_value_is : (x k : ℕ) → x < 65536 → k < 65536 → difference_value x k ≡ (x + 65536 - k) % 65536
difference_value_is x k wx wk =
    ap (λ n. (x % 256 + 512 - (k % 256 + 0)) % 256 + 256 * n) (chained_value (x / 256) (k / 256) _ _)
    ∙ value_is x k (nat_lt (x % 256) (k % 256 + 0)) wx wk refl

negative_is : (low high v : ℕ) → low + 256 * high ≡ v → low < 256 → nat_le 128 high ≡ nat_le 32768 v
negative_is low high v e w = grind (arith, nat_tests)

pub pair_result_keeps : (j : ℕ) (s : Bool) (old : Ends) (k : ℕ) (now : Ends) → k < 65536 → (x : ℕ) → x < 65536 → IsWithin x old
    → IsWithin (difference_value x k) now → pair_flag x k j ≡ Some s
    → Keeps (difference_value x k) (result_narrowed 32768 j s old k now)
pair_result_keeps j s old k now wk x wx hx hv h =
    let v : difference_value x k ≡ (x + 65536 - k) % 65536 = difference_value_is x k wx wk in
    result_keeps 32768 j s old k now x (difference_value x k) (pair_flag x k) hx hv
    (record { wraps = λ u. rw v (omega arith); stays = λ u. rw v (omega arith); fits = rw v (omega arith) })
    (pair_tells x k wx wk)
    ((pair_tells x k wx wk).zero ∙ ap Some (rw v (grind (arith, nat_tests))))
    (chained_negative (x / 256) (k / 256) _ _ ∙ ap Some (negative_is ((x % 256 + 512 - (k % 256 + 0)) % 256) _ _
    (ap (λ n. (x % 256 + 512 - (k % 256 + 0)) % 256 + 256 * n)
    (sym (chained_value (x / 256) (k / 256) (nat_lt (x % 256) (k % 256 + 0)) (nat_eq ((x % 256 + 512 - (k % 256 + 0)) % 256) 0))))
    (omega arith)))
    h

-- SBIW

sbiw_carry : (x k : ℕ) (p q : Bool) → x < 65536 → k < 64 → p ≡ nat_le 32768 ((x + 65536 - k) % 65536) → q ≡ nat_le 32768 x
    → (p && not q) ≡ nat_lt x k
sbiw_carry x k true true wx wk e f = grind (arith, nat_tests)
sbiw_carry x k true false wx wk e f = grind (arith, nat_tests)
sbiw_carry x k false q wx wk e f = grind (arith, nat_tests)

sbiw_low : (x k : ℕ) (p : Bool) → x < 32768 → k < 64 → p ≡ nat_le 32768 ((x + 65536 - k) % 65536)
    → nat_lt x k ≡ exclusive_or p (nat_le 32768 x && not p)
sbiw_low x k true wx wk e = let q : nat_le 32768 x ≡ false = grind (arith, nat_tests) in rw q (grind (arith, nat_tests))
sbiw_low x k false wx wk e = let q : nat_le 32768 x ≡ false = grind (arith, nat_tests) in rw q (grind (arith, nat_tests))

sbiw_high : (x : ℕ) (p : Bool) → 32768 ≤ x → exclusive_or p (nat_le 32768 x && not p) ≡ true
sbiw_high x true h = let q : nat_le 32768 x ≡ true = grind (arith, nat_tests) in rw q refl
sbiw_high x false h = let q : nat_le 32768 x ≡ true = grind (arith, nat_tests) in rw q refl

sbiw_sign : (x k : ℕ) (s : Bool) → x < 65536 → k < 64
    → exclusive_or (nat_le 32768 ((x + 65536 - k) % 65536)) (nat_le 32768 x && not (nat_le 32768 ((x + 65536 - k) % 65536))) ≡ s
    → IsSign 32768 x k s
sbiw_sign x k s wx wk e = record {
  low = λ hx hk. sbiw_low x k _ hx wk refl ∙ e;
  high = λ hx hk. absurd (omega (arith, hk, wk));
  less = λ hx hk. sym e ∙ sbiw_high x _ hx;
  more = λ hx hk. absurd (omega (arith, hk, wk));
}

pub constant_result_keeps : (j : ℕ) (s : Bool) (old : Ends) (k : ℕ) (now : Ends) (x : ℕ) → x < 65536 → k < 64 → IsWithin x old
    → IsWithin (pair_difference_of x k).value now → flag_after (pair_difference_of x k) j ≡ Some s
    → Keeps (pair_difference_of x k).value (result_narrowed 32768 j s old k now)
constant_result_keeps j s old k now x wx wk hx hv h =
    result_keeps 32768 j s old k now x _ (flag_after (pair_difference_of x k)) hx hv
    (record { wraps = λ u. omega arith; stays = λ u. omega arith; fits = omega arith })
    (record {
      carry = ap Some (sbiw_carry x k _ _ wx wk refl refl);
      zero = ap Some (grind (arith, nat_tests));
      sign = λ t e. sbiw_sign x k t wx wk (some_is _ _ e);
    })
    refl refl h

-- SUBI alone
pub byte_result_keeps : (j : ℕ) (s : Bool) (old : Ends) (k : ℕ) (now : Ends) → k < 256 → (x : ℕ) → x < 256 → IsWithin x old
    → IsWithin (difference_of x k false).value now → byte_flag x k j ≡ Some s
    → Keeps (difference_of x k false).value (result_narrowed 128 j s old k now)
byte_result_keeps j s old k now wk x wx hx hv h =
    result_keeps 128 j s old k now x _ (byte_flag x k) hx hv
    (record { wraps = λ u. omega arith; stays = λ u. omega arith; fits = omega arith })
    (byte_tells x k wx wk) refl refl h

-- A bit

-- among numbers with the same bits above, those from the middle on have the bit
from_middle : (b n x : ℕ) → b < 8 → n / 2 ^ b / 2 ≡ x / 2 ^ b / 2 → nat_le (middle b n) x ≡ nat_eq (x / 2 ^ b % 2) 1
from_middle zero n x w e = grind (arith, nat_tests)
from_middle (suc zero) n x w e = grind (arith, nat_tests)
from_middle (suc (suc zero)) n x w e = grind (arith, nat_tests)
from_middle (suc (suc (suc zero))) n x w e = grind (arith, nat_tests)
from_middle (suc (suc (suc (suc zero)))) n x w e = grind (arith, nat_tests)
from_middle (suc (suc (suc (suc (suc zero))))) n x w e = grind (arith, nat_tests)
from_middle (suc (suc (suc (suc (suc (suc zero)))))) n x w e = grind (arith, nat_tests)
from_middle (suc (suc (suc (suc (suc (suc (suc zero))))))) n x w e = grind (arith, nat_tests)
from_middle (suc (suc (suc (suc (suc (suc (suc (suc b)))))))) n x w e = absurd (omega arith)

pub bit_keeps : (b : ℕ) (s : Bool) (a : Ends) (x : ℕ) → b < 8 → IsWithin x a → bit_is_set x b ≡ s → Keeps x (bit_narrowed b s a)
bit_keeps b s a x w h is =
    keep_one (nat_eq (a.lo / 2 ^ b / 2) (a.hi / 2 ^ b / 2)) _ _ x
    (λ t. let e : a.lo / 2 ^ b / 2 ≡ a.hi / 2 ^ b / 2 = grind (arith, nat_tests) in
    let e' : a.lo / 2 ^ b / 2 ≡ x / 2 ^ b / 2 = omega (arith, e, shr_mono b h.above, shr_mono b h.below) in
    let is : nat_le (middle b a.lo) x ≡ s = from_middle b a.lo x w e' ∙ is in
    choose_by s _ _ x
    (λ u. let m : middle b a.lo ≤ x = grind (arith, nat_tests) in between_keeps _ _ x (omega (arith, m, h.above)) h.below)
    (λ u. let m : x < middle b a.lo = grind (arith, nat_tests) in between_keeps _ _ x h.above (omega (arith, m, h.below))))
    (λ t. h)

-- A word that is a number is what the number is written as.
use Rattle.std.proofs.lemmas.Bool.{ltb-true}
use Rattle.std.proofs.Common.{◌≡◌, ℕ, zero, suc, ◌+◌, ◌-◌, ◌*◌, ◌<◌, ◌≤◌, ◌^◌, Bool, true, false, cond, ◌&&◌, ◌||◌, not, eqb, leb, ltb}
use Rattle.std.proofs.Common.{List, [], ◌∷◌, length, get_or, decimal, lit<, refl, sym, ◌∙◌, ap, subst, arith, rules}
use Rattle.std.specs.Prelude.{Option, Some, None}
use Rattle.std.proofs.lemmas.Bool.Decides.{nat_tests}
use Rattle.std.proofs.lemmas.Str.Parse.{IsNumeralModel, numerals_by_fold}
use Rattle.std.proofs.lemmas.Fmt.{digits_value-decimal, decimal-digits_value, digits_decimal, decimal_nonempty, decimal_digit}
use Rattle.std.proofs.lemmas.Fmt.{first_decimal}
use Rattle.uz_hex.specs.Numbers.{all_digits, digits_after, is_numeral, number_below, number_after, from_low, number_within}

own : IsNumeralModel (λ ds. all_digits ds ≡ true) (digits_after 0)
own = numerals_by_fold _ (search rules) digits_after (search rules)

pub digits_after_ge : (n : ℕ) (ds : List ℕ) → n ≤ digits_after n ds
digits_after_ge n [] = omega arith
digits_after_ge n (c ∷ cs) = omega (arith, digits_after_ge (n * 10 + (c - 48)) cs)

-- more digits don't make less
pub past_limit : (limit n : ℕ) (ds : List ℕ) → limit ≤ n → number_after limit n ds ≡ None
past_limit limit n ds h = let more = digits_after_ge n ds in grind (arith, nat_tests)

some_chosen : (b : Bool) (x n : ℕ) → cond b (Some x) None ≡ Some n → (b ≡ true) × (x ≡ n)
some_chosen true x n e = (refl, cc)
some_chosen false x n e = absurd cc

and_true : (a b : Bool) → (a && b) ≡ true → (a ≡ true) × (b ≡ true)
and_true true b e = (refl, e)
and_true false b e = absurd cc

one_zero : (first len : ℕ) → (not (eqb first 48) || eqb len 1) ≡ true → first ≡ 48 → len ≡ 1
one_zero first len e f = grind (arith, nat_tests)

pub number_read : (limit n : ℕ) (w : List ℕ) → limit ≤ 2 ^ 32 → number_below limit w ≡ Some n → (w ≡ decimal n) × (n < limit)
number_read limit n w h e =
    let test = some_chosen (is_numeral w && ltb (digits_after 0 w) limit) (digits_after 0 w) n e in
    let both = and_true (is_numeral w) (ltb (digits_after 0 w) limit) test.0 in
    let some = and_true (ltb 0 (length w)) _ both.0 in
    let zero = and_true (not (eqb (get_or w 0 0) 48) || eqb (length w) 1) (all_digits w) some.1 in
    let long : 0 < length w = ltb-true _ _ some.0 in
    let small : digits_after 0 w < limit = ltb-true _ _ both.1 in
    let is = decimal-digits_value own w zero.1 long (one_zero (get_or w 0 0) (length w) zero.0) (omega arith) in
    (sym is ∙ ap decimal test.1, omega (arith, test.1))

numeral_tests : (len first : ℕ) (digits : Bool) → 0 < len → (first ≡ 48 → len ≡ 1) → digits ≡ true
    → (ltb 0 len && ((not (eqb first 48) || eqb len 1) && digits)) ≡ true
numeral_tests len first digits some one d = grind (arith, nat_tests)

only_zero : (n : ℕ) → n < 2 ^ 64 → get_or (decimal n) 0 0 ≡ 48 → length (decimal n) ≡ 1
only_zero zero h e = ap length (decimal_digit 0 (lit< tt))
only_zero (suc n) h e = absurd (omega (arith, first_decimal (suc n) (omega arith) h))

chosen_some : (test : Bool) (v n limit : ℕ) → test ≡ true → v ≡ n → n < limit → cond (test && ltb v limit) (Some v) None ≡ Some n
chosen_some test v n limit t e b = grind (arith, nat_tests)

pub number_again : (limit n : ℕ) → limit ≤ 2 ^ 32 → n < limit → number_below limit (decimal n) ≡ Some n
number_again limit n h b =
    let fits : n < 2 ^ 64 = omega arith in
    let test = numeral_tests (length (decimal n)) (get_or (decimal n) 0 0) (all_digits (decimal n)) (decimal_nonempty n fits)
    (only_zero n fits) (digits_decimal own n fits) in
    chosen_some (is_numeral (decimal n)) (digits_after 0 (decimal n)) n limit test (digits_value-decimal own n fits) b

pub digits_of_decimal : (n : ℕ) → n < 2 ^ 64 → all_digits (decimal n) ≡ true
digits_of_decimal n h = digits_decimal own n h

low_kept : (low m n : ℕ) → cond (leb low m) (Some m) None ≡ Some n → (m ≡ n) × (low ≤ n)
low_kept low m n e =
    let both = some_chosen (leb low m) m n e in
    (both.1, subst (λ k. low ≤ k) both.1 (leb_true low m both.0))
  where
    leb_true : (a b : ℕ) → leb a b ≡ true → a ≤ b
    leb_true a b e = grind (arith, nat_tests)

from_low_some : (low n : ℕ) (o : Option ℕ) → from_low low o ≡ Some n → (o ≡ Some n) × (low ≤ n)
from_low_some low n None e = absurd cc
from_low_some low n (Some m) e =
    let both = low_kept low m n e in
    (ap (λ k. Some k) both.0, both.1)

-- what is read within bounds is the number's decimal text
pub within_read : (low limit n : ℕ) (w : List ℕ) → limit ≤ 2 ^ 32 → number_within low limit w ≡ Some n → (w ≡ decimal n) × (low ≤ n)
    × (n < limit)
within_read low limit n w h e =
    let some = from_low_some low n (number_below limit w) e in
    let is = number_read limit n w h some.0 in
    (is.0, some.1, is.1)

low_some : (low n : ℕ) → low ≤ n → cond (leb low n) (Some n) None ≡ Some n
low_some low n h = grind (arith, nat_tests)

pub within_again : (low limit n : ℕ) → limit ≤ 2 ^ 32 → low ≤ n → n < limit → number_within low limit (decimal n) ≡ Some n
within_again low limit n h l b = ap (from_low low) (number_again limit n h b) ∙ low_some low n l

-- Numbers as words of a line, within the limits of their place, and other words that are due: read as they are written, and only so.
use Rattle.uz_cert_laws.proofs.Common.{◌≡◌, inr, ℕ, zero, suc, ◌+◌, ◌<◌, ◌≤◌, ◌≢◌, ◌^◌, Bool, true, false, cond, List, [], ◌∷◌, bytes_eq}
use Rattle.uz_cert_laws.proofs.Common.{refl, sym, ◌∙◌, ap, arith, Some, Ok, Err, slice_get, Words, fixed_of, choice_of, within, one_of}
use Rattle.uz_cert_laws.proofs.Common.{least_of, line, word_at, ◌⊎◌, not, ◌&&◌, eqb, leb, length, decimal, lit≤, add-one, subst, Option}
use Rattle.uz_cert_laws.proofs.Common.{None, nat_tests, is_numeral, number_below, cut_at, number_read, number_again, Lacks, lacks_cons}
use Rattle.uz_cert_laws.proofs.Common.{All-cons, All-head, All-tail, magnitude, number_of, slope_of, digits, one_number, two_numbers}
use Rattle.uz_cert_laws.proofs.Common.{signed_word, ℤ, pos, negsuc}
use Rattle.uz_cert_laws.proofs.Tests.{fine_is, fault_not, passed, so, word_is, same_word, some_not, and_true, not_true, failed, else_so}
use Rattle.uz_cert_laws.proofs.Tests.{le_is, not_number, number_is}
use Rattle.uz_cert_lines.specs.Grammar.{choice_from, asked, number_or, signed_or, unsigned_or}
use Rattle.std.proofs.lemmas.Fmt.{decimal_nonempty}
use Rattle.uz_cert_lines.specs.{Lines.rising, Values.one_or, Values.both, declared.words.NumberBounds.NumberBounds}
use Rattle.uz_hex.proofs.{Plain.lacks_nil, NumberWords.within_read, NumberWords.within_again, NumberWords.digits_of_decimal}
use Rattle.uz_hex.specs.{Cutting.cut_behind, Numbers.all_digits, Numbers.number_within}
use Rattle.uz_cert_lines.specs.declared.why.CertWhy.TheVariants as why

-- a number of a word, as it is asked

-- what a place asks of a number
pub record IsWithin (a : NumberBounds) (n : ℕ) : Type 0 where
  pub low : a.low ≤ n
  pub below : n < a.limit
  pub outside : (n < a.hole) ⊎ (a.hole_end ≤ n)
  pub least : a.least ≤ n
  pub other : n ≢ a.other

asked_is : (a : NumberBounds) (n m : ℕ) → asked a n ≡ Ok m → (n ≡ m) × ((n < a.hole) ⊎ (a.hole_end ≤ n)) × (a.least ≤ n) × (n ≢ a.other)
asked_is a n m e = grind (arith, nat_tests)

asked_so : (a : NumberBounds) (n : ℕ) → IsWithin a n → asked a n ≡ Ok n
asked_so a n h = grind (arith, nat_tests)

-- what is read is the number's decimal text
pub number_only : (a : NumberBounds) (w : List ℕ) (n : ℕ) → a.limit ≤ 2 ^ 32 → number_of a w ≡ Ok n → (w ≡ decimal n) × IsWithin a n
unfolding number_of
number_only a w n h e = by_number (number_within a.low a.limit w) (is_numeral w) refl e
  where
    by_number : (o : Option ℕ) (t : Bool) → number_within a.low a.limit w ≡ o → number_or a t o ≡ Ok n → (w ≡ decimal n) × IsWithin a n
    by_number None true e f = absurd cc
    by_number None false e f = absurd cc
    by_number (Some m) t e f =
        let word = within_read a.low a.limit m w h e in
        let is = asked_is a m n f in
        subst (λ k. (w ≡ decimal k) × IsWithin a k) is.0
        (word.0, record { low = word.1; below = word.2; outside = is.1; least = is.2; other = is.3 })

pub number_so : (a : NumberBounds) (n : ℕ) → a.limit ≤ 2 ^ 32 → IsWithin a n → number_of a (decimal n) ≡ Ok n
unfolding number_of
number_so a n h is =
    ap (number_or a (is_numeral (decimal n))) (within_again a.low a.limit n h is.low is.below) ∙ asked_so a n is

-- digits

pub first_digit : (n : ℕ) → n < 2 ^ 64 → (c : ℕ) × (cs : List ℕ) × (decimal n ≡ c ∷ cs) × (48 ≤ c) × (c ≤ 57)
first_digit n h = by_word (decimal n) (decimal_nonempty n h) (digits_of_decimal n h)
  where
    by_word : (w : List ℕ) → 0 < length w → all_digits w ≡ true → (c : ℕ) × (cs : List ℕ) × (w ≡ c ∷ cs) × (48 ≤ c) × (c ≤ 57)
    by_word [] some e = absurd (omega arith)
    by_word (c ∷ cs) some e =
        let head = and_true (leb 48 c && leb c 57) (all_digits cs) e in
        let two = and_true (leb 48 c) (leb c 57) head.0 in
        (c, cs, refl, le_is 48 c two.0, le_is c 57 two.1)

digits_lack_below : (c : ℕ) (w : List ℕ) → c < 48 → all_digits w ≡ true → Lacks c w
digits_lack_below c [] h e = lacks_nil c
digits_lack_below c (b ∷ bs) h e =
    let head = and_true (leb 48 b && leb b 57) (all_digits bs) e in
    let digit = and_true (leb 48 b) (leb b 57) head.0 in
    lacks_cons c b bs (grind (arith, nat_tests, digit)) (digits_lack_below c bs h head.1)

pub decimal_lacks_below : (c n : ℕ) → c < 48 → n < 2 ^ 64 → Lacks c (decimal n)
decimal_lacks_below c n h k = digits_lack_below c (decimal n) h (digits_of_decimal n k)

-- a text that is given, as a test
abbrev pub lacks : ℕ → List ℕ → Bool
lacks c [] = true
lacks c (b ∷ bs) = not (eqb b c) && lacks c bs

pub lacks_is : (c : ℕ) (bs : List ℕ) → lacks c bs ≡ true → Lacks c bs
lacks_is c [] e = lacks_nil c
lacks_is c (b ∷ bs) e =
    let two = and_true (not (eqb b c)) (lacks c bs) e in
    All-cons (λ x. eqb x c ≡ false) b bs (not_true (eqb b c) two.0) (lacks_is c bs two.1)

-- a text without the separator isn't cut
pub cut_none : (c : ℕ) (w : List ℕ) → Lacks c w → cut_at c w ≡ None
cut_none c [] h = refl
cut_none c (b ∷ bs) h =
    ap (λ t. cond t (Some ([], bs)) (cut_behind (b ∷ []) (cut_at c bs))) (All-head (λ x. eqb x c ≡ false) b bs h)
    ∙ ap (cut_behind (b ∷ [])) (cut_none c bs (All-tail (λ x. eqb x c ≡ false) b bs h))

pub digits_so : (n : ℕ) → n < 2 ^ 64 → digits (decimal n) ≡ true
digits_so n h = grind (arith, nat_tests, decimal_nonempty n h, digits_of_decimal n h)

-- a number with a sign

some_chosen : (b : Bool) (x n : ℕ) → cond b (Some x) None ≡ Some n → (b ≡ true) × (x ≡ n)
some_chosen true x n e = (refl, cc)
some_chosen false x n e = absurd cc

numeral_of : (limit n : ℕ) (w : List ℕ) → number_below limit w ≡ Some n → is_numeral w ≡ true
numeral_of limit n w e = (and_true (is_numeral w) _ (some_chosen _ _ n e).0).0

pub numeral_so : (n : ℕ) → n < 2 ^ 32 → is_numeral (decimal n) ≡ true
numeral_so n h = numeral_of (2 ^ 32) n (decimal n) (number_again (2 ^ 32) n (lit≤ tt) h)

below_zero : (limit : ℕ) (cs : List ℕ) (o : Option ℕ) (t : Bool) (z : ℤ) → limit ≤ 2 ^ 32 → number_below limit cs ≡ o → signed_or t o ≡ Ok z
    → (45 ∷ cs ≡ signed_word z) × (magnitude z < limit)
below_zero limit cs None true z h e f = absurd cc
below_zero limit cs None false z h e f = absurd cc
below_zero limit cs (Some zero) t z h e f = absurd cc
below_zero limit cs (Some (suc n)) t z h e f =
    let word = number_read limit (suc n) cs h e in
    let is : negsuc n ≡ z = fine_is (negsuc n) z (failed (eqb (suc n) 0) (Ok (negsuc n)) why.Number z f).1 in
    subst (λ (y : ℤ). (45 ∷ cs ≡ signed_word y) × (magnitude y < limit)) is
    (ap (λ w. 45 ∷ w) (word.0 ∙ ap decimal (one_more n)), word.1)
  where
    one_more : (n : ℕ) → suc n ≡ n + 1
    one_more n = omega arith

from_zero : (limit : ℕ) (w : List ℕ) (o : Option ℕ) (t : Bool) (z : ℤ) → limit ≤ 2 ^ 32 → number_below limit w ≡ o → unsigned_or t o ≡ Ok z
    → (w ≡ signed_word z) × (magnitude z < limit)
from_zero limit w None true z h e f = absurd cc
from_zero limit w None false z h e f = absurd cc
from_zero limit w (Some n) t z h e f =
    let word = number_read limit n w h e in
    let is : pos n ≡ z = cc in
    subst (λ (y : ℤ). (w ≡ signed_word y) × (magnitude y < limit)) is word

pub slope_only : (limit : ℕ) (w : List ℕ) (z : ℤ) → limit ≤ 2 ^ 32 → slope_of limit w ≡ Ok z → (w ≡ signed_word z) × (magnitude z < limit)
unfolding slope_of
slope_only limit [] z h e = absurd cc
slope_only limit (c ∷ cs) z h e = by_sign (eqb c 45) refl e
  where
    by_sign : (t : Bool) → eqb c 45 ≡ t
        → cond t (signed_or (is_numeral cs) (number_below limit cs)) (unsigned_or (is_numeral (c ∷ cs)) (number_below limit (c ∷ cs))) ≡ Ok
        z
        → (c ∷ cs ≡ signed_word z) × (magnitude z < limit)
    by_sign true is e =
        subst (λ b. (b ∷ cs ≡ signed_word z) × (magnitude z < limit)) (sym (number_is c 45 is))
        (below_zero limit cs (number_below limit cs) (is_numeral cs) z h refl e)
    by_sign false is e = from_zero limit (c ∷ cs) (number_below limit (c ∷ cs)) (is_numeral (c ∷ cs)) z h refl e

signed_some : (t : Bool) (n : ℕ) → signed_or t (Some (n + 1)) ≡ Ok (negsuc n)
signed_some t n =
    ap (λ m. signed_or t (Some m)) (add-one n) ∙ else_so (eqb (suc n) 0) (Err why.Number) (Ok (negsuc n)) (not_number (suc n) 0 (some_not n))

pub slope_so : (limit : ℕ) (z : ℤ) → limit ≤ 2 ^ 32 → magnitude z < limit → slope_of limit (signed_word z) ≡ Ok z
unfolding slope_of
slope_so limit (negsuc n) h k =
    ap (signed_or (is_numeral (decimal (n + 1)))) (number_again limit (n + 1) h (omega arith)) ∙ signed_some (is_numeral (decimal (n + 1)))
    n
slope_so limit (pos n) h k = by_first (decimal n) (first_digit n (omega arith)) (number_again limit n h k)
  where
    above : (b c : ℕ) → b ≡ c → 48 ≤ c → b ≢ 45
    above b c e h f = omega arith

    by_first : (w : List ℕ) → (c : ℕ) × (cs : List ℕ) × (w ≡ c ∷ cs) × (48 ≤ c) × (c ≤ 57) → number_below limit w ≡ Some n → slope_of limit
        w ≡ Ok (pos n)
    by_first [] d e = absurd cc
    by_first (b ∷ bs) d e =
        let same : b ≡ d.0 = cc in
        else_so (eqb b 45) (signed_or (is_numeral bs) (number_below limit bs))
        (unsigned_or (is_numeral (b ∷ bs)) (number_below limit (b ∷ bs)))
        (not_number b 45 (above b d.0 same d.3))
        ∙ ap (unsigned_or (is_numeral (b ∷ bs))) e

-- numbers within words

pub one_only : (low limit n : ℕ) (w : List ℕ) → limit ≤ 2 ^ 32 → one_number low limit w ≡ Ok n → (w ≡ decimal n) × (low ≤ n) × (n < limit)
unfolding one_number
one_only low limit n w h e =
    let p = passed (digits w) (one_or (is_numeral w) (number_within low limit w)) why.Word n e in
    by_number (number_within low limit w) (is_numeral w) refl p.1
  where
    by_number : (o : Option ℕ) (t : Bool) → number_within low limit w ≡ o → one_or t o ≡ Ok n → (w ≡ decimal n) × (low ≤ n) × (n < limit)
    by_number None true e f = absurd cc
    by_number None false e f = absurd cc
    by_number (Some m) t e f =
        let same : m ≡ n = cc in
        subst (λ k. (w ≡ decimal k) × (low ≤ k) × (k < limit)) same (within_read low limit m w h e)

pub one_so : (low limit n : ℕ) → limit ≤ 2 ^ 32 → low ≤ n → n < limit → one_number low limit (decimal n) ≡ Ok n
unfolding one_number
one_so low limit n h l b = grind (arith, nat_tests, digits_so n (omega arith), within_again low limit n h l b)

both_some : (a b : Option ℕ) (p : ℕ × ℕ) → both a b ≡ Ok p → (a ≡ Some p.0) × (b ≡ Some p.1)
both_some None b p e = absurd cc
both_some (Some a) None p e = absurd cc
both_some (Some a) (Some b) p e =
    let is : ◌≡◌ {A = ℕ × ℕ} (a, b) p = cc in
    (ap (λ (q : ℕ × ℕ). Some q.0) is, ap (λ (q : ℕ × ℕ). Some q.1) is)

pub two_only : (la lb limit : ℕ) (a b : List ℕ) (p : ℕ × ℕ) → limit ≤ 2 ^ 32 → two_numbers la lb limit a b ≡ Ok p
    → ((a ≡ decimal p.0) × (la ≤ p.0) × (p.0 < limit)) × ((b ≡ decimal p.1) × (lb ≤ p.1) × (p.1 < limit))
unfolding two_numbers
two_only la lb limit a b p h e =
    let words = passed (digits a && digits b)
    (cond (is_numeral a && is_numeral b) (both (number_within la limit a) (number_within lb limit b)) (Err why.Number)) why.Word p e in
    let numerals = passed (is_numeral a && is_numeral b) (both (number_within la limit a) (number_within lb limit b)) why.Number p words.1 in
    let some = both_some (number_within la limit a) (number_within lb limit b) p numerals.1 in
    (within_read la limit p.0 a h some.0, within_read lb limit p.1 b h some.1)

pub two_so : (la lb limit a b : ℕ) → limit ≤ 2 ^ 32 → la ≤ a → a < limit → lb ≤ b → b < limit
    → two_numbers la lb limit (decimal a) (decimal b) ≡ Ok (a, b)
unfolding two_numbers
two_so la lb limit a b h ha ka hb kb =
    grind (
      arith,
      nat_tests,
      digits_so a (omega arith),
      digits_so b (omega arith),
      numeral_so a (omega arith),
      numeral_so b (omega arith),
      within_again la limit a h ha ka,
      within_again lb limit b h hb kb,
    )

abbrev pub words_in : List (List ℕ) → Bool → Words
words_in list ended = record { list = list; ended = ended }

pub line_same : (list ws : List (List ℕ)) (ended : Bool) → list ≡ ws → ended ≡ true → words_in list ended ≡ line ws
line_same list ws ended e f = ap (λ (l : List (List ℕ)). words_in l ended) e ∙ ap (words_in ws) f

pub fixed_word : (wanted : List ℕ) → fixed_of wanted wanted ≡ Ok 0
unfolding fixed_of
fixed_word wanted = so (bytes_eq wanted wanted) (Ok 0) (Err why.Word) (same_word wanted)

pub fixed_is : (wanted w : List ℕ) (n : ℕ) → fixed_of wanted w ≡ Ok n → w ≡ wanted
unfolding fixed_of
fixed_is wanted w n e = word_is w wanted (passed (bytes_eq w wanted) (Ok 0) why.Word n e).0

choice_there : (wanted : List (List ℕ)) (w : List ℕ) (place n : ℕ) → choice_from place wanted w ≡ Ok n → (k : ℕ) × (n ≡ place + k)
    × (slice_get wanted k ≡ Some w)
choice_there [] w place n e = absurd (fault_not why.Word n e)
choice_there (x ∷ xs) w place n e = by_word (bytes_eq w x) refl e (λ f. choice_there xs w (place + 1) n f)
  where
    by_word : (t : Bool) → bytes_eq w x ≡ t → cond t (Ok place) (choice_from (place + 1) xs w) ≡ Ok n
        → (choice_from (place + 1) xs w ≡ Ok n → (k : ℕ) × (n ≡ place + 1 + k) × (slice_get xs k ≡ Some w))
        → (k : ℕ) × (n ≡ place + k) × (slice_get (x ∷ xs) k ≡ Some w)
    by_word true t e later =
        let same : place ≡ n = fine_is place n e in
        (0, omega (arith, same), ap (λ (y : List ℕ). Some y) (sym (word_is w x t)))
    by_word false t e later =
        let m = later e in
        (suc m.0, omega (arith, m.1), m.2)

pub choice_is : (wanted : List (List ℕ)) (w : List ℕ) (n : ℕ) → choice_of wanted w ≡ Ok n → slice_get wanted n ≡ Some w
unfolding choice_of
choice_is wanted w n e =
    let k = choice_there wanted w 0 n e in
    ap (slice_get wanted) (omega (arith, k.1)) ∙ k.2

word_at_is : (wanted : List (List ℕ)) (n : ℕ) (w : List ℕ) → slice_get wanted n ≡ Some w → w ≡ word_at wanted n
word_at_is [] n w e = absurd cc
word_at_is (x ∷ xs) zero w e = cc
word_at_is (x ∷ xs) (suc n) w e = word_at_is xs n w e

pub choice_word : (wanted : List (List ℕ)) (w : List ℕ) (n : ℕ) → choice_of wanted w ≡ Ok n → w ≡ word_at wanted n
choice_word wanted w n e = word_at_is wanted n w (choice_is wanted w n e)

-- words of a list, one more in front
pub with_front : (list ws vs : List (List ℕ)) (w v : List ℕ) → list ≡ w ∷ ws → w ≡ v → ws ≡ vs → list ≡ v ∷ vs
with_front list ws vs w v e f g = e ∙ ap (λ x. x ∷ ws) f ∙ ap (λ xs. v ∷ xs) g

-- numbers within limits

pub apart : (n : ℕ) → n < 2 ^ 31 → n ≢ 4294967295
apart n h e = omega arith

pub is_within : (low limit n : ℕ) → limit ≤ 2 ^ 31 → low ≤ n → n < limit → IsWithin (within low limit) n
is_within low limit n l a b = grind arith

pub under_both : (a b n : ℕ) → n < a → n < b → n < least_of a b
under_both a b n h k = grind (arith, nat_tests)

pub both_under : (a b n : ℕ) → n < least_of a b → (n < a) × (n < b)
both_under a b n h = grind (arith, nat_tests)

pub least_small : (a b : ℕ) → a ≤ 2 ^ 31 → least_of a b ≤ 2 ^ 31
least_small a b h = grind (arith, nat_tests)

pub one_of_so : (count n : ℕ) → count ≤ 2 ^ 31 → n < count → IsWithin (one_of count) n
one_of_so count n h b = grind arith

pub rising_so : (least limit n : ℕ) → limit ≤ 2 ^ 31 → least ≤ n → n < limit → IsWithin (rising least (within 0 limit)) n
rising_so least limit n h l b = grind arith

pub other_so : (kinds before n : ℕ) → n < kinds → n ≢ before → IsWithin (record (one_of kinds) { other = before }) n
other_so kinds before n b o = record { low = omega arith; below = b; outside = inr (omega arith); least = omega arith; other = o }

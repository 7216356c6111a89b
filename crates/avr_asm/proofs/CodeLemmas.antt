-- The words that read as an instruction are those that its pattern writes.
use Rattle.std.proofs.Common.{◌≡◌, ℕ, zero, suc, ◌+◌, ◌-◌, ◌*◌, ◌/◌, ◌%◌, ◌^◌, ◌<◌, Bool, true, false, ◌&&◌, ◌||◌, not, cond, List, [], ◌∷◌}
use Rattle.std.proofs.Common.{◌++◌, length, nat_eq, nat_le, replicate, refl, sym, ◌∙◌, ap, arith, Option, Some, None, count_by}
use Rattle.std.specs.Int.{bit_at}
use Rattle.std.specs.List.{AllByRecursion}
use Rattle.std.proofs.lemmas.Bool.Decides.{nat_tests}
use Rattle.std.proofs.lemmas.Nat.{mod-pow-add, pow_pos}
use Rattle.std.proofs.lemmas.Nat.Bits.{bit_at-lt}
use Rattle.std.proofs.lemmas.List.{length-append, length-replicate}
use Rattle.std.proofs.lemmas.List.Recursion.{is_count_by}
use Rattle.std.proofs.Math.Nat.{mod-eq_of_lt, mod-lt}
use Prim.Native.Char.{Char, code}
use Rattle.avr_table.specs.declared.Instr.{Instr}
use Rattle.avr_table.specs.Pattern.{digit, meets, stands, spelled}
use Rattle.avr_table.specs.Rows.{row, words_of, ReadsAt, Spells}
use Rattle.avr_asm.specs.Codes.{field_of, place_bit, count_of, written, number_of, first_word, second_word}
use Rattle.avr_asm.proofs.RowTests.{wanted, covered, row_tests}

pub both : (a b : Bool) → (a && b) ≡ true → (a ≡ true) × (b ≡ true)
both true b e = (refl, e)
both false b e = absurd cc

pub same : (a b : ℕ) → nat_eq a b ≡ true → a ≡ b
same a b e = grind (arith, nat_tests)

pow-suc : (k : ℕ) → 2 ^ suc k ≡ 2 ^ k + 2 ^ k
pow-suc k = omega arith

pow-more : (k : ℕ) → 2 ^ (1 + k) ≡ 2 ^ k + 2 ^ k
pow-more k = let one : 1 + k ≡ suc k = omega arith in ap (λ m. 2 ^ m) one ∙ pow-suc k

top : (b d y v P : ℕ) → b < 2 → d < 2 → y < P → v < P → b * P + y ≡ d * P + v → (b ≡ d) × (y ≡ v)
top zero zero y v P hb hd hy hv e = (refl, omega arith)
top zero (suc d) y v P hb hd hy hv e = let z : d ≡ 0 = omega arith in let p : suc d * P ≡ P = rw z (omega arith) in
    absurd (omega (arith, p))
top (suc b) zero y v P hb hd hy hv e = let z : b ≡ 0 = omega arith in let p : suc b * P ≡ P = rw z (omega arith) in
    absurd (omega (arith, p))
top (suc b) (suc d) y v P hb hd hy hv e = let z : b ≡ d = omega arith in let p : suc b * P ≡ suc d * P = ap (λ x. suc x * P) z in
    (ap suc z, omega (arith, p))

-- the number of a letter, with places counted by recursion
unfoldable pub spelt : ℕ → List ℕ → ℕ → ℕ
spelt c [] n = 0
spelt c (d ∷ ds) n = cond (nat_eq d c) (bit_at n (length ds) * 2 ^ count_of c ds + spelt c ds n) (spelt c ds n)

step-lt : (t : Bool) (b x k : ℕ) → b < 2 → x < 2 ^ k → cond t (b * 2 ^ k + x) x < 2 ^ cond t (1 + k) k
step-lt true zero x k hb hx = omega (arith, pow-more k)
step-lt true (suc b) x k hb hx = let z : b ≡ 0 = omega arith in let p : suc b * 2 ^ k ≡ 2 ^ k = rw z (omega arith) in
    omega (arith, p, pow-more k)
step-lt false b x k hb hx = hx

spelt-lt : (c : ℕ) (p : List ℕ) (n : ℕ) → spelt c p n < 2 ^ count_of c p
unfolding spelt
spelt-lt c [] n = omega arith
spelt-lt c (d ∷ ds) n = step-lt _ _ _ _ (bit_at-lt n (length ds)) (spelt-lt c ds n)

-- a number's lowest 1 + k bits are those of b and x
pub parts_of : (v b k x : ℕ) → b < 2 → x < 2 ^ k → v % 2 ^ (1 + k) ≡ b * 2 ^ k + x → (bit_at v k ≡ b) × (v % 2 ^ k ≡ x)
parts_of v b k x hb hx e =
    let low : v % 2 ^ k < 2 ^ k = mod-lt v (pow_pos k) in
    let cut : v % 2 ^ (1 + k) ≡ v / 2 ^ k % 2 * 2 ^ k + v % 2 ^ k = mod-pow-add v 1 k in
    top (bit_at v k) b (v % 2 ^ k) x (2 ^ k) (bit_at-lt v k) hb low hx (sym cut ∙ e)

tail_of : (t : Bool) (v b k x : ℕ) → b < 2 → x < 2 ^ k → v % 2 ^ cond t (1 + k) k ≡ cond t (b * 2 ^ k + x) x → v % 2 ^ k ≡ x
tail_of true v b k x hb hx e = (parts_of v b k x hb hx e).1
tail_of false v b k x hb hx e = e

head_of : (t : Bool) (v b k x : ℕ) → t ≡ true → b < 2 → x < 2 ^ k → v % 2 ^ cond t (1 + k) k ≡ cond t (b * 2 ^ k + x) x → b ≡ bit_at v k
head_of true v b k x h hb hx e = sym (parts_of v b k x hb hx e).0
head_of false v b k x h hb hx e = absurd cc

itself : (c : ℕ) → nat_eq c c ≡ true
itself c = grind (arith, nat_tests)

bit_is : (d : Option Bool) (b v k : ℕ) → meets d b ≡ true → (d ≡ None → b ≡ bit_at v k) → b ≡ place_bit d v k
bit_is None b v k m h = h refl
bit_is (Some false) b v k m h = same b 0 m
bit_is (Some true) b v k m h = same b 1 m

-- a number whose fixed bits stand and whose letters have the fields' numbers is what the pattern writes
agree : (L : List (Char × ℕ)) (p : List ℕ) (n : ℕ) → stands p n ≡ true → ((c : ℕ) → digit c ≡ None → field_of L c % 2 ^ count_of c p ≡ spelt
    c p n) → n % 2 ^ length p ≡ written L p
unfolding stands written spelt
agree L [] n s H = omega arith
agree L (d ∷ ds) n s H =
    let st = both _ _ s in
    let tail : n % 2 ^ length ds ≡ written L ds = agree L ds n st.1 (λ c none. tail_of _ _ _
    _ _ (bit_at-lt n (length ds)) (spelt-lt c ds n) (H c none)) in
    let bit : bit_at n (length ds) ≡ place_bit (digit d) (field_of L d) (count_of d ds) =
    bit_is _ _ _ _ st.0 (λ none. head_of _ _ _ _ _ (itself _) (bit_at-lt n (length ds)) (spelt-lt d ds n) (H d none)) in
    let one : suc (length ds) ≡ 1 + length ds = omega arith in
    ap (λ k. n % 2 ^ k) one ∙ mod-pow-add n 1 (length ds) ∙ ap (λ b. b * 2 ^ length ds + n % 2 ^ length ds) bit
    ∙ ap (λ x. place_bit (digit d) (field_of L d) (count_of d ds) * 2 ^ length ds + x) tail

eq_turned : (a b : ℕ) → nat_eq a b ≡ nat_eq b a
eq_turned a b = grind (arith, nat_tests, nat_eq a b, nat_eq b a, same a b, nat_eq, nat_eq b)

count_is : (c : ℕ) (ds : List ℕ) → count_of c ds ≡ count_by (nat_eq c) ds
count_is c ds = is_count_by (count_of c) (nat_eq c) refl (λ x xs. ap (λ t. cond t (1 + count_of c xs) (count_of c xs)) (eq_turned x c)) ds

pub spelled_is : (c : ℕ) (p : List ℕ) (n : ℕ) → spelled c p n ≡ spelt c p n
unfolding spelled spelt
spelled_is c [] n = refl
spelled_is c (d ∷ ds) n = cc (spelled_is c ds n, count_is c ds)

-- the letters of a row
in_list : (P : List ℕ) (n c : ℕ) (L : List (Char × ℕ)) → AllByRecursion (λ x. x.1 ≡ spelled (code x.0) P n) L → wanted L c ≡ true
    → field_of L c ≡ spelled c P n
in_list P n c [] s w = absurd cc
in_list P n c (x ∷ xs) s w = grind (arith, nat_tests, nat_eq c (code x.0), in_list P n c xs s.1, wanted xs c, same c (code x.0))

not_in_list : (c : ℕ) (L : List (Char × ℕ)) → wanted L c ≡ false → field_of L c ≡ 0
not_in_list c [] w = refl
not_in_list c (x ∷ xs) w = grind (arith, nat_tests, nat_eq c (code x.0), wanted xs c, not_in_list c xs)

-- a character that stands nowhere in the front of a pattern
absent : (c n : ℕ) (L : List (Char × ℕ)) (p q : List ℕ) → covered L p ≡ true → digit c ≡ None → wanted L c ≡ false → spelt c (p ++ q)
    n ≡ spelt c q n
unfolding spelt
absent c n L [] q e none w = refl
absent c n L (d ∷ ds) q e none w =
    grind (arith, nat_tests, both, wanted L d, covered L ds, nat_eq d c, absent c n L ds q, same d c, wanted L c, wanted L)

-- places below which all bits are 0
zero_low : (c n : ℕ) (ds : List ℕ) → n % 2 ^ length ds ≡ 0 → spelt c ds n ≡ 0
unfolding spelt
zero_low c n [] e = refl
zero_low c n (d ∷ ds) e =
    let one : suc (length ds) ≡ 1 + length ds = omega arith in
    let zero_part : n % 2 ^ (1 + length ds) ≡ 0 * 2 ^ length ds + 0 = ap (λ k. n % 2 ^ k) (sym one) ∙ e ∙ omega arith in
    let both_zero = parts_of n 0 (length ds) 0 (omega arith) (pow_pos (length ds)) zero_part in
    let rest : spelt c ds n ≡ 0 = zero_low c n ds both_zero.1 in
    let none : bit_at n (length ds) * 2 ^ count_of c ds ≡ 0 = ap (λ b. b * 2 ^ count_of c ds) both_zero.0 ∙ omega arith in
    chosen (nat_eq d c) (bit_at n (length ds) * 2 ^ count_of c ds) (spelt c ds n) none rest
  where
    chosen : (t : Bool) (x y : ℕ) → x ≡ 0 → y ≡ 0 → cond t (x + y) y ≡ 0
    chosen true x y e f = omega arith
    chosen false x y e f = f

unfoldable pub dashes : ℕ → List ℕ
dashes k = replicate k 45

pub dashes-length : (k : ℕ) → length (dashes k) ≡ k
unfolding dashes
dashes-length k = length-replicate k 45

-- the letters of a row have the fields' numbers, and any other character has 0
letters_say : (L : List (Char × ℕ)) (p : List ℕ) (k n c : ℕ) → covered L p ≡ true → Spells (p ++ dashes k) n L → n % 2 ^ k ≡ 0
    → digit c ≡ None
    → field_of L c % 2 ^ count_of c (p ++ dashes k) ≡ spelt c (p ++ dashes k) n
letters_say L p k n c known says low_zero none = by_case (wanted L c) refl
  where
    by_case : (t : Bool) → wanted L c ≡ t → field_of L c % 2 ^ count_of c (p ++ dashes k) ≡ spelt c (p ++ dashes k) n
    by_case true e =
        let is : field_of L c ≡ spelt c (p ++ dashes k) n = in_list (p ++ dashes k) n c L says e ∙ spelled_is c (p ++ dashes k) n in
        ap (λ x. x % 2 ^ count_of c (p ++ dashes k)) is ∙ mod-eq_of_lt (spelt-lt c (p ++ dashes k) n)
    by_case false e = grind (arith, nat_tests, dashes-length, absent, zero_low, not_in_list, mod-eq_of_lt, pow_pos)

whole : (L : List (Char × ℕ)) (p : List ℕ) (k n : ℕ) → covered L p ≡ true → stands (p ++ dashes k) n ≡ true → Spells (p ++ dashes k) n L
    → n % 2 ^ k ≡ 0 → length p + k ≡ 32 → n < 2 ^ 32 → n ≡ written L (p ++ dashes k)
whole L p k n known st says low_zero long small =
    grind (arith, nat_tests, length-append p, dashes-length k, mod-eq_of_lt small, agree L, letters_say L p k n)

abbrev two_if_long : ℕ → ℕ
two_if_long len = cond (nat_le len 16) 1 2

short_or_long : (len a b : ℕ) → (nat_eq len 16 || nat_eq len 32) ≡ true → (two_if_long len ≡ 1 → b ≡ 0)
    → ((a * 65536 + b) % 2 ^ (32 - len) ≡ 0) × (len + (32 - len) ≡ 32)
short_or_long len a b e z = grind (arith, nat_tests, nat_eq len 16, same len 16, nat_eq len 32, same len 32)

pub code_is : (i : Instr) (a b : ℕ) → a < 65536 → b < 65536 → ReadsAt (a * 65536 + b) i → (words_of i ≡ 1 → b ≡ 0)
    → a * 65536 + b ≡ number_of i
unfolding number_of dashes
code_is i a b ha hb reads one =
    let tests = both _ _ (row_tests i) in
    let known = both _ (not (wanted (row i).letters 45)) tests.1 in
    let sizes = short_or_long _ _ _ tests.0 one in
    whole (row i).letters _ _ _ known.0 reads.fixed reads.letters sizes.0 sizes.1 (omega arith)

pub first_is : (i : Instr) (a b : ℕ) → a < 65536 → b < 65536 → ReadsAt (a * 65536 + b) i → (words_of i ≡ 1 → b ≡ 0) → a ≡ first_word i
first_is i a b ha hb reads one = let e = code_is i a b ha hb reads one in let d : a ≡ (a * 65536 + b) / 65536 = omega arith in
    d ∙ ap (λ n. n / 65536) e

pub second_is : (i : Instr) (a b : ℕ) → a < 65536 → b < 65536 → ReadsAt (a * 65536 + b) i → (words_of i ≡ 1 → b ≡ 0) → b ≡ second_word i
second_is i a b ha hb reads one = let e = code_is i a b ha hb reads one in let d : b ≡ (a * 65536 + b) % 65536 = omega arith in
    d ∙ ap (λ n. n % 65536) e

-- The words that a row's pattern writes are read as its instruction, whatever word follows an instruction of one.
use Rattle.std.proofs.Common.{◌≡◌, ℕ, zero, suc, ◌+◌, ◌-◌, ◌*◌, ◌/◌, ◌%◌, ◌^◌, ◌<◌, Bool, true, false, ◌||◌, cond, List, [], ◌∷◌, ◌++◌}
use Rattle.std.proofs.Common.{length, nat_eq, nat_le, replicate, refl, sym, ◌∙◌, ap, arith, Option, Some, None}
use Rattle.std.specs.Int.{bit_at}
use Rattle.std.proofs.lemmas.Nat.{mod-pow-add, pow-add}
use Rattle.std.proofs.lemmas.Nat.Bits.{bit_at-lt}
use Rattle.std.proofs.lemmas.List.{length-append}
use Rattle.std.proofs.Math.Nat.{mod-eq_of_lt, div-div-eq-div-mul}
use Prim.Native.Char.{Char, code}
use Rattle.avr_table.specs.declared.Instr.{Instr}
use Rattle.avr_table.specs.Pattern.{places, digit, meets, stands}
use Rattle.avr_table.specs.Rows.{row, pattern_of, words_of, ReadsAt, Spells}
use Rattle.avr_asm.specs.Codes.{field_of, place_bit, count_of, written, number_of, first_word, second_word}
use Rattle.avr_asm.proofs.CodeLemmas.{both, spelt, spelled_is, parts_of, same, dashes, dashes-length}
use Rattle.avr_asm.proofs.RowTests.{wanted, covered, row_tests}
use Rattle.avr_asm.proofs.RowFields.{EachSpelled, each_spelled}
use Rattle.std.proofs.lemmas.Bool.Decides.{nat_tests}

bit-lt : (d : Option Bool) (v k : ℕ) → place_bit d v k < 2
bit-lt None v k = bit_at-lt v k
bit-lt (Some false) v k = omega arith
bit-lt (Some true) v k = omega arith

written-lt : (L : List (Char × ℕ)) (p : List ℕ) → written L p < 2 ^ length p
unfolding written
written-lt L [] = omega arith
written-lt L (c ∷ cs) = more (place_bit (digit c) (field_of L c) (count_of c cs)) (written L cs) (length cs)
    (bit-lt (digit c) (field_of L c) (count_of c cs)) (written-lt L cs)
  where
    more : (b x k : ℕ) → b < 2 → x < 2 ^ k → b * 2 ^ k + x < 2 ^ suc k
    more zero x k hb hx = omega arith
    more (suc b) x k hb hx = let z : b ≡ 0 = omega arith in let p : suc b * 2 ^ k ≡ 2 ^ k = rw z (omega arith) in omega (arith, p)

bit_met : (d : Option Bool) (v k b : ℕ) → b ≡ place_bit d v k → meets d b ≡ true
bit_met None v k b e = refl
bit_met (Some false) v k b e = ap (λ x. nat_eq x 0) e
bit_met (Some true) v k b e = ap (λ x. nat_eq x 1) e

-- the bits of a number that a pattern writes
cut : (L : List (Char × ℕ)) (c : ℕ) (cs : List ℕ) (n : ℕ) → n % 2 ^ suc (length cs) ≡ written L (c ∷ cs)
    → (bit_at n (length cs) ≡ place_bit (digit c) (field_of L c) (count_of c cs)) × (n % 2 ^ length cs ≡ written L cs)
unfolding written
cut L c cs n e =
    let one : 1 + length cs ≡ suc (length cs) = omega arith in
    parts_of _ _ _ _ (bit-lt _ _ _) (written-lt L _) (ap (λ k. n % 2 ^ k) one ∙ e)

-- its fixed bits stand
written_stands : (L : List (Char × ℕ)) (p : List ℕ) (n : ℕ) → n % 2 ^ length p ≡ written L p → stands p n ≡ true
unfolding stands
written_stands L [] n e = refl
written_stands L (c ∷ cs) n e =
    grind (arith, nat_tests, cut L c cs n e, bit_met (digit c) (field_of L c) (count_of c cs) (bit_at n (length cs)), written_stands L cs n)

-- and its letters spell their numbers
written_spells : (L : List (Char × ℕ)) (c : ℕ) (p : List ℕ) (n : ℕ) → digit c ≡ None → n % 2 ^ length p ≡ written L p
    → spelt c p n ≡ field_of L c % 2 ^ count_of c p
unfolding spelt
written_spells L c [] n none e = omega arith
written_spells L c (d ∷ ds) n none e =
    let parts = cut L _ _ _ e in
    by_case (nat_eq d c) refl parts.0 (written_spells L c ds n none parts.1)
  where
    by_case : (t : Bool) → nat_eq d c ≡ t → bit_at n (length ds) ≡ place_bit (digit d) (field_of L d) (count_of d ds)
        → spelt c ds n ≡ field_of L c % 2 ^ count_of c ds
        → cond t (bit_at n (length ds) * 2 ^ count_of c ds + spelt c ds n) (spelt c ds n) ≡ field_of L c % 2 ^ cond t (1 + count_of c ds)
        (count_of c ds)
    by_case false is bit rest = rest
    by_case true is bit rest =
        let here : d ≡ c = same _ _ is in
        let same_bit : bit_at n (length ds) ≡ bit_at (field_of L c) (count_of c ds) =
        bit ∙ ap (λ x. place_bit (digit x) (field_of L x) (count_of x ds)) here ∙ ap (λ o. place_bit o (field_of L c) (count_of c ds))
        none in
        ap (λ b. b * 2 ^ count_of c ds + spelt c ds n) same_bit
        ∙ ap (λ x. bit_at (field_of L c) (count_of c ds) * 2 ^ count_of c ds + x) rest ∙ sym (mod-pow-add (field_of L c) 1 (count_of c ds))

written_letters : (L letters : List (Char × ℕ)) (p : List ℕ) (n : ℕ) → EachSpelled L p letters → n % 2 ^ length p ≡ written L p
    → Spells p n letters
written_letters L [] p n each e = tt
written_letters L (x ∷ xs) p n each e =
    (sym (spelled_is (code x.0) p n ∙ written_spells L (code x.0) p n each.0.0 e ∙ each.0.1), written_letters L xs p n each.1 e)

pub reads_written : (i : Instr) → ReadsAt (number_of i) i
unfolding number_of
reads_written i =
    let small : number_of i % 2 ^ length (pattern_of i) ≡ number_of i = mod-eq_of_lt (written-lt (row i).letters _) in
    record {
      fixed = written_stands (row i).letters _ _ small;
      letters = written_letters (row i).letters (row i).letters _ _ (each_spelled _) small;
    }

-- places that a pattern's end doesn't look at
high_bit : (n k j : ℕ) → bit_at n (j + k) ≡ bit_at (n / 2 ^ k) j
high_bit n k j = let turned : j + k ≡ k + j = omega arith in cc (pow-add 2 k j, div-div-eq-div-mul n (2 ^ k) (2 ^ j))

same_bit : (ps : List ℕ) (k n m : ℕ) → n / 2 ^ k ≡ m / 2 ^ k → bit_at n (length (ps ++ dashes k)) ≡ bit_at m (length (ps ++ dashes k))
same_bit ps k n m e = grind (arith, nat_tests, dashes k, length-append ps, dashes-length k, high_bit n k, high_bit m k)

any_stands : (k n : ℕ) → stands (replicate k 45) n ≡ true
unfolding stands
any_stands zero n = refl
any_stands (suc k) n = any_stands k n

none_spelt : (c k n : ℕ) → nat_eq 45 c ≡ false → spelt c (replicate k 45) n ≡ 0
unfolding spelt
none_spelt c zero n lacks = refl
none_spelt c (suc k) n lacks = cc (none_spelt c k n lacks)

same_stands : (ps : List ℕ) (k n m : ℕ) → n / 2 ^ k ≡ m / 2 ^ k → stands (ps ++ dashes k) n ≡ stands (ps ++ dashes k) m
unfolding stands dashes
same_stands [] k n m e = any_stands k n ∙ sym (any_stands k m)
same_stands (c ∷ cs) k n m e = cc (same_bit cs k n m e, same_stands cs k n m e)

same_spelt : (c : ℕ) (ps : List ℕ) (k n m : ℕ) → nat_eq 45 c ≡ false → n / 2 ^ k ≡ m / 2 ^ k → spelt c (ps ++ dashes k) n ≡ spelt c
    (ps ++ dashes k) m
unfolding spelt dashes
same_spelt c [] k n m lacks e = none_spelt c k n lacks ∙ sym (none_spelt c k m lacks)
same_spelt c (d ∷ ds) k n m lacks e = cc (same_bit ds k n m e, same_spelt c ds k n m lacks e)

same_letters : (letters : List (Char × ℕ)) (ps : List ℕ) (k n m : ℕ) → wanted letters 45 ≡ false → n / 2 ^ k ≡ m / 2 ^ k
    → Spells (ps ++ dashes k) n letters → Spells (ps ++ dashes k) m letters
same_letters [] ps k n m lacks e each = tt
same_letters (x ∷ xs) ps k n m lacks e each =
    let parts = neither (nat_eq 45 (code x.0)) (wanted xs 45) lacks in (
      each.0 ∙ spelled_is _ _ _ ∙ same_spelt _ _ _ _ _ parts.0 e ∙ sym (spelled_is _ _ _),
      same_letters xs ps k n m parts.1 e each.1,
    )
  where
    neither : (a b : Bool) → (a || b) ≡ false → (a ≡ false) × (b ≡ false)
    neither true b e = absurd cc
    neither false b e = (refl, e)

-- an instruction of one word is read whatever word follows
short_row : (len : ℕ) → (nat_eq len 16 || nat_eq len 32) ≡ true → ◌≡◌ {A = ℕ} (cond (nat_le len 16) 1 2) 1 → len ≡ 16
short_row len e w = grind (arith, nat_tests, nat_eq len 16, nat_eq len 32, same len 16, same len 32, nat_le)

pub reads_before : (i : Instr) (first second other : ℕ) → words_of i ≡ 1 → second < 65536 → other < 65536 → ReadsAt (first * 65536 + second)
    i → ReadsAt (first * 65536 + other) i
unfolding dashes
reads_before i first second other one hs ho reads =
    grind (arith, nat_tests, both, nat_eq, covered, wanted, row_tests i, short_row, same_stands, same_letters)

-- the words of an instruction, and any word after one of one word, are read as it
pub reads_words : (i : Instr) (first second : ℕ) → first ≡ first_word i → (words_of i ≡ 2 → second ≡ second_word i) → second < 65536
    → ReadsAt (first * 65536 + second) i
reads_words i first second is_first is_second small =
    grind (
      arith,
      nat_tests,
      nat_le (length (places (row i).pattern)) 16,
      reads_written i,
      reads_before i (first_word i) (second_word i) second,
    )

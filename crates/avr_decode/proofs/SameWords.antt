-- Two pairs of words that read as one instruction agree in all places of its pattern.
use Rattle.std.proofs.Common.{◌≡◌, ℕ, suc, ◌+◌, ◌*◌, ◌/◌, ◌%◌, ◌^◌, ◌<◌, ◌≤◌, Bool, true, false, ◌&&◌, ◌||◌, if◌then◌else◌, List, [], ◌∷◌}
use Rattle.std.proofs.Common.{Option, None, Some, length, nat_eq, nat_lt, not, cond, count_by, refl, sym, ap, subst, ◌∙◌, arith}
use Rattle.std.proofs.lemmas.List.Sums.{sum_by-cons}
use Rattle.std.proofs.lemmas.Nat.{pow-add}
use Rattle.std.proofs.Math.Nat.{div-div-eq-div-mul}
use Prim.Native.Char.{Char, code}
use Rattle.std.proofs.lemmas.Bool.Decides.{nat_tests}
use Rattle.std.proofs.lemmas.Nat.Bits.{bit_at-lt, same_from_bits_below}
use Rattle.std.specs.Int.{bit_at}
use Rattle.avr_table.specs.Pattern.{digit, meets, stands, spelled}
use Rattle.avr_table.specs.Rows.{row, pattern_of, words_of, Spells, ReadsAt}
use Rattle.avr_table.specs.declared.Instr.{Instr}
use Rattle.avr_table.specs.declared.Instr.TheVariants.{Nop, Lds, Sts, Jmp, Call}
use Rattle.avr_table.proofs.PatternLemmas.{top_part}
use Rattle.avr_decode.proofs.GatheredLemmas.{one_more}

and_true : (a b : Bool) → (a && b) ≡ true → (a ≡ true) × (b ≡ true)
and_true true b h = (refl, h)
and_true false b h = absurd (cc)

same_number : (a b : ℕ) → nat_eq a b ≡ true → a ≡ b
same_number a b h = grind (arith, nat_tests)

-- the letters of a row
abbrev wanted : List (Char × ℕ) → ℕ → Bool
wanted [] c = false
wanted (x ∷ xs) c = nat_eq c (code x.0) || wanted xs c

by_letter : (p : List ℕ) (a b c d : ℕ) (t : Bool) → nat_eq c d ≡ t → spelled d p a ≡ spelled d p b
    → (t ≡ false → spelled c p a ≡ spelled c p b) → spelled c p a ≡ spelled c p b
by_letter p a b c d true e h rest = let w : c ≡ d = same_number c d e in subst (λ x. spelled x p a ≡ spelled x p b) (sym w) h
by_letter p a b c d false e h rest = rest refl

spells_alike : (p : List ℕ) (a b : ℕ) (xs : List (Char × ℕ)) → Spells p a xs → Spells p b xs → (c : ℕ) → wanted xs c ≡ true
    → spelled c p a ≡ spelled c p b
spells_alike p a b [] f g c h = absurd (cc)
spells_alike p a b (x ∷ xs) f g c h =
    by_letter p a b c (code x.0) (nat_eq c (code x.0)) refl (sym f.0 ∙ g.0)
    (λ e. spells_alike p a b xs f.1 g.1 c (sym (ap (λ t. t || wanted xs c) e) ∙ h))

-- what a letter spells fits its places
same_test : (c x : ℕ) → nat_eq c x ≡ nat_eq x c
same_test c x = grind (arith, nat_tests)

count_one : (c x : ℕ) (xs : List ℕ) (t : Bool) → nat_eq x c ≡ t → count_by (nat_eq c) (x ∷ xs) ≡ cond t 1 0 + count_by (nat_eq c) xs
count_one c x xs t e = sum_by-cons (λ y. cond (nat_eq c y) 1 0) x xs ∙ ap (λ u. cond u 1 0 + count_by (nat_eq c) xs) (same_test c x ∙ e)

abbrev step : Bool → ℕ → ℕ → ℕ → ℕ
step t bit count rest = if t then bit * 2 ^ count + rest else rest

fits_step : (t : Bool) (bit count rest : ℕ) → bit < 2 → rest < 2 ^ count → step t bit count rest < 2 ^ (cond t 1 0 + count)
fits_step true bit count rest hb hr = let e : 1 + count ≡ count + 1 = omega arith in subst (λ k. bit * 2 ^ count + rest < 2 ^ k) (sym e)
    (one_more bit rest count hb hr)
fits_step false bit count rest hb hr = let e : 0 + count ≡ count = omega arith in subst (λ k. rest < 2 ^ k) (sym e) hr

spelled-lt : (c : ℕ) (p : List ℕ) (n : ℕ) → spelled c p n < 2 ^ count_by (nat_eq c) p
unfolding spelled
spelled-lt c [] n = omega arith
spelled-lt c (x ∷ xs) n =
    subst (λ k. step (nat_eq x c) (bit_at n (length xs)) (count_by (nat_eq c) xs) (spelled c xs n) < 2 ^ k)
    (sym (count_one c x xs (nat_eq x c) refl))
    (fits_step (nat_eq x c) (bit_at n (length xs)) (count_by (nat_eq c) xs) (spelled c xs n) (bit_at-lt n (length xs)) (spelled-lt c xs n))

-- so from one number its bits
same_step : (t : Bool) (u v count r s : ℕ) → u < 2 → v < 2 → r < 2 ^ count → s < 2 ^ count → step t u count r ≡ step t v count s
    → (t ≡ true → u ≡ v) × (r ≡ s)
same_step true u v count r s hu hv hr hs e = let h : (u ≡ v) × (r ≡ s) = top_part u v r s (2 ^ count) hu hv hr hs e in ((λ w. h.0), h.1)
same_step false u v count r s hu hv hr hs e = ((λ w. absurd (cc)), e)

tail_same : (c x : ℕ) (xs : List ℕ) (a b : ℕ) → spelled c (x ∷ xs) a ≡ spelled c (x ∷ xs) b
    → (nat_eq x c ≡ true → bit_at a (length xs) ≡ bit_at b (length xs)) × (spelled c xs a ≡ spelled c xs b)
unfolding spelled
tail_same c x xs a b h = same_step (nat_eq x c) (bit_at a (length xs)) (bit_at b (length xs)) (count_by (nat_eq c) xs) (spelled c xs a)
    (spelled c xs b) (bit_at-lt a (length xs)) (bit_at-lt b (length xs)) (spelled-lt c xs a) (spelled-lt c xs b) h

-- the same bits in all places that aren't dashes
abbrev AllSame : List ℕ → ℕ → ℕ → Type 0
AllSame [] a b = Unit {0}
AllSame (x ∷ xs) a b = (nat_eq x 45 ≡ false → bit_at a (length xs) ≡ bit_at b (length xs)) × AllSame xs a b

abbrev is_fixed : Option Bool → Bool
is_fixed None = false
is_fixed (Some d) = true

-- each place has a digit, a dash or a letter of the row
abbrev covers : (ℕ → Bool) → List ℕ → Bool
covers w [] = true
covers w (x ∷ xs) = (is_fixed (digit x) || nat_eq x 45 || w x) && covers w xs

head_same : (d : Option Bool) (dash letter : Bool) (u v : ℕ) → (is_fixed d || dash || letter) ≡ true → meets d u ≡ true → meets d v ≡ true
    → (letter ≡ true → u ≡ v) → dash ≡ false → u ≡ v
head_same (Some true) dash letter u v c mu mv l n = same_number u 1 mu ∙ sym (same_number v 1 mv)
head_same (Some false) dash letter u v c mu mv l n = same_number u 0 mu ∙ sym (same_number v 0 mv)
head_same None true letter u v c mu mv l n = absurd (cc)
head_same None false letter u v c mu mv l n = l c

self : (x : ℕ) → nat_eq x x ≡ true
self x = grind (arith, nat_tests)

all_same : (p : List ℕ) (w : ℕ → Bool) (a b : ℕ) → covers w p ≡ true → stands p a ≡ true → stands p b ≡ true
    → ((c : ℕ) → w c ≡ true → spelled c p a ≡ spelled c p b) → AllSame p a b
unfolding stands
all_same [] w a b c sa sb alike = tt
all_same (x ∷ xs) w a b c sa sb alike =
    let k : ((is_fixed (digit x) || nat_eq x 45 || w x) ≡ true) × (covers w xs ≡ true) = and_true _ _ c in
    let ma : (meets (digit x) (bit_at a (length xs)) ≡ true) × (stands xs a ≡ true) = and_true _ _ sa in
    let mb : (meets (digit x) (bit_at b (length xs)) ≡ true) × (stands xs b ≡ true) = and_true _ _ sb in (
      head_same (digit x) (nat_eq x 45) (w x) (bit_at a (length xs)) (bit_at b (length xs)) k.0 ma.0 mb.0
          (λ h. (tail_same x x xs a b (alike x h)).0 (self x)),
      all_same xs w a b k.1 ma.1 mb.1 (λ d h. (tail_same d x xs a b (alike d h)).1),
    )

-- no dash stands at or above a place
abbrev undashed : ℕ → List ℕ → Bool
undashed k [] = true
undashed k (x ∷ xs) = nat_lt (length xs) k || (not (nat_eq x 45) && undashed k xs)

undashed_parts : (t d r : Bool) → (t || (not d && r)) ≡ true → t ≡ false → (d ≡ false) × (r ≡ true)
undashed_parts true d r h f = absurd (cc)
undashed_parts false true r h f = absurd (cc)
undashed_parts false false r h f = (refl, h)

above_test : (l k j : ℕ) → k ≤ j → j < suc l → nat_lt l k ≡ false
above_test l k j h g = grind (arith, nat_tests)

at_place : (p : List ℕ) (a b : ℕ) → AllSame p a b → (k : ℕ) → undashed k p ≡ true → (j : ℕ) → k ≤ j → j < length p → bit_at a j ≡ bit_at b j
at_place [] a b s k u j h g = absurd (omega arith)
at_place (x ∷ xs) a b s k u j h g =
    let t : (nat_eq x 45 ≡ false) × (undashed k xs ≡ true) = undashed_parts (nat_lt (length xs) k) (nat_eq x 45) (undashed k xs) u
    (above_test (length xs) k j h g) in
    by_place (nat_eq j (length xs)) refl (s.0 t.0) (λ l. at_place xs a b s.1 k t.1 j h l)
  where
    by_place : (t : Bool) → nat_eq j (length xs) ≡ t → bit_at a (length xs) ≡ bit_at b (length xs)
        → (j < length xs → bit_at a j ≡ bit_at b j) → bit_at a j ≡ bit_at b j
    by_place true e top rest = let w : j ≡ length xs = same_number j (length xs) e in subst (λ m. bit_at a m ≡ bit_at b m) (sym w) top
    by_place false e top rest = rest (grind (arith, nat_tests))

-- the rows of the table
covered : (i : Instr) → covers (wanted (row i).letters) (pattern_of i) ≡ true
covered Nop = refl
covered i = refl

undashed_first : (i : Instr) → undashed 16 (pattern_of i) ≡ true
undashed_first Nop = refl
undashed_first i = refl

one_word : (n : ℕ) → n ≡ 1 → n ≡ 2 → ⊥
one_word n e h = omega (arith, e, h)

undashed_both : (i : Instr) → words_of i ≡ 2 → undashed 0 (pattern_of i) ≡ true
undashed_both (Lds d k) h = refl
undashed_both (Sts k r) h = refl
undashed_both (Jmp k) h = refl
undashed_both (Call k) h = refl
undashed_both i h = absurd (one_word (words_of i) refl h)

places_32 : (i : Instr) → length (pattern_of i) ≡ 32
places_32 Nop = refl
places_32 i = refl

same_places : (i : Instr) (a b : ℕ) → ReadsAt a i → ReadsAt b i → AllSame (pattern_of i) a b
same_places i a b f g = all_same (pattern_of i) (wanted (row i).letters) a b (covered i) f.fixed g.fixed
    (spells_alike (pattern_of i) a b (row i).letters f.letters g.letters)

upper_bit : (n j : ℕ) → bit_at (n / 65536) j ≡ bit_at n (16 + j)
upper_bit n j = ap (λ x. x % 2) (div-div-eq-div-mul n (2 ^ 16) (2 ^ j) ∙ ap (λ x. n / x) (sym (pow-add 2 16 j)))

-- two pairs of words that read as one instruction have the same first word
pub same_first : (i : Instr) (first second first' second' : ℕ) → first < 65536 → second < 65536 → first' < 65536 → second' < 65536
    → ReadsAt (first * 65536 + second) i → ReadsAt (first' * 65536 + second') i → first ≡ first'
same_first i first second first' second' f s f' s' h h' =
    let all : AllSame (pattern_of i) (first * 65536 + second) (first' * 65536 + second') = same_places i _ _ h h' in
    let bits : (j : ℕ) → j < 16 → bit_at ((first * 65536 + second) / 65536) j ≡ bit_at ((first' * 65536 + second') / 65536) j =
    (λ j l. upper_bit (first * 65536 + second) j ∙ at_place (pattern_of i) _ _ all 16 (undashed_first i) (16 + j) (omega arith)
    (omega (arith, places_32 i)) ∙ sym (upper_bit (first' * 65536 + second') j)) in
    let e : (first * 65536 + second) / 65536 ≡ (first' * 65536 + second') / 65536 = same_from_bits_below 16 _ _ (omega arith) (omega arith)
    bits in
    omega (arith, e)

-- and the same second word, where the instruction has two
pub same_second : (i : Instr) (first second first' second' : ℕ) → words_of i ≡ 2 → first < 65536 → second < 65536 → first' < 65536
    → second' < 65536 → ReadsAt (first * 65536 + second) i → ReadsAt (first' * 65536 + second') i → second ≡ second'
same_second i first second first' second' w f s f' s' h h' =
    let all : AllSame (pattern_of i) (first * 65536 + second) (first' * 65536 + second') = same_places i _ _ h h' in
    let bits : (j : ℕ) → j < 32 → bit_at (first * 65536 + second) j ≡ bit_at (first' * 65536 + second') j =
    (λ j l. at_place (pattern_of i) _ _ all 0 (undashed_both i w) j (omega arith) (omega (arith, places_32 i))) in
    let e : first * 65536 + second ≡ first' * 65536 + second' = same_from_bits_below 32 _ _ (omega arith) (omega arith) bits in
    omega (arith, e)

-- The four patterns of first words that begin two words.
use Rattle.std.proofs.Common.{◌≡◌, ◌≢◌, ℕ, ◌+◌, ◌*◌, ◌<◌, Bool, true, false, ◌||◌, if◌then◌else◌, List, bit_and, refl, ap, ◌∙◌}
use Rattle.avr_table.specs.Pattern.{places, stands}
use Rattle.avr_table.specs.Length.{length_of}
use Rattle.avr_table.specs.Rows.{padded, pattern_of, words_of, ReadsAt}
use Rattle.avr_table.specs.declared.Instr.{Instr}
use Rattle.avr_table.specs.declared.Instr.TheVariants.{Lds, Sts, Jmp, Call}
use Rattle.avr_table.proofs.Apart.{apart, apart_not}
use Rattle.avr_table.proofs.PatternLemmas.{mask_of, value_of, mask_from_stands, stands_from_mask}
use Rattle.avr_decode.proofs.Leaves.{by_mask, mask_back, target_back}

abbrev pub lds : List ℕ
lds = places "1001 000d dddd 0000"

abbrev pub sts : List ℕ
sts = places "1001 001r rrrr 0000"

abbrev pub jmp : List ℕ
jmp = places "1001 010k kkkk 110k"

abbrev pub call : List ℕ
call = places "1001 010k kkkk 111k"

second_of : (a b c d : Bool) → b ≡ true → (a || b || c || d) ≡ true
second_of true b c d h = refl
second_of false true c d h = refl
second_of false false c d h = absurd (cc)

third_of : (a b c d : Bool) → c ≡ true → (a || b || c || d) ≡ true
third_of true b c d h = refl
third_of false true c d h = refl
third_of false false true d h = refl
third_of false false false d h = absurd (cc)

fourth_of : (a b c d : Bool) → d ≡ true → (a || b || c || d) ≡ true
fourth_of true b c d h = refl
fourth_of false true c d h = refl
fourth_of false false true d h = refl
fourth_of false false false true h = refl
fourth_of false false false false h = absurd (cc)

not_true : (b : Bool) → (b ≡ true → ⊥) → b ≡ false
not_true true h = absurd (h refl)
not_true false h = refl

-- the length where a pattern stands
pub lds_length : (first : ℕ) → bit_and first 65039 ≡ 36864 → length_of first ≡ 2
lds_length first h = ap (λ b. if b || stands sts first || stands jmp first || stands call first then 2 else 1)
    (stands_from_mask lds first h)

abbrev count : Bool → ℕ
count b = if b then 2 else 1

two : (b : Bool) → b ≡ true → count b ≡ 2
two b h = ap count h

pub sts_length : (first : ℕ) → bit_and first 65039 ≡ 37376 → length_of first ≡ 2
sts_length first h = two _ (second_of (stands lds first) (stands sts first) (stands jmp first) (stands call first)
    (stands_from_mask sts first h))

pub jmp_length : (first : ℕ) → bit_and first 65038 ≡ 37900 → length_of first ≡ 2
jmp_length first h = two _ (third_of (stands lds first) (stands sts first) (stands jmp first) (stands call first)
    (stands_from_mask jmp first h))

pub call_length : (first : ℕ) → bit_and first 65038 ≡ 37902 → length_of first ≡ 2
call_length first h = two _ (fourth_of (stands lds first) (stands sts first) (stands jmp first) (stands call first)
    (stands_from_mask call first h))

no_stand : (p : List ℕ) (n : ℕ) → bit_and n (mask_of p) ≢ value_of p → stands p n ≡ false
no_stand p n h = not_true (stands p n) (λ s. h (mask_from_stands p n s))

none_of : (a b c d : Bool) → a ≡ false → b ≡ false → c ≡ false → d ≡ false → count (a || b || c || d) ≡ 1
none_of a b c d e f g h = ap (λ x. count (x || b || c || d)) e ∙ ap (λ x. count (x || c || d)) f ∙ ap (λ x. count (x || d)) g ∙ ap count h

pub one_length : (first : ℕ) → bit_and first 65039 ≢ 36864 → bit_and first 65039 ≢ 37376 → bit_and first 65038 ≢ 37900 → bit_and first 65038
    ≢ 37902 → length_of first ≡ 1
one_length first a b c d = none_of _ _ _ _ (no_stand lds first a) (no_stand sts first b) (no_stand jmp first c) (no_stand call first d)

-- a row of one word begins with none of the four
not_begun : (p : List ℕ) (m v first second : ℕ) (i : Instr) → second < 65536 → mask_of (padded p) ≡ m * 65536
    → value_of (padded p) ≡ v * 65536 → apart (padded p) (pattern_of i) ≡ true → ReadsAt (first * 65536 + second) i → bit_and first m ≢ v
not_begun p m v first second i s em ev e h b = apart_not (padded p) (pattern_of i) (first * 65536 + second) e
    (by_mask (padded p) m v first second s em ev b) h.fixed

pub length_read : (first second : ℕ) (i : Instr) → first < 65536 → second < 65536 → ReadsAt (first * 65536 + second) i
    → length_of first ≡ words_of i
length_read first second (Lds d k) f s h = lds_length first (mask_back (pattern_of (Lds d k)) 65039 36864 first second s refl refl h.fixed)
length_read first second (Sts k r) f s h = sts_length first (mask_back (pattern_of (Sts k r)) 65039 37376 first second s refl refl h.fixed)
length_read first second (Jmp k) f s h = jmp_length first
    (ap (λ n. bit_and n 65038) (target_back (pattern_of (Jmp k)) 37900 first second f s refl refl h.fixed).0)
length_read first second (Call k) f s h = call_length first
    (ap (λ n. bit_and n 65038) (target_back (pattern_of (Call k)) 37902 first second f s refl refl h.fixed).0)
length_read first second i f s h =
    one_length first (not_begun lds 65039 36864 first second i s refl refl refl h) (not_begun sts 65039 37376 first second i s refl refl
    refl h)
    (not_begun jmp 65038 37900 first second i s refl refl refl h) (not_begun call 65038 37902 first second i s refl refl refl h)

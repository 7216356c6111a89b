-- From what a match has found out of a word to the pattern that stands in it, and back.
use Rattle.std.proofs.Common.{◌≡◌, ◌≢◌, ℕ, ◌+◌, ◌-◌, ◌*◌, ◌/◌, ◌%◌, ◌^◌, ◌<◌, ◌≤◌, List, Some, None, IsTrue, bit_and, sym, ap, ◌∙◌, arith}
use Rattle.std.specs.Int.{bit_at}
use Rattle.std.proofs.lemmas.Nat.{and_assoc, and_block, and_mask, pow_pos}
use Rattle.std.proofs.lemmas.Nat.Bits.{and_high_mask, and_pow}
use Rattle.std.specs.Int.Bits.{and_zero_r}
use Rattle.std.proofs.Math.Nat.{eq_of_mul-eq-mul_right}
use Rattle.avr_table.specs.Pattern.{stands}
use Rattle.avr_table.specs.Rows.{ReadsAt}
use Rattle.avr_table.specs.declared.Instr.{Instr}
use Rattle.avr_table.proofs.PatternLemmas.{mask_of, value_of, stands_from_mask, mask_from_stands}
use Rattle.avr_decode.specs.Decoded.{Decoded}

-- what an answer says
pub some_read : (first second : ℕ) (i : Instr) → ReadsAt (first * 65536 + second) i → Decoded first second (Some i)
some_read first second i h = record { found = h; none = tt }

pub none_read : (first second : ℕ) → ((i : Instr) → ReadsAt (first * 65536 + second) i → ⊥) → Decoded first second None
none_read first second h = record { found = tt; none = h }

-- the mask of a first word, in the number of both words
masked_word : (first second m : ℕ) → second < 65536 → bit_and (first * 65536 + second) (m * 65536) ≡ bit_and first m * 65536
masked_word first second m h =
    let z : m * 65536 + 0 ≡ m * 65536 = omega arith in
    let e : bit_and (first * 2 ^ 16 + second) (m * 2 ^ 16 + 0) ≡ bit_and first m * 2 ^ 16 + bit_and second 0 = and_block 16 first m second 0
    h (omega arith) in
    let o : bit_and second 0 ≡ 0 = and_zero_r second in
    ap (bit_and (first * 65536 + second)) (sym z) ∙ e ∙ ap (λ x. bit_and first m * 65536 + x) o ∙ (omega arith)

pub by_mask : (p : List ℕ) (m v first second : ℕ) → second < 65536 → mask_of p ≡ m * 65536 → value_of p ≡ v * 65536 → bit_and first m ≡ v
    → IsTrue (stands p (first * 65536 + second))
by_mask p m v first second h em ev e = stands_from_mask p (first * 65536 + second) (ap (bit_and (first * 65536 + second)) em
    ∙ masked_word first second m h ∙ ap (λ x. x * 65536) e ∙ sym ev)

pub mask_back : (p : List ℕ) (m v first second : ℕ) → second < 65536 → mask_of p ≡ m * 65536 → value_of p ≡ v * 65536
    → IsTrue (stands p (first * 65536 + second)) → bit_and first m ≡ v
mask_back p m v first second h em ev s =
    let e : bit_and first m * 65536 ≡ v * 65536 = sym (masked_word first second m h) ∙ ap (bit_and (first * 65536 + second)) (sym em)
    ∙ mask_from_stands p (first * 65536 + second) s ∙ ev in
    omega (arith, e)

pub not_mask : (p : List ℕ) (m v first second : ℕ) → second < 65536 → mask_of p ≡ m * 65536 → value_of p ≡ v * 65536 → bit_and first m ≢ v
    → IsTrue (stands p (first * 65536 + second)) → ⊥
not_mask p m v first second h em ev e s = e (mask_back p m v first second h em ev s)

-- more bits are known than are asked for
pub part : (first m v m' v' : ℕ) → bit_and m m' ≡ m' → bit_and v m' ≡ v' → bit_and first m ≡ v → bit_and first m' ≡ v'
part first m v m' v' em ev e = ap (bit_and first) (sym em) ∙ sym (and_assoc m' first m) ∙ ap (λ x. bit_and x m') e ∙ ev

pub not_part : (p : List ℕ) (m v m' v' first second : ℕ) → second < 65536 → mask_of p ≡ m * 65536 → value_of p ≡ v * 65536
    → bit_and m m' ≡ m' → bit_and v m' ≡ v' → bit_and first m' ≢ v' → IsTrue (stands p (first * 65536 + second)) → ⊥
not_part p m v m' v' first second h em ev wm wv e s = e (part first m v m' v' wm wv (mask_back p m v first second h em ev s))

-- the bits from place k on
pub begins : (first k v : ℕ) → k ≤ 16 → first < 65536 → first / 2 ^ k ≡ v → bit_and first (65536 - 2 ^ k) ≡ v * 2 ^ k
begins first k v i f e = and_high_mask 16 k i first f ∙ ap (λ x. x * 2 ^ k) e

pub not_begins : (first k v : ℕ) → k ≤ 16 → first < 65536 → first / 2 ^ k ≢ v → bit_and first (65536 - 2 ^ k) ≢ v * 2 ^ k
not_begins first k v i f e h =
    let t : first / 2 ^ k * 2 ^ k ≡ v * 2 ^ k = sym (and_high_mask 16 k i first f) ∙ h in
    e (eq_of_mul-eq-mul_right (2 ^ k) (pow_pos k) (first / 2 ^ k) v t)

pub by_shift : (p : List ℕ) (k v first second : ℕ) → k ≤ 16 → first < 65536 → second < 65536 → mask_of p ≡ (65536 - 2 ^ k) * 65536
    → value_of p ≡ v * 2 ^ k * 65536 → first / 2 ^ k ≡ v → IsTrue (stands p (first * 65536 + second))
by_shift p k v first second i f h em ev e = by_mask p (65536 - 2 ^ k) (v * 2 ^ k) first second h em ev (begins first k v i f e)

-- a whole word
pub by_word : (p : List ℕ) (v first second : ℕ) → first < 65536 → second < 65536 → mask_of p ≡ 65535 * 65536 → value_of p ≡ v * 65536
    → first ≡ v → IsTrue (stands p (first * 65536 + second))
by_word p v first second f h em ev e = by_mask p 65535 v first second h em ev (and_mask first 16 ∙ omega (arith, e))

pub not_word : (p : List ℕ) (v first second : ℕ) → first < 65536 → second < 65536 → mask_of p ≡ 65535 * 65536 → value_of p ≡ v * 65536
    → first ≢ v → IsTrue (stands p (first * 65536 + second)) → ⊥
not_word p v first second f h em ev e s =
    let t : bit_and first 65535 ≡ v = mask_back p 65535 v first second h em ev s in
    e (omega (arith, t, and_mask first 16))

-- a whole word, and the top bit of the second: JMP and CALL
target_masked : (first second : ℕ) → first < 65536 → second < 65536 → bit_and (first * 65536 + second) 4294934528 ≡ first * 65536 + second /
    32768 * 32768
target_masked first second f h =
    let e : bit_and (first * 2 ^ 16 + second) (65535 * 2 ^ 16 + 32768) ≡ bit_and first 65535 * 2 ^ 16 + bit_and second 32768 =
    and_block 16 first 65535 second 32768 h (omega arith) in
    let w : bit_and first 65535 ≡ first % 2 ^ 16 = and_mask first 16 in
    let t : bit_and second 32768 ≡ bit_at second 15 * 2 ^ 15 = and_pow second 15 in
    omega (arith, e, w, t)

pub by_target : (p : List ℕ) (v first second : ℕ) → first < 65536 → second < 32768 → mask_of p ≡ 4294934528 → value_of p ≡ v * 65536
    → first ≡ v → IsTrue (stands p (first * 65536 + second))
by_target p v first second f h em ev e =
    let t : bit_and (first * 65536 + second) 4294934528 ≡ v * 65536 = omega (arith, target_masked first second f (omega arith), e) in
    stands_from_mask p (first * 65536 + second) (ap (bit_and (first * 65536 + second)) em ∙ t ∙ sym ev)

pub target_back : (p : List ℕ) (v first second : ℕ) → first < 65536 → second < 65536 → mask_of p ≡ 4294934528 → value_of p ≡ v * 65536
    → IsTrue (stands p (first * 65536 + second)) → (first ≡ v) × (second < 32768)
target_back p v first second f h em ev s =
    let e : bit_and (first * 65536 + second) 4294934528 ≡ v * 65536 = ap (bit_and (first * 65536 + second)) (sym em) ∙ mask_from_stands p
    (first * 65536 + second) s ∙ ev in
    let t : first * 65536 + second / 32768 * 32768 ≡ v * 65536 = sym (target_masked first second f h) ∙ e in
    (omega arith, omega arith)

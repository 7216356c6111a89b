-- What letters spell, by shifts and remainders: once for a run of bits, and once for each further run above it.
use Rattle.std.proofs.Common.{◌≡◌, ℕ, zero, suc, ◌+◌, ◌*◌, ◌/◌, ◌%◌, ◌^◌, ◌<◌, refl, sym, ap, one-add, ◌∙◌, arith}
use Rattle.std.specs.Int.{bit_at}
use Rattle.std.proofs.lemmas.Nat.{mod-pow-add, pow-add}
use Rattle.std.proofs.Math.Nat.{div-div-eq-div-mul}

-- the number in the places of one letter: w of them from place low on, the lowest worth 2 ^ s, over the rest
abbrev pub above : ℕ → ℕ → ℕ → ℕ → ℕ → ℕ
above low zero s n rest = rest
above low (suc w) s n rest = bit_at n (low + w) * 2 ^ (s + w) + above low w s n rest

regroup : (b a s w rest : ℕ) → b * (s * w) + (a * s + rest) ≡ (b * w + a) * s + rest
regroup b a s w rest = omega arith

above_is : (low w s n rest : ℕ) → above low w s n rest ≡ n / 2 ^ low % 2 ^ w * 2 ^ s + rest
above_is low zero s n rest = let e : n / 2 ^ low % 2 ^ 0 ≡ 0 = omega arith in rw e (omega arith)
above_is low (suc w) s n rest =
    let d : n / 2 ^ low / 2 ^ w ≡ n / 2 ^ (low + w) = div-div-eq-div-mul n (2 ^ low) (2 ^ w) ∙ ap (λ x. n / x) (sym (pow-add 2 low w)) in
    let m : n / 2 ^ low % 2 ^ (1 + w) ≡ (n / 2 ^ low / 2 ^ w % 2 ^ 1) * 2 ^ w + n / 2 ^ low % 2 ^ w = mod-pow-add (n / 2 ^ low) 1 w in
    let t : n / 2 ^ low % 2 ^ suc w ≡ bit_at n (low + w) * 2 ^ w + n / 2 ^ low % 2 ^ w = ap (λ x. n / 2 ^ low % 2 ^ x) (sym (one-add w)) ∙ m
    ∙ ap (λ x. x % 2 * 2 ^ w + n / 2 ^ low % 2 ^ w) d in
    ap (λ x. bit_at n (low + w) * x + above low w s n rest) (pow-add 2 s w)
    ∙ ap (λ x. bit_at n (low + w) * (2 ^ s * 2 ^ w) + x) (above_is low w s n rest)
    ∙ regroup (bit_at n (low + w)) (n / 2 ^ low % 2 ^ w) (2 ^ s) (2 ^ w) rest
    ∙ ap (λ x. x * 2 ^ s + rest) (sym t)

-- the same letter's places in the first word
above_word : (first second low w s rest : ℕ) → second < 65536 → above (16 + low) w s (first * 65536 + second) rest ≡ first / 2 ^ low % 2 ^
    w * 2 ^ s + rest
above_word first second low w s rest h =
    let q : (first * 65536 + second) / 2 ^ 16 ≡ first = omega arith in
    let d : (first * 65536 + second) / 2 ^ (16 + low) ≡ first / 2 ^ low = ap (λ x. (first * 65536 + second) / x) (pow-add 2 16 low)
    ∙ sym (div-div-eq-div-mul (first * 65536 + second) (2 ^ 16) (2 ^ low)) ∙ ap (λ x. x / 2 ^ low) q in
    above_is (16 + low) w s (first * 65536 + second) rest ∙ ap (λ x. x % 2 ^ w * 2 ^ s + rest) d

-- what a letter of one run spells
pub run_spelled : (first second low w : ℕ) {v : ℕ} → second < 65536 → v ≡ first / 2 ^ low % 2 ^ w → v ≡ above (16 + low) w 0
    (first * 65536 + second) 0
run_spelled first second low w h e = e ∙ omega arith ∙ sym (above_word first second low w 0 0 h)

-- what a letter of two runs spells
pub runs_spelled : (first second high upper low lower : ℕ) {v : ℕ} → second < 65536 → v ≡ first / 2 ^ high % 2 ^ upper * 2 ^ lower + first /
    2 ^ low % 2 ^ lower → v ≡ above (16 + high) upper lower (first * 65536 + second) (above (16 + low) lower 0 (first * 65536 + second) 0)
runs_spelled first second high upper low lower h e =
    e ∙ ap (λ x. first / 2 ^ high % 2 ^ upper * 2 ^ lower + x) (run_spelled first second low lower h refl)
    ∙ sym (above_word first second high upper lower (above (16 + low) lower 0 (first * 65536 + second) 0) h)

-- what the letter q of three runs spells
pub displacement_spelled : (first second : ℕ) {v : ℕ} → second < 65536 → v ≡ first / 2 ^ 13 % 2 ^ 1 * 2 ^
    5 + (first / 2 ^ 10 % 2 ^ 2 * 2 ^ 3 + first / 2 ^ 0 % 2 ^ 3) → v ≡ above 29 1 5 (first * 65536 + second)
    (above 26 2 3 (first * 65536 + second) (above 16 3 0 (first * 65536 + second) 0))
displacement_spelled first second h e =
    e ∙ ap (λ x. first / 2 ^ 13 % 2 ^ 1 * 2 ^ 5 + x) (runs_spelled first second 10 2 0 3 h refl)
    ∙ sym (above_word first second 13 1 5 (above 26 2 3 (first * 65536 + second) (above 16 3 0 (first * 65536 + second) 0)) h)

-- what the letter k of the second word spells
pub second_spelled : (first second : ℕ) → second < 65536 → second ≡ above 0 16 0 (first * 65536 + second) 0
second_spelled first second h = let e : second ≡ (first * 65536 + second) / 2 ^ 0 % 2 ^ 16 * 2 ^ 0 + 0 = omega arith in
    e ∙ sym (above_is 0 16 0 (first * 65536 + second) 0)

pub target_spelled : (first second : ℕ) → second < 32768 → second ≡ above 0 15 0 (first * 65536 + second) 0
target_spelled first second h = let e : second ≡ (first * 65536 + second) / 2 ^ 0 % 2 ^ 15 * 2 ^ 0 + 0 = omega arith in
    e ∙ sym (above_is 0 15 0 (first * 65536 + second) 0)

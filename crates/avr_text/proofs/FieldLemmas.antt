-- Fields with one value are one.
use Rattle.std.proofs.Common.{◌≡◌, ℕ, ◌-◌, ◌*◌, ◌%◌, ◌^◌, ◌<◌, ◌≤◌, refl, ◌∙◌, ap, subst, arith, rules, ℤ, pos, FitsSigned, to_z, of_z, w64}
use Rattle.std.specs.Prelude.{negsuc, unsigned_abs}
use Rattle.std.specs.Int.{int_rem_euclid}
use Rattle.std.proofs.Math.Bridge.{le_prop}
use Rattle.std.proofs.Math.Nat.{mod-eq_of_lt, mod-lt}
use Rattle.std.proofs.Math.Pow.{pow_mono}
use Rattle.std.proofs.lemmas.Nat.{pow_pos, one_shl}
use Rattle.std.proofs.lemmas.Int.{ints, to_z-of_z}
use Rattle.avr_table.specs.declared.Field.{Field}
use Rattle.avr_text.specs.Fields.{unsigned}
use Rattle.std.proofs.lemmas.Bool.Decides.{nat_tests}

made : (b v : ℕ) → v < 2 ^ b → Field b
made b v p = record { value = v; in_range = p }

same_made : (b v w : ℕ) → v ≡ w → (p : v < 2 ^ b) (q : w < 2 ^ b) → made b v p ≡ made b w q
same_made b v w h p = subst (λ x. (q : x < 2 ^ b) → made b v p ≡ made b x q) h (λ q. ap (made b v) (le_prop p q))

pub same_field : (bits : ℕ) (f g : Field bits) → f.value ≡ g.value → f ≡ g
unfolding made
same_field bits f g e = same_made bits f.value g.value e f.in_range g.in_range

remainder_is : (b : ℕ) (z : ℤ) → unsigned_abs (int_rem_euclid z (pos (2 ^ b))) ≡ unsigned b z % 2 ^ b
remainder_is b (pos n) = refl
remainder_is b (negsuc n) = grind (arith, nat_tests, pow_pos b, mod-lt n, mod-eq_of_lt)

power_is : (b : ℕ) → b ≤ 16 → to_z w64 (1 * 2 ^ b % 2 ^ 64) ≡ pos (2 ^ b)
power_is b h = grind (arith, nat_tests, one_shl b 64 (omega arith), pow_mono h, ints)

pos_fits : (v : ℕ) → v < 2 ^ 63 → FitsSigned w64 (pos v)
pos_fits v h = search rules

small_fits : (b : ℕ) (z : ℤ) → b ≤ 16 → FitsSigned w64 (int_rem_euclid z (pos (2 ^ b)))
small_fits b (pos n) h =
    let some = pow_pos b in
    let small : 2 ^ b ≤ 2 ^ 16 = pow_mono h in
    let below : n % 2 ^ b < 2 ^ b = mod-lt n some in
    pos_fits (n % 2 ^ b) (omega arith)
small_fits b (negsuc n) h =
    let small : 2 ^ b ≤ 2 ^ 16 = pow_mono h in
    pos_fits (2 ^ b - 1 - n % 2 ^ b) (omega arith)

pub value_is : (b : ℕ) (z r : ℤ) → b ≤ 16 → FitsSigned w64 z → r ≡ int_rem_euclid (to_z w64 (of_z w64 z)) (to_z w64 (1 * 2 ^ b % 2 ^ 64))
    → unsigned_abs (to_z w64 (of_z w64 r)) ≡ unsigned b z % 2 ^ b
value_is b z r h fits e =
    let is : r ≡ int_rem_euclid z (pos (2 ^ b)) = e ∙ ap (λ x. int_rem_euclid x (to_z w64 (1 * 2 ^ b % 2 ^ 64))) (to_z-of_z w64 z fits)
    ∙ ap (int_rem_euclid z) (power_is b h) in
    ap (λ x. unsigned_abs (to_z w64 (of_z w64 x))) is ∙ ap unsigned_abs (to_z-of_z w64 (int_rem_euclid z (pos (2 ^ b))) (small_fits b z h))
    ∙ remainder_is b z

-- Numbers put together from runs of bits.
use Rattle.std.proofs.Common.{◌≡◌, ℕ, ◌+◌, ◌-◌, ◌*◌, ◌^◌, ◌<◌, ◌≤◌, sym, ap, ◌∙◌, arith}
use Rattle.std.proofs.lemmas.Nat.{pow-add, pow_pos}
use Rattle.std.proofs.Math.Arith.{digits_lt}
use Rattle.std.proofs.Math.Pow.{pow_mono}

-- a number of b bits, its upper bits first
pub joined_below : (b w u l : ℕ) → w ≤ b → u < 2 ^ (b - w) → l < 2 ^ w → u * 2 ^ w + l < 2 ^ b
joined_below b w u l h hu hl =
    let d : u * 2 ^ w + l < 2 ^ (b - w) * 2 ^ w = digits_lt hu hl in
    let e : b - w + w ≡ b = omega arith in
    let p : 2 ^ b ≡ 2 ^ (b - w) * 2 ^ w = sym (ap (λ k. 2 ^ k) e) ∙ pow-add 2 (b - w) w in
    omega (arith, d, p)

pub joined_fits : (b w u : ℕ) → w ≤ b → b ≤ 16 → u < 2 ^ (b - w) → u * 2 ^ w < 2 ^ 16
joined_fits b w u h s hu =
    let d : u * 2 ^ w + 0 < 2 ^ b = joined_below b w u 0 h hu (pow_pos w) in
    let m : 2 ^ b ≤ 2 ^ 16 = pow_mono s in
    omega (arith, d, m)

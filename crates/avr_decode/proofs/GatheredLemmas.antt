-- Laws of gathered bits.
use Rattle.std.proofs.Common.{◌≡◌, ◌≢◌, ℕ, zero, suc, ◌+◌, ◌*◌, ◌^◌, ◌%◌, ◌<◌, true, false, nat_eq, refl, arith, add-one}
use Rattle.std.proofs.lemmas.Nat.{shl_whole}
use Rattle.std.proofs.lemmas.Nat.Bits.{bit_at-lt}
use Rattle.std.proofs.lemmas.Bool.Decides.{nat_tests}
use Rattle.std.specs.Int.{bit_at}
use Rattle.avr_decode.specs.Gathered.{gathered, ones_below}

pub eq_true : (a b : ℕ) → a ≡ b → nat_eq a b ≡ true
eq_true a b h = grind (arith, nat_tests)

pub eq_false : (a b : ℕ) → a ≢ b → nat_eq a b ≡ false
eq_false a b h = grind (arith, nat_tests)

pub ones-set : (i mask : ℕ) → bit_at mask i ≡ 1 → ones_below (i + 1) mask ≡ ones_below i mask + 1
unfolding ones_below
ones-set i mask h = rw add-one (omega (arith, h))

pub ones-clear : (i mask : ℕ) → bit_at mask i ≢ 1 → ones_below (i + 1) mask ≡ ones_below i mask
unfolding ones_below
ones-clear i mask h = rw add-one (omega (arith, h, bit_at-lt mask i))

pub gathered-set : (i mask n : ℕ) → bit_at mask i ≡ 1 → gathered (i + 1) mask n ≡ bit_at n i * 2 ^ ones_below i mask + gathered i mask n
unfolding gathered
gathered-set i mask n h = rw (add-one, eq_true (bit_at mask i) 1 h) refl

pub gathered-clear : (i mask n : ℕ) → bit_at mask i ≢ 1 → gathered (i + 1) mask n ≡ gathered i mask n
unfolding gathered
gathered-clear i mask n h = rw (add-one, eq_false (bit_at mask i) 1 h) refl

pub gathered-zero : (mask n : ℕ) → gathered 0 mask n ≡ 0
unfolding gathered
gathered-zero mask n = refl

pub ones-zero : (mask : ℕ) → ones_below 0 mask ≡ 0
unfolding ones_below
ones-zero mask = refl

-- what one more bit is worth
pub shifted-exact : (b count : ℕ) → b < 2 → count < 32 → (b * 2 ^ count) % 2 ^ 32 ≡ b * 2 ^ count
shifted-exact b count hb hc = shl_whole b 1 count 32 hb (omega arith)

pub pow_half : (count : ℕ) → 2 ^ (count + 1) ≡ 2 ^ count + 2 ^ count
pow_half count = rw add-one (omega arith)

pub one_more : (b v count : ℕ) → b < 2 → v < 2 ^ count → b * 2 ^ count + v < 2 ^ (count + 1)
one_more zero v count hb hv = omega (arith, pow_half count)
one_more (suc b) v count hb hv = let z : b ≡ 0 = omega arith in rw z (omega (arith, pow_half count))

-- Laws on bits that are spread over the places of a mask.
use Rattle.std.proofs.Common.{◌≡◌, ◌≢◌, ℕ, zero, suc, ◌+◌, ◌*◌, ◌^◌, ◌/◌, ◌%◌, ◌<◌, ◌≤◌, min, max, refl, sym, ap, ◌∙◌, arith, add-one}
use Rattle.std.proofs.Common.{bit_and}
use Rattle.std.specs.Prelude.{bit_or}
use Rattle.std.proofs.lemmas.Nat.{and_comm, and_or_apart}
use Rattle.std.proofs.lemmas.Nat.Bits.{bit_at-lt, bit_at-zero, bit_at_and, bit_at_or, bit_at-pow_same, bit_at-pow_other, and_pow}
use Rattle.std.specs.Int.{bit_at}
use Rattle.std.specs.Int.Bits.{and_zero_l}
use Rattle.avr_decode.specs.Gathered.{gathered, ones_below}
use Rattle.avr_decode.proofs.GatheredLemmas.{gathered-set, gathered-clear, gathered-zero, ones-set, ones-clear, ones-zero, pow_half}

pub placed_same : (b i : ℕ) → b < 2 → bit_at (b * 2 ^ i) i ≡ b
placed_same zero i h = rw zero_times (bit_at-zero i)
  where
    zero_times : 0 * 2 ^ i ≡ 0
    zero_times = omega arith
placed_same (suc b) i h = let z : suc b ≡ 1 = omega arith in let e : suc b * 2 ^ i ≡ 2 ^ i = rw z (omega arith) in
    rw e (bit_at-pow_same i ∙ sym z)

pub placed_other : (b i j : ℕ) → b < 2 → j ≢ i → bit_at (b * 2 ^ i) j ≡ 0
placed_other zero i j h n = rw zero_times (bit_at-zero j)
  where
    zero_times : 0 * 2 ^ i ≡ 0
    zero_times = omega arith
placed_other (suc b) i j h n = let z : suc b ≡ 1 = omega arith in let e : suc b * 2 ^ i ≡ 2 ^ i = rw z (omega arith) in
    rw e (bit_at-pow_other i j n)

-- where two numbers share no bit, and one has the bit, the other hasn't
pub no_bit : (a m i : ℕ) → bit_and a m ≡ 0 → bit_at m i ≡ 1 → bit_at a i ≡ 0
no_bit a m i h s = let e : bit_at (bit_and a m) i ≡ min (bit_at a i) (bit_at m i) = bit_at_and a m i in let z : bit_at (bit_and a m) i ≡ 0 =
    ap (λ x. bit_at x i) h ∙ bit_at-zero i in omega (arith, e, z, s, bit_at-lt a i)

pub placed_apart : (b i m : ℕ) → b < 2 → bit_at m i ≡ 0 → bit_and (b * 2 ^ i) m ≡ 0
placed_apart zero i m h s = rw zero_times (and_zero_l m)
  where
    zero_times : 0 * 2 ^ i ≡ 0
    zero_times = omega arith
placed_apart (suc b) i m h s =
    let z : suc b ≡ 1 = omega arith in let e : suc b * 2 ^ i ≡ 2 ^ i = rw z (omega arith) in
    rw e (and_comm (2 ^ i) m ∙ and_pow m i ∙ ap (λ x. x * 2 ^ i) s ∙ zero_times)
  where
    zero_times : 0 * 2 ^ i ≡ 0
    zero_times = omega arith

pub or_same : (r b i : ℕ) → b < 2 → bit_at r i ≡ 0 → bit_at (bit_or r (b * 2 ^ i)) i ≡ b
or_same r b i h z = let e : bit_at (bit_or r (b * 2 ^ i)) i ≡ max (bit_at r i) (bit_at (b * 2 ^ i) i) = bit_at_or r (b * 2 ^ i) i in
    omega (arith, e, z, placed_same b i h)

pub or_other : (r b i j : ℕ) → b < 2 → j ≢ i → bit_at (bit_or r (b * 2 ^ i)) j ≡ bit_at r j
or_other r b i j h n = let e : bit_at (bit_or r (b * 2 ^ i)) j ≡ max (bit_at r j) (bit_at (b * 2 ^ i) j) = bit_at_or r (b * 2 ^ i) j in
    omega (arith, e, placed_other b i j h n)

pub gathered-below : (i m a b : ℕ) → ((j : ℕ) → j < i → bit_at a j ≡ bit_at b j) → gathered i m a ≡ gathered i m b
unfolding gathered
gathered-below zero m a b h = refl
gathered-below (suc i) m a b h = rw (h i (omega arith), gathered-below i m a b (λ j l. h j (omega arith))) refl

same_bit : (a b m i : ℕ) → bit_and a m ≡ bit_and b m → bit_at m i ≡ 1 → bit_at a i ≡ bit_at b i
same_bit a b m i h s = omega (arith, bit_at_and a m i, bit_at_and b m i, ap (λ x. bit_at x i) h, s, bit_at-lt a i, bit_at-lt b i)

more_masked : (i m a b x : ℕ) → bit_at m i ≡ x → x < 2 → bit_and a m ≡ bit_and b m → gathered i m a ≡ gathered i m b → gathered (i + 1) m
    a ≡ gathered (i + 1) m b
more_masked i m a b zero e l h g = let n : bit_at m i ≢ 1 = (λ q. omega arith) in gathered-clear i m a n ∙ g ∙ sym (gathered-clear i m b n)
more_masked i m a b (suc x) e l h g =
    let o : bit_at m i ≡ 1 = omega arith in
    gathered-set i m a o ∙ ap (λ u. u * 2 ^ ones_below i m + gathered i m a) (same_bit a b m i h o)
    ∙ ap (λ u. bit_at b i * 2 ^ ones_below i m + u) g ∙ sym (gathered-set i m b o)

-- what is gathered is known from the bits under the mask
pub gathered-masked : (i m a b : ℕ) → bit_and a m ≡ bit_and b m → gathered i m a ≡ gathered i m b
gathered-masked zero m a b h = gathered-zero m a ∙ sym (gathered-zero m b)
gathered-masked (suc i) m a b h = rw (← add-one) (more_masked i m a b (bit_at m i) refl (bit_at-lt m i) h (gathered-masked i m a b h))

-- after the places below i: bits outside the mask are the base's, those below i are of x, the rest is left
pub record Spread (i mask base x number rest : ℕ) : Type 0 where
  pub others : (m : ℕ) → bit_and m mask ≡ 0 → bit_and number m ≡ bit_and base m
  pub own : gathered i mask number + 2 ^ ones_below i mask * rest ≡ x
  pub clear : (j : ℕ) → i ≤ j → bit_at mask j ≡ 1 → bit_at number j ≡ 0

pub spread_init : (mask base x : ℕ) → bit_and base mask ≡ 0 → Spread 0 mask base x base x
spread_init mask base x h = record {
  others = λ m a. refl;
  own = omega (arith, gathered-zero mask base, ap (λ k. 2 ^ k * x) (ones-zero mask));
  clear = λ j l s. no_bit base mask j h s;
}

pub spread_clear : (i mask base x number rest : ℕ) → bit_at mask i ≢ 1 → Spread i mask base x number rest → Spread (i + 1) mask base x
    number rest
spread_clear i mask base x number rest n h = record {
  others = h.others;
  own = omega (arith, h.own, gathered-clear i mask number n, ap (λ k. 2 ^ k * rest) (ones-clear i mask n));
  clear = λ j l s. h.clear j (omega arith) s;
}

pub spread_set : (i mask base x number rest : ℕ) → bit_at mask i ≡ 1 → Spread i mask base x number rest → Spread (i + 1) mask base x
    (bit_or number (rest % 2 * 2 ^ i)) (rest / 2)
spread_set i mask base x number rest s h =
    let b : rest % 2 < 2 = omega arith in
    let z : bit_at number i ≡ 0 = h.clear i (omega arith) s in
    let same : bit_at (bit_or number (rest % 2 * 2 ^ i)) i ≡ rest % 2 = or_same number (rest % 2) i b z in
    let below : gathered i mask (bit_or number (rest % 2 * 2 ^ i)) ≡ gathered i mask number = gathered-below i mask _ _
    (λ j l. or_other number (rest % 2) i j b (λ e. omega arith)) in
    record {
      others = λ m a. and_or_apart m number (rest % 2 * 2 ^ i) (placed_apart (rest % 2) i m b (no_bit m mask i a s)) ∙ h.others m a;
      own = omega (
        arith,
        h.own,
        gathered-set i mask (bit_or number (rest % 2 * 2 ^ i)) s,
        below,
        ap (λ u. u * 2 ^ ones_below i mask) same,
        ap (λ k. 2 ^ k * (rest / 2)) (ones-set i mask s),
        ap (λ k. k * (rest / 2)) (pow_half (ones_below i mask)),
        ap (λ u. 2 ^ ones_below i mask * u) (halves rest),
      );
      clear = λ j l t. or_other number (rest % 2) i j b (λ e. omega arith) ∙ h.clear j (omega arith) t;
    }
  where
    halves : (r : ℕ) → r ≡ r / 2 + r / 2 + r % 2
    halves r = omega arith

pub spread_end : (mask base x number rest : ℕ) → x < 2 ^ ones_below 32 mask → Spread 32 mask base x number rest → gathered 32 mask
    number ≡ x
spread_end mask base x number rest f h = by_rest rest refl
  where
    by_rest : (r : ℕ) → rest ≡ r → gathered 32 mask number ≡ x
    by_rest zero e = omega (arith, h.own, ap (λ u. 2 ^ ones_below 32 mask * u) e)
    by_rest (suc r) e = absurd (omega (arith, f, h.own, ap (λ u. 2 ^ ones_below 32 mask * u) e, times_suc r))
      where
        times_suc : (r : ℕ) → 2 ^ ones_below 32 mask * suc r ≡ 2 ^ ones_below 32 mask * r + 2 ^ ones_below 32 mask
        times_suc r = omega arith

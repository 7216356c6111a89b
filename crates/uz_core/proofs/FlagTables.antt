-- The tables of flags.
use Rattle.std.proofs.Common.{◌≡◌, ℕ, zero, suc, ◌-◌, ◌<◌, Bool, true, ◌&&◌, T, eqb, get_or, inl, inr, arith, eq-zero-or-pos, eqb→eq}
use Rattle.uz_core.specs.declared.arithmetic.TheConstants.{INCREMENTED, DECREMENTED}
use Rattle.uz_core.specs.FlagValues.{incremented_value, decremented_value}
use lib.Ieee.Fits.{and_l, and_r}

abbrev are_decremented : ℕ → Bool
are_decremented zero = true
are_decremented (suc p) = eqb (get_or DECREMENTED p 0) (decremented_value p) && are_decremented p

below : (n p : ℕ) → T (are_decremented n) → p < n → get_or DECREMENTED p 0 ≡ decremented_value p
below zero p t h = absurd (omega arith)
below (suc n) p t h =
    elim (eq-zero-or-pos (n - p)) [
      | inl z ↦ let e : p ≡ n = omega arith in rw e (eqb→eq _ _ (and_l _ (are_decremented n) t))
      | inr g ↦ below n p (and_r _ (are_decremented n) t) (omega arith)
    ]

pub decremented_at : (p : ℕ) → p < 256 → get_or DECREMENTED p 0 ≡ decremented_value p
decremented_at p h = below 256 p tt h

abbrev are_incremented : ℕ → Bool
are_incremented zero = true
are_incremented (suc p) = eqb (get_or INCREMENTED p 0) (incremented_value p) && are_incremented p

below_incremented : (n p : ℕ) → T (are_incremented n) → p < n → get_or INCREMENTED p 0 ≡ incremented_value p
below_incremented zero p t h = absurd (omega arith)
below_incremented (suc n) p t h =
    elim (eq-zero-or-pos (n - p)) [
      | inl z ↦ let e : p ≡ n = omega arith in rw e (eqb→eq _ _ (and_l _ (are_incremented n) t))
      | inr g ↦ below_incremented n p (and_r _ (are_incremented n) t) (omega arith)
    ]

pub incremented_at : (p : ℕ) → p < 256 → get_or INCREMENTED p 0 ≡ incremented_value p
incremented_at p h = below_incremented 256 p tt h

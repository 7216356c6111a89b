-- The lengths that a kind of line may have.
use Rattle.std.proofs.Common.{◌≡◌, ◌⊎◌, inl, inr, ℕ, ◌+◌, ◌<◌, ◌≤◌, true, cond, ltb, arith}
use Rattle.std.proofs.{lemmas.Bool.Decides.nat_tests}
use Rattle.uz_schedule.specs.{Limits.is_length, Limits.most_events, Schedule.scanline, Schedule.half_line}

pub two_lengths : (n : ℕ) → is_length n ≡ true → (n ≡ half_line) ⊎ (n ≡ scanline)
two_lengths n e = grind (arith, nat_tests)

pub length_few : (n : ℕ) → is_length n ≡ true → n ≤ scanline
length_few n e = elim (two_lengths n e) [ inl h ↦ omega (arith, h) | inr h ↦ omega (arith, h) ]

-- the least length for so many events
abbrev least_for : ℕ → ℕ
least_for events = cond (ltb half_line events) scanline half_line

pub least_length : (events n : ℕ) → events ≤ n → is_length n ≡ true → least_for events ≤ n
least_length events n few e = grind (arith, nat_tests)

pub no_other_length : (n : ℕ) → is_length n ≡ true → (n < half_line + 1) ⊎ (scanline ≤ n)
no_other_length n e = elim (two_lengths n e) [ inl h ↦ inl (omega (arith, h)) | inr h ↦ inr (omega (arith, h)) ]

-- what is asked of a length
pub length_asked : (events n : ℕ) → events ≤ most_events → least_for events ≤ n → n < scanline + 1 → (n < half_line + 1) ⊎ (scanline ≤ n)
    → (events ≤ n) × (is_length n ≡ true)
length_asked events n few low high out = grind (arith, nat_tests)

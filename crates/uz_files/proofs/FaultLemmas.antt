-- Counts of faults over several calls.
use Rattle.std.proofs.Common.{◌≡◌, inl, inr, ℕ, ◌≤◌, subst, arith}
use Rattle.uz_shelf.specs.Faults.{Rose}

-- a later call
pub rose_later : (old mid new : ℕ) → old ≤ mid → Rose mid new → Rose old new
rose_later old mid new up (inl rose) = inl (omega arith)
rose_later old mid new up (inr stuck) = inr stuck

-- a call before that left the count
pub rose_same : (old mid new : ℕ) → mid ≡ old → Rose mid new → Rose old new
rose_same old mid new same rose = subst (λ n. Rose n new) same rose

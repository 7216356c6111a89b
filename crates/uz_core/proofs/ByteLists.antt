-- Lists of bytes.
use Rattle.std.proofs.Common.{ℕ, zero, suc, List, [], ◌∷◌, slice_index, slice_set, arith}
use Rattle.std.specs.List.{AllByRecursion}
use Rattle.uz_core.specs.CoreRange.{IsByte}

-- a place past the end reads as 0
pub byte_at : (xs : List ℕ) (k : ℕ) → AllByRecursion IsByte xs → IsByte (slice_index xs k)
byte_at [] k h = omega arith
byte_at (x ∷ xs) zero h = h.0
byte_at (x ∷ xs) (suc k) h = byte_at xs k h.1

pub bytes_set : (xs : List ℕ) (k v : ℕ) → IsByte v → AllByRecursion IsByte xs → AllByRecursion IsByte (slice_set xs k v)
bytes_set [] k v b h = h
bytes_set (x ∷ xs) zero v b h = (b, h.1)
bytes_set (x ∷ xs) (suc k) v b h = (h.0, bytes_set xs k v b h.1)

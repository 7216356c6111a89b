-- The bits of a number in the places of a mask, pushed together.
use Rattle.std.specs.Prelude.{ℕ, ◌+◌, ◌*◌, ◌^◌, if◌then◌else◌, nat_eq, zero, suc}
use Rattle.std.specs.Int.{bit_at}

-- how many ones a mask has below a place
unfoldable pub ones_below : ℕ → ℕ → ℕ
ones_below zero mask = 0
ones_below (suc k) mask = bit_at mask k + ones_below k mask

-- of the places below k
unfoldable pub gathered : ℕ → ℕ → ℕ → ℕ
gathered zero mask n = 0
gathered (suc k) mask n = if nat_eq (bit_at mask k) 1 then bit_at n k * 2 ^ ones_below k mask + gathered k mask n else gathered k mask n

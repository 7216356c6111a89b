-- Blocks and waits take the clocks that are said.
use Rattle.std.proofs.Common.{◌≡◌, ℕ, zero, suc, ◌*◌, ◌/◌, ◌%◌, refl, arith}
use Rattle.uz_demo.specs.Waits.{block_clocks, wait_clocks}

pub block_takes : (n : ℕ) → block_clocks n ≡ 3 * n
block_takes zero = refl
block_takes (suc n) = omega arith

pub wait_takes : (d : ℕ) → wait_clocks d ≡ d
wait_takes d = rw (block_takes (d % 750 / 3)) (omega arith)

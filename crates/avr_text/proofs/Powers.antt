-- Powers of 2 below 2 ^ 63.
use Rattle.std.proofs.Common.{◌≡◌, ℕ, ◌*◌, ◌%◌, ◌<◌, ◌^◌, arith}
use Rattle.std.proofs.Math.Pow.{pow-lt}
use Rattle.std.proofs.lemmas.Nat.{one_shl}

pub power_below : (k : ℕ) → k < 63 → 2 ^ k < 2 ^ 63
power_below k h = pow-lt h

pub shifted_one : (k : ℕ) → k < 63 → 1 * 2 ^ k % 2 ^ 64 ≡ 2 ^ k
shifted_one k h = one_shl k 64 (omega arith)

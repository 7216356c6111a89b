-- How many digits the numbers of a line have at most.
use Rattle.std.proofs.Common.{ℕ, ◌<◌, ◌≤◌, ◌^◌, length, arith}
use Rattle.std.proofs.lemmas.Fmt.{length-decimal-le}
use Rattle.std.specs.Prelude.{decimal}

-- a word has at most five digits
pub word_digits_most : (n : ℕ) → n < 2 ^ 16 → length (decimal n) ≤ 5
word_digits_most n h = length-decimal-le 5 n (omega arith) (omega arith) (omega arith)

pub clock_digits_most : (n : ℕ) → n < 2 ^ 64 → length (decimal n) ≤ 20
clock_digits_most n h = length-decimal-le 20 n (omega arith) (omega arith) h

use Rattle.std.proofs.Common.{◌≡◌, drop}
use Rattle.uz_hex.specs.Numbers.{all_digits}
use Rattle.uz_hex.proofs.decimals.are_digits.Given as goal

-- what is left answers for all
abbrev pub invariant-loop-b : goal.invariant-loop-b
invariant-loop-b l = all_digits (drop l.b-index l.word) ≡ all_digits l.word

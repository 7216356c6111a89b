use Rattle.std.proofs.Common.{◌≡◌, ◌<◌, ◌^◌, drop}
use Rattle.avr_text.specs.Numbers.{goes_on_to}
use Rattle.avr_text.proofs.numbers.read_digits.Given as goal

-- what is left goes on to what all of it is
abbrev pub invariant-loop-b : goal.invariant-loop-b
invariant-loop-b l = record {
  small : l.number < 2 ^ 80;
  left : goes_on_to l.base l.number (drop l.b-index l.digits) ≡ goes_on_to l.base 0 l.digits;
}

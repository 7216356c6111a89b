use Rattle.std.proofs.Common.{arith}
use Rattle.std.proofs.lemmas.Int.{ints}
use Rattle.avr_text.proofs.Powers.{power_below, shifted_one}
use Rattle.avr_text.proofs.arithmetic.power_of_two.Goals as goal

pub overflow_cast-result-2 : goal.overflow_cast-result-2
overflow_cast-result-2 c = let below = power_below c.args.exponent c.requires in let is = shifted_one c.args.exponent c.requires in
    grind (arith, ints, below, is)

pub returns : goal.returns
returns c = let below = power_below c.args.exponent c.requires in let is = shifted_one c.args.exponent c.requires in
    omega (arith, ints, below, is)

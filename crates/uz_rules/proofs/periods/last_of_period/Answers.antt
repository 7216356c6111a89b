use Rattle.uz_rules.proofs.Common.{◌≤◌, ◌^◌, arith, pow_mono, nat_tests}
use Rattle.uz_rules.proofs.periods.last_of_period.Goals as goal

-- a period of so many counts has all of a box
pub returns-else-exponent-lt8 : goal.returns-else-exponent-lt8
returns-else-exponent-lt8 c =
    let long = c.if-exponent-lt8.false in
    let least : 8 ≤ c.args.exponent = grind (arith, nat_tests) in
    let many : 2 ^ 8 ≤ 2 ^ c.args.exponent = pow_mono least in
    let fits = c.ranges.last.fits in
    omega (arith, many, fits)

use Rattle.uz_range.proofs.LeftLies.{carry_lies, zero_lies, sign_lies, itself}
use Rattle.uz_range.proofs.differences.narrowed.Goals as goal

pub returns-then-flag-eq0-clause-inside : goal.returns-then-flag-eq0-clause-inside
returns-then-flag-eq0-clause-inside c la lb = rw c.by_carry.ensures (carry_lies _ _ _ la lb)

pub returns-then-flag-eq1-clause-inside : goal.returns-then-flag-eq1-clause-inside
returns-then-flag-eq1-clause-inside c la lb = rw c.by_zero.ensures (zero_lies _ _ _ la lb)

pub returns-then-flag-eq4-clause-inside : goal.returns-then-flag-eq4-clause-inside
returns-then-flag-eq4-clause-inside c la lb = rw c.by_sign.ensures (sign_lies c.args.half c.args.is_set c.args.a c.args.b)

pub returns-else-flag-eq4-clause-inside : goal.returns-else-flag-eq4-clause-inside
returns-else-flag-eq4-clause-inside c la lb = (itself _ la, itself _ lb)

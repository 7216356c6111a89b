use Rattle.std.proofs.Common.{arith}
use Rattle.uz_range.proofs.LeftLies.{between_lies, itself}
use Rattle.uz_range.proofs.results.by_bit.Goals as goal

pub returns-then-is_set-clause-inside : goal.returns-then-is_set-clause-inside
returns-then-is_set-clause-inside c l = rw c.between.ensures (between_lies _ _ _ (omega arith) (omega arith))

pub returns-else-is_set-clause-inside : goal.returns-else-is_set-clause-inside
returns-else-is_set-clause-inside c l = rw c.between-else-is_set.ensures (between_lies _ _ _ (omega arith) (omega arith))

pub returns-else-lo-bit-clause-inside : goal.returns-else-lo-bit-clause-inside
returns-else-lo-bit-clause-inside c l = itself _ l

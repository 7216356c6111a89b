use Rattle.uz_range.proofs.FlagsOfPairs.{pair_difference_keeps}
use Rattle.uz_range.proofs.narrowing.narrow_pair.Goals as goal

pub returns-clause-holds : goal.returns-clause-holds
returns-clause-holds c = rw c.narrow_pairs.ensures.row (pair_difference_keeps _ _ _ _)

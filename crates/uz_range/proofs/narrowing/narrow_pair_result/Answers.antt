use Rattle.std.proofs.Common.{rules}
use Rattle.uz_range.proofs.ResultsKeep.{pair_result_keeps, constant_result_keeps}
use Rattle.uz_range.proofs.narrowing.narrow_pair_result.Goals as goal

pub returns-clause-holds : goal.returns-clause-holds
returns-clause-holds c = rw c.narrow_result_pair.ensures.row (pair_result_keeps _ _ _ _ _ (search rules))

pub returns-clause-constant : goal.returns-clause-constant
returns-clause-constant c = rw c.narrow_result_pair.ensures.row (constant_result_keeps _ _ _ _ _)

use Rattle.uz_range.proofs.ResultsKeep.{value_keeps}
use Rattle.uz_range.proofs.narrowing.narrow_value.Goals as goal

pub returns-clause-holds : goal.returns-clause-holds
returns-clause-holds c = rw c.narrow_byte.ensures.row (value_keeps _ _ _ _)

use Rattle.uz_range.proofs.ResultsKeep.{bit_keeps}
use Rattle.uz_range.proofs.narrowing.narrow_bit.Goals as goal

pub returns-clause-holds : goal.returns-clause-holds
returns-clause-holds c = rw c.narrow_by_bit.ensures.row (λ x. bit_keeps _ _ _ x c.requires)

use Rattle.uz_range.proofs.FlagsOfBytes.{difference_keeps}
use Rattle.uz_range.proofs.narrowing.narrow.Goals as goal

pub returns-clause-holds : goal.returns-clause-holds
returns-clause-holds c = rw c.narrow_bytes.ensures.row (difference_keeps _ _ _ _)

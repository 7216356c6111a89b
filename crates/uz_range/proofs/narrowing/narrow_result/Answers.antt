use Rattle.std.proofs.Common.{rules}
use Rattle.uz_range.proofs.ResultsKeep.{byte_result_keeps}
use Rattle.uz_range.proofs.narrowing.narrow_result.Goals as goal

pub returns-clause-holds : goal.returns-clause-holds
returns-clause-holds c = rw c.narrow_result_byte.ensures.row (byte_result_keeps _ _ _ _ _ (search rules))

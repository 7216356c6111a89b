use Rattle.uz_range.proofs.PairsCover.{bld_covers}
use Rattle.uz_range.proofs.bits.bld.Goals as goal

pub returns-clause-holds : goal.returns-clause-holds
returns-clause-holds c = rw c.bld_by_rule.ensures (λ x k. bld_covers _ _ _ x k c.requires)

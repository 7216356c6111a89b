use Rattle.std.proofs.Common.{rules}
use Rattle.uz_range.proofs.PairsCover.{pair_sub_covers}
use Rattle.uz_range.proofs.pairs.pair_sub.Goals as goal

pub returns-clause-holds : goal.returns-clause-holds
returns-clause-holds c = rw c.pair_sub_by_rule.ensures (λ x w h. pair_sub_covers _ _ x w (search rules) h)

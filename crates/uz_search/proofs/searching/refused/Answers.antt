use Rattle.uz_search.proofs.Common.{subst, StopHolds}
use Rattle.uz_search.proofs.searching.refused.Goals as goal

pub returns-in-Ok-Ok : goal.returns-in-Ok-Ok
returns-in-Ok-Ok c = λ image p limit x tree at holds.
    let split = subst (StopHolds image p c.args.nodes.now x) c.in-Split.is holds in (
      split.0,
      x,
      c.in-Ok-Ok.ensures.trail image p split.0 tree.are split.1,
      c.in-Ok-Ok.ensures'.trail image p x tree.are at,
      split.2,
    )

use Rattle.uz_join.proofs.Common.{arith, common_steps}
use Rattle.uz_join.proofs.OldFacts.{old_facts_more}
use Rattle.uz_join.proofs.points.old_facts.Goals as goal

pub loop-r-preserved : goal.loop-r-preserved
loop-r-preserved c =
    let more = old_facts_more 0 c.loop-r.r in
    record {
      count = grind (arith, common_steps);
      first = grind (arith, common_steps, more);
    }

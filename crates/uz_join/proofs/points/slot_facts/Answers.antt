use Rattle.uz_join.proofs.Common.{arith, common_steps, IsOrderedVal}
use Rattle.uz_join.proofs.EachLemmas.{each_more, each_all}
use Rattle.uz_join.proofs.points.slot_facts.Goals as goal

pub loop-slot-preserved : goal.loop-slot-preserved
loop-slot-preserved c = record {
  count = grind (arith, common_steps);
  ordered = each_more IsOrderedVal c.as_slice-slot-items.result.now c.args.slots.now.items c.loop-slot.slot-index c.slot-item.result
      c.as_slice-slot-items.ensures.value (omega (arith, c.loop-slot-test.true)) c.slot-item.is c.loop-slot.invariant.ordered
      c.fact_of.ensures.ordered;
  first = grind (arith, common_steps);
}

pub returns-clause-ordered : goal.returns-clause-ordered
returns-clause-ordered c = each_all IsOrderedVal c.as_slice-slot-items.result.now c.args.slots.now.items c.loop-slot.slot-index
    c.as_slice-slot-items.ensures.value (omega (arith, c.loop-slot-test.false)) c.loop-slot.invariant.ordered

use Rattle.uz_join.proofs.Common.{arith, common_steps, RangeFits}
use Rattle.uz_join.proofs.EachLemmas.{each_more, each_all}
use Rattle.uz_join.proofs.points.cell_facts.Goals as goal

pub loop-range-preserved : goal.loop-range-preserved
loop-range-preserved c = record {
  count = grind (arith, common_steps);
  ordered = each_more (RangeFits 255) c.as_slice-range-items.result.now c.args.cells.now.items c.loop-range.range-index c.range-item.result
      c.as_slice-range-items.ensures.value (omega (arith, c.loop-range-test.true)) c.range-item.is c.loop-range.invariant.ordered
      c.byte_fact.ensures.ordered;
  first = grind (arith, common_steps);
}

pub returns-clause-ordered : goal.returns-clause-ordered
returns-clause-ordered c = each_all (RangeFits 255) c.as_slice-range-items.result.now c.args.cells.now.items c.loop-range.range-index
    c.as_slice-range-items.ensures.value (omega (arith, c.loop-range-test.false)) c.loop-range.invariant.ordered

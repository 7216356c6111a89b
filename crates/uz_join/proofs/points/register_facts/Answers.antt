use Rattle.uz_join.proofs.Common.{arith, refl, subst, sym, common_steps, IsOrderedVal}
use Rattle.uz_join.proofs.EachLemmas.{each_more, each_all}
use Rattle.uz_join.proofs.points.register_facts.Goals as goal

pub loop-r-preserved : goal.loop-r-preserved
loop-r-preserved c = record {
  count = grind (arith, common_steps);
  ordered = each_more IsOrderedVal c.args.regs.now c.args.regs.now c.loop-r.r c.index-regs-r.result refl
      (omega (arith, c.loop-r-test.true, c.type_inv.regs)) c.index-regs-r.is c.loop-r.invariant.ordered
      (subst IsOrderedVal (sym c.index-regs-r.is) c.fact_of.ensures.ordered);
  first = grind (arith, common_steps);
}

pub returns-clause-ordered : goal.returns-clause-ordered
returns-clause-ordered c = each_all IsOrderedVal c.args.regs.now c.args.regs.now c.loop-r.r refl
    (omega (arith, c.loop-r-test.false, c.type_inv.regs)) c.loop-r.invariant.ordered

use Rattle.std.proofs.Common.{arith}
use Rattle.uz_explanations.proofs.Keeping.{none_next, none_over}
use Rattle.uz_explanations.proofs.blocks.most_parts.Goals as goal

pub loop-x-preserved : goal.loop-x-preserved
loop-x-preserved g c = none_next g.P.Parts.class c.args.here.now c.loop-x.x-index c.x-item.result c.loop-x.most c.count.result
    c.greater-most.result c.loop-x-test.true c.x-item.is c.count.ensures c.greater-most.ensures.first c.greater-most.ensures.second
    c.loop-x.invariant

pub returns : goal.returns
returns g c = none_over g.P.Parts.class c.args.here.now c.loop-x.x-index c.loop-x.most (omega (arith, c.loop-x-test.false)) c.loop-x.invariant

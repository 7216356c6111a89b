use Rattle.std.proofs.Common.{arith}
use Rattle.uz_join.proofs.PutLemmas.{all_passed}
use Rattle.uz_join.proofs.replacing.join_by.Goals as goal

pub returns : goal.returns
returns c = all_passed c.args.points.items c.loop-i.i c.loop-i.replacing (grind (arith, c.requires, c.loop-i-test.false, c.loop-i.auto.i-end))
    c.loop-i.invariant

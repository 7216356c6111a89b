use Rattle.uz_join.proofs.Common.{arith, val_of}
use Rattle.uz_join.proofs.CoverageLemmas.{map_is}
use Rattle.uz_join.proofs.facts_at.say_each.Goals as goal

pub returns : goal.returns
returns c =
    let past = c.loop-i-test.false in
    λ t. map_is (val_of c.args.line c.args.count) c.args.facts.now c.args.vals.now c.requires
    (λ k d e within. c.loop-i.invariant k d e (omega arith))

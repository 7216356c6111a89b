use Rattle.uz_join.proofs.Common.{arith, val_of}
use Rattle.uz_join.proofs.SameFacts.{map_same}
use Rattle.uz_join.proofs.facts_at.say_same_each.Goals as goal

pub returns : goal.returns
returns c =
    let past = c.loop-i-test.false in
    λ t. map_same (val_of c.args.line c.args.of_a) (val_of c.args.line c.args.of_b) c.args.a.now c.args.b.now c.requires
    (λ k d within. c.loop-i.invariant k d (omega arith))

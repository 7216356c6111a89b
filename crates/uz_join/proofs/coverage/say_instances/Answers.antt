use Rattle.uz_join.proofs.Common.{ℕ, subst, IfSome, Vec, AreSaid}
use Rattle.std.specs.declared.alloc.Global.{Global}
use Rattle.uz_join.proofs.CoverageLemmas.{says_all}
use Rattle.uz_join.proofs.coverage.say_instances.Goals as goal

pub returns : goal.returns
returns c =
    let said = subst (λ o. IfSome o (λ (counts : Vec ℕ Global). AreSaid c.args.points.now c.args.numbers.now counts.items c.args.nodes.now))
    c.in-Some.is c.in_ok-counts.ensures in
    λ same. says_all c.args.points.now c.args.numbers.now c.in-Some.counts.items c.args.nodes.now said (c.has_all.ensures same)

use Rattle.uz_explanations.specs.Beginnings.{common}
use Rattle.uz_explanations.specs.Ways.{same_instance}
use Rattle.uz_explanations.proofs.SharedLemmas.{ends_here, goes_on}
use Rattle.uz_explanations.proofs.ways.shared.Goals as goal

pub returns-then-ne : goal.returns-then-ne
returns-then-ne c = ends_here same_instance c.args.first.now c.args.second.now c.loop-k.k
    (common same_instance c.args.first.now c.args.second.now) c.index-first-k.result c.in-Some.y.now c.ne.result c.loop-k-test.true
    c.index-first-k.is c.in-Some.ensures.lookup.3.0 c.in-Some.ensures.lookup.1 c.ne.ensures c.loop-k.invariant c.if-ne.true

pub loop-k-preserved : goal.loop-k-preserved
loop-k-preserved c = goes_on same_instance c.args.first.now c.args.second.now c.loop-k.k
    (common same_instance c.args.first.now c.args.second.now) c.index-first-k.result c.in-Some.y.now c.ne.result c.loop-k-test.true
    c.index-first-k.is c.in-Some.ensures.lookup.3.0 c.in-Some.ensures.lookup.1 c.ne.ensures c.loop-k.invariant c.if-ne.false

use Rattle.uz_join.proofs.Common.{refl, IsSaidBack}
use Rattle.uz_join.proofs.CoverageLemmas.{one_more_count}
use Rattle.uz_join.proofs.coverage.Coverage.has_counts.Goals as goal

pub loop-count-preserved : goal.loop-count-preserved
loop-count-preserved c =
    one_more_count (λ j. IsSaidBack c.args.self.now.nodes c.args.point.now c.args.line j) c.args.point.now.c0 c.loop-count.count
    c.loop-count.invariant (c.if-not-is_noted.ensures refl c.args.point.now c.requires)

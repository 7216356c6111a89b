use Rattle.uz_join.proofs.Common.{refl, IsSaidBack}
use Rattle.uz_join.proofs.CoverageLemmas.{one_more_line}
use Rattle.uz_join.proofs.coverage.Coverage.has_lines.Goals as goal

pub loop-line-preserved : goal.loop-line-preserved
loop-line-preserved c =
    one_more_line (λ j k. IsSaidBack c.args.self.now.nodes c.args.point.now j k) c.args.point.now.l0 c.args.point.now.c0 c.args.point.now.c1
    c.loop-line.line c.loop-line.invariant (c.if-not-has_counts.ensures refl)

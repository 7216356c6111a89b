use Rattle.uz_join.proofs.Common.{refl, IsTold}
use Rattle.uz_join.proofs.CoverageLemmas.{one_more_line}
use Rattle.uz_join.proofs.sameness.is_wholly_told.Goals as goal

pub loop-line-preserved : goal.loop-line-preserved
loop-line-preserved c =
    one_more_line (λ j k. IsTold c.args.others.now c.args.point.now j k) c.args.point.now.l0 c.args.point.now.c0 c.args.point.now.c1
    c.loop-line.line c.loop-line.invariant (c.if-not-counts_told.ensures refl)

use Rattle.uz_join.proofs.SameFacts.{same_through}
use Rattle.uz_join.proofs.joining.join_both.Goals as goal

pub returns-clause-same : goal.returns-clause-same
returns-clause-same c =
    same_through c.args.points.items c.in_ok-lines.lines.points.items c.in_ok-counts.counts.points.items c.in_ok-lines.ensures.same
    c.in_ok-counts.ensures.same

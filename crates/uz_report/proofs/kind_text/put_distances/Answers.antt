use Rattle.std.proofs.Common.{◌∙◌, arith}
use Rattle.uz_report.proofs.Tallies.{lines_more}
use Rattle.uz_report.proofs.kind_text.put_distances.Goals as goal

pub loop-distance-preserved : goal.loop-distance-preserved
loop-distance-preserved c =
    lines_more c.args.all.now c.args.text.now.items c.loop-distance.text.items c.put_distance.new.text.items c.loop-distance.distance _
    c.loop-distance.invariant c.in_ok-put_distance.ensures
    ((rw c.as_slice.ensures.value at c.count_at.ensures) ∙ c.in_ok-counts.ensures.times c.loop-distance.distance (omega arith))

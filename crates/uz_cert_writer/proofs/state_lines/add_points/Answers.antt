use Rattle.uz_cert_writer.proofs.{Common.arith, Common.point_words, Steps.line_added, Steps.lines_over}
use Rattle.uz_cert_writer.proofs.state_lines.add_points.Goals as goal

pub loop-point-preserved : goal.loop-point-preserved
loop-point-preserved c = line_added (point_words c.args.cells.now) c.loop-point.text.items c.add_point.new.text.items _ c.args.points.now
    c.loop-point.point-index c.point-item.result c.point-item.result c.loop-point-test.true c.point-item.is c.in_ok-add_point.ensures
    c.loop-point.invariant

pub returns : goal.returns
returns c = lines_over (point_words c.args.cells.now) _ _ c.args.points.now c.loop-point.point-index
    (omega (arith, c.loop-point-test.false)) c.loop-point.invariant

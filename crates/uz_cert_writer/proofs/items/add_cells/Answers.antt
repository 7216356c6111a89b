use Rattle.uz_cert_writer.proofs.{Common.drop, Common.arith, Steps.cell_taken, Steps.cells_over}
use Rattle.uz_cert_writer.proofs.items.add_cells.Goals as goal

pub loop-number-preserved : goal.loop-number-preserved
loop-number-preserved c = cell_taken c.loop-number.text.items c.add_tracked.new.text.items _ c.args.kind c.loop-number.number
    c.index-cells-number.result c.args.cells.now (drop c.loop-number.next c.args.facts.now) (drop c.in_ok-next.next c.args.facts.now)
    c.loop-number-test.true c.index-cells-number.is c.in_ok-next.ensures c.loop-number.invariant

pub returns : goal.returns
returns c = cells_over _ _ c.args.kind c.loop-number.number c.args.cells.now (drop c.loop-number.next c.args.facts.now)
    (omega (arith, c.loop-number-test.false)) c.loop-number.invariant

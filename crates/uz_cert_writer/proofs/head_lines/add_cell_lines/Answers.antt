use Rattle.uz_cert_writer.proofs.{Common.arith, Common.cell_words, Steps.line_added, Steps.lines_over}
use Rattle.uz_cert_writer.proofs.head_lines.add_cell_lines.Goals as goal

pub loop-cell-preserved : goal.loop-cell-preserved
loop-cell-preserved c = line_added cell_words c.loop-cell.text.items c.add_cell_line.new.text.items _ c.args.cells.now
    c.loop-cell.cell-index c.cell-item.result c.cell-item.result c.loop-cell-test.true c.cell-item.is c.in_ok-add_cell_line.ensures
    c.loop-cell.invariant

pub returns : goal.returns
returns c = lines_over cell_words _ _ c.args.cells.now c.loop-cell.cell-index (omega (arith, c.loop-cell-test.false))
    c.loop-cell.invariant

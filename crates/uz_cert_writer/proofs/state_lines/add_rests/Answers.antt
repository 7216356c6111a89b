use Rattle.uz_cert_writer.proofs.{Common.arith, Common.rest_words, Steps.line_added, Steps.lines_over}
use Rattle.uz_cert_writer.proofs.state_lines.add_rests.Goals as goal

pub loop-rest-preserved : goal.loop-rest-preserved
loop-rest-preserved c = line_added rest_words c.loop-rest.text.items c.add_rest.new.text.items _ c.args.rests.now
    c.loop-rest.rest-index c.rest-item.result c.rest-item.result c.loop-rest-test.true c.rest-item.is c.in_ok-add_rest.ensures
    c.loop-rest.invariant

pub returns : goal.returns
returns c = lines_over rest_words _ _ c.args.rests.now c.loop-rest.rest-index (omega (arith, c.loop-rest-test.false))
    c.loop-rest.invariant

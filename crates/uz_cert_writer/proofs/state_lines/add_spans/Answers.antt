use Rattle.uz_cert_writer.proofs.{Common.ends_word, Steps.word_added}
use Rattle.uz_cert_writer.proofs.state_lines.add_spans.Goals as goal

pub loop-span-preserved : goal.loop-span-preserved
loop-span-preserved c = word_added (ends_word 255) c.loop-span.text.items c.add_byte.new.text.items c.add_span.new.text.items _
    c.args.spans.now c.loop-span.span-index c.span-item.result c.loop-span-test.true c.span-item.is c.in_ok-add_byte.ensures
    c.in_ok-add_span.ensures c.loop-span.invariant

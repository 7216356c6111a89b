use Rattle.uz_cert_writer.proofs.{Common.arith, Common.refl, Common.event_words, Steps.line_added, Steps.lines_over}
use Rattle.uz_cert_writer.proofs.schedule_lines.add_events.Goals as goal

pub loop-event-preserved : goal.loop-event-preserved
loop-event-preserved c = line_added event_words c.loop-event.text.items c.add_event.new.text.items _ c.args.events.now
    c.loop-event.event-index _ _ c.loop-event-test.true refl c.in_ok-add_event.ensures c.loop-event.invariant

pub returns : goal.returns
returns c = lines_over event_words _ _ c.args.events.now c.loop-event.event-index (omega (arith, c.loop-event-test.false))
    c.loop-event.invariant

use Rattle.uz_cert_writer.proofs.Common.{◌≡◌, ◌++◌, drop, map, ended, line_of, event_words}
use Rattle.uz_cert_writer.proofs.schedule_lines.add_events.Given as goal

-- what is written, and what is left
abbrev pub invariant-loop-event : goal.invariant-loop-event
invariant-loop-event l =
    l.text.items ++ ended (map (λ e. line_of (event_words e)) (drop l.event-index l.events))
    ≡ l.initial.text.items ++ ended (map (λ e. line_of (event_words e)) l.events)

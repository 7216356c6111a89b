use Rattle.uz_debug.proofs.timeline.Timeline.run_to.Goals as goal

pub returns-clause-run : goal.returns-clause-run
returns-clause-run c = λ start h. let r = c.run_console-turn.ensures.run start h.here in
    (record { here = r.0; first = h.first; saves = h.saves }, r.1)

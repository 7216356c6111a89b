use Rattle.uz_debug.proofs.debugger.Debugger.place.Goals as goal

pub returns : goal.returns
returns c = λ start k.
    let at = c.console-console.ensures.stands start k.timeline in
    (c.turn.ensures.turn, at.0, at.1, c.clock.ensures.stands at.0 at.2, c.pc.ensures.stands at.0 at.2)

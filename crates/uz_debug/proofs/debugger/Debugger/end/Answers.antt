use Rattle.std.proofs.Common.{subst, sym}
use Rattle.uz_debug.specs.declared.run.Halt.{Halt}
use Rattle.uz_debug.specs.declared.command.Reply.TheVariants as reply
use Rattle.uz_debug.specs.Checkpoints.{turn_of}
use Rattle.uz_debug.specs.Debuggers.{TellsHalt}
use Rattle.uz_debug.proofs.DebuggerLemmas.{no_turn_there}
use Rattle.uz_debug.proofs.debugger.Debugger.end.Goals as goal

pub returns-in-Goal : goal.returns-in-Goal
returns-in-Goal c = λ start k. subst (λ (h : Halt). TellsHalt start (turn_of c.args.self.now.timeline) h c.place.result) (sym c.in-Goal.is)
    (c.place.ensures start k)

pub returns-in-Breakpoint : goal.returns-in-Breakpoint
returns-in-Breakpoint c = λ start k. subst (λ (h : Halt). TellsHalt start (turn_of c.args.self.now.timeline) h c.place-in-Breakpoint.result)
    (sym c.in-Breakpoint.is) (c.place-in-Breakpoint.ensures start k)

pub returns-in-Stuck : goal.returns-in-Stuck
returns-in-Stuck c = λ start k.
    let at = c.console-console.ensures.stands start k.timeline in
    subst (λ (h : Halt). TellsHalt start (turn_of c.args.self.now.timeline) h (reply.Stopped c.turn.result c.pc.result c.word.result))
    (sym c.in-Stuck.is)
    (λ stuck. (
      c.turn.ensures.turn,
      at.0,
      at.1,
      no_turn_there start (turn_of c.args.self.now.timeline) at.0 at.1 stuck,
      c.pc.ensures.stands at.0 at.2,
      c.word.ensures.stands at.0 at.2,
    ))

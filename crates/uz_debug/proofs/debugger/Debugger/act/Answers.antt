use Rattle.uz_debug.specs.Sessions.{session_at_reset}
use Rattle.uz_debug.specs.Debuggers.{session_of}
use Rattle.uz_debug.proofs.DebuggerLemmas.{acts_push}
use Rattle.uz_debug.proofs.debugger.Debugger.act.Goals as goal

pub returns-clause-acts : goal.returns-clause-acts
returns-clause-acts c = λ start done h. (c.reply.ensures start h.keeps).0

pub returns-clause-session : goal.returns-clause-session
returns-clause-session c = λ start done h.
    let r = c.reply.ensures start h.keeps in
    record {
      session = acts_push start session_at_reset (session_of c.args.self.now) (session_of c.reply.new.self) done
          (c.args.command, c.reply.result) h.session r.0;
      keeps = r.1;
    }

use Rattle.std.proofs.Common.{sym, ap, subst}
use Rattle.uz_debug.specs.Sessions.{GoesToSlot, TellsPlace, at_turn}
use Rattle.uz_debug.specs.Debuggers.{Keeps, session_of}
use Rattle.uz_debug.proofs.debugger.Debugger.load.Goals as goal

pub returns-in-Some : goal.returns-in-Some
returns-in-Some c = λ start k.
    let there = k.slots c.args.slot c.in-Some.turn (sym c.in-Some.ensures.turn) in
    let r = c.go_to.ensures start k.timeline there in
    let keeps : Keeps start (record c.args.self.now { timeline = c.go_to.new.self }) = record { timeline = r.0; slots = k.slots } in (
      subst (λ o. GoesToSlot start o (session_of c.args.self.now) c.place.result
          (session_of (record c.args.self.now { timeline = c.go_to.new.self }))) c.in-Some.ensures.turn (
            subst (λ n. TellsPlace start n c.place.result) r.1 (c.place.ensures start keeps),
            ap (λ n. at_turn n (session_of c.args.self.now)) r.1,
          ),
      keeps,
    )

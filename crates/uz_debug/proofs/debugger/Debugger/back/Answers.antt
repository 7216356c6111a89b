use Rattle.std.proofs.Common.{◌≡◌, ◌-◌, ◌≤◌, ◌∙◌, ap, subst, arith, nat_le}
use Rattle.uz_debug.specs.Checkpoints.{turn_of}
use Rattle.uz_debug.specs.Sessions.{TellsPlace, at_turn}
use Rattle.uz_debug.specs.Debuggers.{Keeps, session_of}
use Rattle.uz_debug.proofs.RunLemmas.{has_state}
use Rattle.uz_debug.proofs.DebuggerLemmas.{match_true, not_far}
use Rattle.uz_debug.proofs.debugger.Debugger.back.Goals as goal

pub returns : goal.returns
returns c = λ start k.
    let from = turn_of c.args.self.now.timeline in
    let enough : c.args.count ≤ from = omega (arith, c.if-count-turn.false, c.turn.ensures.turn) in
    let here = k.timeline.here in
    let there = has_state start (c.turn-2.result - c.args.count) from here.0 (omega (arith, c.turn-2.ensures.turn)) here.1 in
    let r = c.go_to.ensures start k.timeline there in
    let at : turn_of c.go_to.new.self ≡ from - c.args.count = r.1 ∙ ap (λ n. n - c.args.count) c.turn-2.ensures.turn in
    let keeps : Keeps start (record c.args.self.now { timeline = c.go_to.new.self }) = record { timeline = r.0; slots = k.slots } in (
      match_true _ (nat_le c.args.count from) (not_far c.args.count from enough) (
        subst (λ n. TellsPlace start n c.place.result) at (c.place.ensures start keeps),
        ap (λ n. at_turn n (session_of c.args.self.now)) at,
      ),
      keeps,
    )

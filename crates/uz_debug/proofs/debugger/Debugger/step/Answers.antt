use Rattle.std.proofs.Common.{◌≡◌, ◌+◌, ◌≤◌, refl, ap, subst, arith, nat_le}
use Rattle.std.specs.FinSet as set
use Rattle.uz_debug.specs.Checkpoints.{turn_of}
use Rattle.uz_debug.specs.Sessions.{last_turn}
use Rattle.uz_debug.specs.Timelines.{IsHalt}
use Rattle.uz_debug.specs.Debuggers.{Keeps}
use Rattle.uz_debug.proofs.DebuggerLemmas.{match_true, in_limit, ends_run, tells_run}
use Rattle.uz_debug.proofs.debugger.Debugger.step.Goals as goal

pub returns : goal.returns
returns c = λ start k.
    let from = turn_of c.args.self.now.timeline in
    let at = turn_of c.go_on-halt.new.self in
    let goal_is : c.turn.result + c.args.count ≡ from + c.args.count = ap (λ n. n + c.args.count) c.turn.ensures.turn in
    let within : from + c.args.count ≤ 100000000 = omega (arith, c.if-goal-gt-LAST_TURN.false, c.turn.ensures.turn) in
    let r = c.go_on-halt.ensures start k.timeline in
    let h = subst (λ n. IsHalt start set.empty from n at c.go_on-halt.result) goal_is r.1 in
    let keeps : Keeps start (record c.args.self.now { timeline = c.go_on-halt.new.self }) = record { timeline = r.0; slots = k.slots } in (
      match_true _ (nat_le (from + c.args.count) last_turn) (in_limit (from + c.args.count) within) (
        at,
        ends_run start set.empty from c.args.count at c.go_on-halt.result h,
        tells_run start set.empty from c.args.count at c.go_on-halt.result c.end.result h (c.end.ensures start keeps),
        refl,
      ),
      keeps,
    )

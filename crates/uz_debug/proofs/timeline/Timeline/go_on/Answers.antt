use Rattle.std.proofs.Common.{◌≡◌, ◌<◌, subst, sym, arith}
use Rattle.uz_debug.specs.Checkpoints.{turn_of}
use Rattle.uz_debug.specs.Timelines.{Passed, stops_of}
use Rattle.uz_debug.proofs.RunLemmas.{passed_on, broken_on}
use Rattle.uz_debug.proofs.timeline.Timeline.go_on.Goals as goal

pub loop-self-smaller : goal.loop-self-smaller
loop-self-smaller c =
    let there : turn_of c.run_to.new.self ≡ c.next_goal.result = c.run_to.ensures.goal c.in-Goal.is in
    let turn : turn_of c.keep_on_way.new.self ≡ turn_of c.run_to.new.self = c.keep_on_way.ensures.turn in
    omega arith

pub loop-self-preserved : goal.loop-self-preserved
loop-self-preserved c =
    let turn : turn_of c.keep_on_way.new.self ≡ turn_of c.run_to.new.self = c.keep_on_way.ensures.turn in
    record {
      run = λ start h.
          let k = c.loop-self.invariant.run start h in
          let r = c.in-Goal.ensures.run start k.0 in (
            c.keep_on_way.ensures.keeps start r.0,
            subst (Passed start (stops_of c.args.stops) (turn_of c.args.self.now)) (sym turn)
                (passed_on start (stops_of c.args.stops) (turn_of c.args.self.now) (turn_of c.loop-self.self) (turn_of c.run_to.new.self)
                k.1 r.1.1),
          );
      within = omega arith;
      onward = omega arith;
    }

pub returns-in-Breakpoint : goal.returns-in-Breakpoint
returns-in-Breakpoint c = λ start h.
    let k = c.loop-self.invariant.run start h in
    let r = c.in-Breakpoint.ensures.run start k.0 in (
      r.0,
      (
        omega arith,
        broken_on start (stops_of c.args.stops) (turn_of c.args.self.now) (turn_of c.loop-self.self)
            (turn_of c.run_to.new.self) k.1 r.1.1,
      ),
    )

pub returns-in-Stuck : goal.returns-in-Stuck
returns-in-Stuck c = λ start h.
    let k = c.loop-self.invariant.run start h in
    let r = c.in-Stuck.ensures.run start k.0 in
    let before : turn_of c.run_to.new.self < c.next_goal.result = r.1.0 in (
      r.0,
      (
        omega arith,
        passed_on start (stops_of c.args.stops) (turn_of c.args.self.now) (turn_of c.loop-self.self)
            (turn_of c.run_to.new.self) k.1 r.1.1,
        r.1.2,
      ),
    )

pub returns : goal.returns
returns c = λ start h. let k = c.loop-self.invariant.run start h in (k.0, (omega arith, k.1))

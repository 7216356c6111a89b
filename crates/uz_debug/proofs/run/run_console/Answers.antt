use Rattle.std.proofs.Common.{◌≡◌, ◌*◌, ◌≤◌, false, arith, sym, ◌∙◌}
use Rattle.std.specs.Prelude.{is_some}
use Rattle.uz_console.specs.Consoles.{clock_of}
use Rattle.uz_debug.specs.Timelines.{stops_of}
use Rattle.uz_debug.proofs.RunLemmas.{took, took_time, run_stuck, run_breaks, run_goes}
use Rattle.uz_debug.proofs.run.run_console.Goals as goal

pub returns-then-is_some-clause-run : goal.returns-then-is_some-clause-run
returns-then-is_some-clause-run c = λ start at.
    let h = c.loop-turn.invariant.run start at in
    run_stuck start (stops_of c.args.stops) c.args.from c.args.goal c.loop-turn.turn c.loop-turn.console c.pass_turn.new.self
    c.pass_turn.result (sym c.is_some.ensures ∙ c.if-is_some.true) c.pass_turn.ensures.turn (omega arith) h.0 h.1

pub returns-then-stops_at-clause-run : goal.returns-then-stops_at-clause-run
returns-then-stops_at-clause-run c = λ start at.
    let h = c.loop-turn.invariant.run start at in
    run_breaks start (stops_of c.args.stops) c.args.from c.args.goal c.loop-turn.turn c.loop-turn.console c.pass_turn.new.self
    (took c.loop-turn.console c.pass_turn.new.self c.pass_turn.result (sym c.is_some.ensures ∙ c.if-is_some.false) c.pass_turn.ensures.turn)
    (omega arith) h.0 h.1 c.stops_at.result c.if-stops_at.true (c.stops_at.ensures start)

pub loop-turn-preserved : goal.loop-turn-preserved
loop-turn-preserved c =
    let none : is_some c.pass_turn.result ≡ false = sym c.is_some.ensures ∙ c.if-is_some.false in
    let time = took_time c.loop-turn.console c.pass_turn.new.self c.pass_turn.result none c.pass_turn.ensures.time in
    let before : clock_of c.loop-turn.console ≤ 5 * c.loop-turn.turn = c.loop-turn.invariant.clock in
    record {
      run = λ start at.
          let h = c.loop-turn.invariant.run start at in
          run_goes start (stops_of c.args.stops) c.args.from c.loop-turn.turn c.loop-turn.console c.pass_turn.new.self
          (took c.loop-turn.console c.pass_turn.new.self c.pass_turn.result none c.pass_turn.ensures.turn) h.0 h.1 c.stops_at.result
          c.if-stops_at.false (c.stops_at.ensures start);
      clock = omega arith;
      within = omega arith;
      onward = omega arith;
    }

pub returns-clause-run : goal.returns-clause-run
returns-clause-run c = λ start at.
    let h = c.loop-turn.invariant.run start at in
    let there : c.loop-turn.turn ≡ c.args.goal = omega arith in
    (h.0, (there, h.1))

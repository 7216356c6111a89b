use Rattle.std.proofs.Common.{◌<◌, ◌≤◌, ◌≢◌, ◌∙◌, ◌^◌, arith}
use Rattle.uz_console.specs.Consoles.{clock_of, state_of}
use Rattle.uz_console.proofs.ManyTurns.{leads_further, leads_nowhere, leads_on, stays_low}
use Rattle.uz_console.proofs.console.Console.make_turns.Goals as goal

pub turns-init : goal.turns-init
turns-init c = record {
  quiet = leads_nowhere c.args.limit c.args.watched c.args.self.now;
  clock = omega arith;
}

pub make-requires : goal.make-requires
make-requires c = stays_low c.args.limit c.args.watched (2 ^ 62) c.turns.self c.run_internal.new.self c.run_internal.ensures
    c.requires.limit c.turns.invariant.clock

pub turns-preserved : goal.turns-preserved
turns-preserved c =
    let on : clock_of c.run_internal.new.self < clock_of c.make.new.self = c.in-Quiet.ensures.time.0 in
    let within : clock_of c.make.new.self < c.args.limit = omega arith in
    let apart : (state_of c.make.new.self).core.pc ≢ c.args.watched = λ e. c.if-pc-watched.false (c.pc.ensures.own ∙ e) in
    record {
      quiet = leads_on c.args.limit c.args.watched c.args.self.now c.run_internal.new.self c.make.new.self
          (leads_further c.args.limit c.args.watched c.args.self.now c.turns.self c.run_internal.new.self c.turns.invariant.quiet
          c.run_internal.ensures)
          c.in-Quiet.ensures.turn on within apart;
      clock = omega arith;
    }

pub turns-smaller : goal.turns-smaller
turns-smaller c =
    let since : clock_of c.turns.self ≤ clock_of c.run_internal.new.self = (c.run_internal.ensures).time in
    let on : clock_of c.run_internal.new.self < clock_of c.make.new.self = c.in-Quiet.ensures.time.0 in
    let within : clock_of c.make.new.self < c.args.limit = omega arith in
    omega arith

pub returns-in-Edge : goal.returns-in-Edge
returns-in-Edge c = record {
  mid = c.run_internal.new.self;
  quiet = leads_further c.args.limit c.args.watched c.args.self.now c.turns.self c.run_internal.new.self c.turns.invariant.quiet
      c.run_internal.ensures;
  last = c.in-Edge.ensures.turn;
  some = tt;
  time = c.in-Edge.ensures.time;
}

pub returns-in-Edges : goal.returns-in-Edges
returns-in-Edges c = record {
  mid = c.run_internal.new.self;
  quiet = leads_further c.args.limit c.args.watched c.args.self.now c.turns.self c.run_internal.new.self c.turns.invariant.quiet
      c.run_internal.ensures;
  last = c.in-Edges.ensures.turn;
  some = c.in-Edges.ensures.some;
  time = c.in-Edges.ensures.time;
}

pub returns-in-Stopped : goal.returns-in-Stopped
returns-in-Stopped c = record {
  mid = c.run_internal.new.self;
  quiet = leads_further c.args.limit c.args.watched c.args.self.now c.turns.self c.run_internal.new.self c.turns.invariant.quiet
      c.run_internal.ensures;
  last = c.in-Stopped.ensures.turn;
  some = tt;
  time = c.in-Stopped.ensures.time;
}

pub returns-then-clock-limit : goal.returns-then-clock-limit
returns-then-clock-limit c = record {
  mid = c.run_internal.new.self;
  quiet = leads_further c.args.limit c.args.watched c.args.self.now c.turns.self c.run_internal.new.self c.turns.invariant.quiet
      c.run_internal.ensures;
  last = c.in-Quiet.ensures.turn;
  some = tt;
  time = c.in-Quiet.ensures.time;
}

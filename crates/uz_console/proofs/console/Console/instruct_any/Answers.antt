use Rattle.std.proofs.Common.{refl}
use Rattle.uz_ports.specs.Boards.{clock_of, content_of, held_of, space_of}
use Rattle.uz_console.proofs.TurnLemmas.{finished, stepped_quietly, stopped, without_edges}
use Rattle.uz_console.proofs.console.Console.instruct_any.Goals as goal

pub returns-then-not-returned-clause-instructed : goal.returns-then-not-returned-clause-instructed
returns-then-not-returned-clause-instructed c =
    stepped_quietly c.args.self.now c.step.new.cpu (content_of c.step.new.board) (held_of c.step.new.board) c.in-Took.clocks
    c.in-Took.owed c.in-Took.returned (space_of c.pass.new.self) (clock_of c.pass.new.self) c.in-Took.ensures
    (c.if-holds_nothing.ensures.0 refl) c.if-not-returned.true c.pass.ensures.space c.pass.ensures.clock

pub returns-then-is_empty-clause-instructed : goal.returns-then-is_empty-clause-instructed
returns-then-is_empty-clause-instructed c =
    without_edges c.args.self.now _ c.finish.new.edges.items c.if-is_empty.ensures
    (finished c.args.self.now c.step.new.cpu (content_of c.step.new.board) (held_of c.step.new.board) c.in-Took.clocks c.in-Took.owed
    c.in-Took.returned (space_of c.finish.new.board) (clock_of c.finish.new.board) c.finish.new.edges.items c.in-Took.ensures
    c.finish.ensures.space c.finish.ensures.clock c.finish.ensures.edges)

pub returns-else-is_empty-clause-instructed : goal.returns-else-is_empty-clause-instructed
returns-else-is_empty-clause-instructed c =
    finished c.args.self.now c.step.new.cpu (content_of c.step.new.board) (held_of c.step.new.board) c.in-Took.clocks c.in-Took.owed
    c.in-Took.returned (space_of c.finish.new.board) (clock_of c.finish.new.board) c.finish.new.edges.items c.in-Took.ensures
    c.finish.ensures.space c.finish.ensures.clock c.finish.ensures.edges

pub returns-in-Stopped-clause-instructed : goal.returns-in-Stopped-clause-instructed
returns-in-Stopped-clause-instructed c = (
  c.in-Stopped.ensures.0,
  stopped c.args.self.now c.step.new.cpu (content_of c.step.new.board) c.in-Stopped.ensures.1
      c.in-Stopped.ensures.2,
)

use Rattle.uz_console.proofs.ManyTurns.{one_made}
use Rattle.uz_console.proofs.console.Console.make_one.Goals as goal

pub returns-clause-turn : goal.returns-clause-turn
returns-clause-turn c = one_made _ c.args.self.now c.make_turns.new.self c.make_turns.new.edges.items c.make_turns.result
    c.make_turns.ensures

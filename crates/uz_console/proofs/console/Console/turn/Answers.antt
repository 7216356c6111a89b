use Rattle.std.proofs.Common.{[], ◌∷◌}
use Rattle.uz_console.proofs.TurnLemmas.{same_edges}
use Rattle.uz_console.proofs.console.Console.turn.Goals as goal

pub returns-in-Quiet-clause-turn : goal.returns-in-Quiet-clause-turn
returns-in-Quiet-clause-turn c = same_edges c.args.self.now c.make_one.new.self [] c.new.result.items c.new.ensures c.in-Quiet.ensures.turn

pub returns-in-Edge-clause-turn : goal.returns-in-Edge-clause-turn
returns-in-Edge-clause-turn c = same_edges c.args.self.now c.make_one.new.self (c.in-Edge.edge ∷ []) c.put.new.edges.items c.put.ensures
    c.in-Edge.ensures.turn

use Rattle.std.proofs.Common.{[], ◌∷◌}
use Rattle.uz_console.proofs.AdvanceLemmas.{reaches_by_turn, reaches_stop}
use Rattle.uz_console.proofs.TurnLemmas.{same_edges}
use Rattle.uz_console.proofs.console.Console.advance.Goals as goal

pub returns-in-Quiet-clause-run : goal.returns-in-Quiet-clause-run
returns-in-Quiet-clause-run c =
    let made = c.in-Quiet.ensures in
    reaches_by_turn c.args.until _ c.args.self.now made.mid c.make_turns.new.self c.clear.new.self.items made.quiet
    ((made.quiet).before c.requires.before)
    (same_edges made.mid c.make_turns.new.self [] c.clear.new.self.items c.clear.ensures made.last)

pub returns-in-Edge-clause-run : goal.returns-in-Edge-clause-run
returns-in-Edge-clause-run c =
    let made = c.in-Edge.ensures in
    reaches_by_turn c.args.until _ c.args.self.now made.mid c.make_turns.new.self c.put.new.edges.items made.quiet
    ((made.quiet).before c.requires.before)
    (same_edges made.mid c.make_turns.new.self (c.in-Edge.edge ∷ []) c.put.new.edges.items c.put.ensures made.last)

pub returns-in-Edges-clause-run : goal.returns-in-Edges-clause-run
returns-in-Edges-clause-run c =
    let made = c.in-Edges.ensures in
    reaches_by_turn c.args.until _ c.args.self.now made.mid c.make_turns.new.self c.make_turns.new.edges.items made.quiet
    ((made.quiet).before c.requires.before) made.last

pub returns-in-Stopped-clause-run : goal.returns-in-Stopped-clause-run
returns-in-Stopped-clause-run c =
    let made = c.in-Stopped.ensures in
    let stop = reaches_stop c.args.until _ c.args.self.now made.mid c.make_turns.new.self c.in-Stopped.why made.quiet
    ((made.quiet).before c.requires.before) made.last.0 made.last.1 in
    (c.clear-in-Stopped.ensures, stop.0, stop.1)

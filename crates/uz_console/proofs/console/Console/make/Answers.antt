use Rattle.std.proofs.Common.{sym, ◌∙◌}
use Rattle.uz_console.proofs.TurnLemmas.{entered, entered_time, entry_shows, instructed, instructed_time}
use Rattle.uz_console.proofs.console.Console.make.Goals as goal

pub returns-then-enters-clause-turn : goal.returns-then-enters-clause-turn
returns-then-enters-clause-turn c = entered c.args.self.now c.enter.new.self c.enter.new.edges.items (sym c.enters.ensures ∙ c.if-enters.true) c.enter.ensures.state
    c.enter.ensures.edges

pub returns-then-enters-clause-some : goal.returns-then-enters-clause-some
returns-then-enters-clause-some c = entry_shows c.args.self.now c.enter.new.edges.items c.enter.ensures.edges

pub returns-then-enters-clause-time : goal.returns-then-enters-clause-time
returns-then-enters-clause-time c = entered_time c.args.self.now c.enter.new.self c.enter.ensures.state

pub returns-else-enters-clause-turn : goal.returns-else-enters-clause-turn
returns-else-enters-clause-turn c = instructed c.args.self.now c.instruct.new.self c.instruct.new.edges.items c.instruct.result
    (sym c.enters.ensures ∙ c.if-enters.false) c.instruct.ensures.instructed

pub returns-else-enters-clause-some : goal.returns-else-enters-clause-some
returns-else-enters-clause-some c = c.instruct.ensures.some

pub returns-else-enters-clause-time : goal.returns-else-enters-clause-time
returns-else-enters-clause-time c = instructed_time c.args.self.now c.instruct.new.self c.instruct.new.edges.items c.instruct.result
    c.instruct.ensures.instructed

use Rattle.std.proofs.Common.{◌<◌, ◌∙◌, ◌++◌, List, drop, ap, sym, subst, refl}
use Rattle.uz_core.specs.declared.machine.Edge.{Edge}
use Rattle.uz_core.specs.PadLine.{PadHistory}
use Rattle.uz_core.specs.Turn.{State}
use Rattle.uz_console.specs.Consoles.{StandsFor, clock_of}
use Rattle.uz_console.specs.declared.console.Console.{Console}
use Rattle.uz_console.specs.Runs.{AreTimed}
use Rattle.uz_console.specs.Approaches.{RunsUnentered}
use Rattle.uz_player.proofs.PlayerLaws.{approach_enters, approach_over, approach_stopped, approach_turn, entered_kept, position_found}
use Rattle.uz_player.proofs.PlayerLaws.{edges_come, edges_are_nearer, turn_has_few}
use Rattle.uz_player.proofs.player.Player.approach.Goals as goal

pub returns-in-Took-clause-further : goal.returns-in-Took-clause-further
returns-in-Took-clause-further c =
    λ start handed none plays.
    let t = c.take_turn.ensures in
    let fits = (plays.played).fits in
    let left = ap (λ n. drop n c.take_turn.new.self.page.items) t.1 ∙ t.0 in
    let on : clock_of c.args.self.now.console < clock_of c.take_turn.new.self.console =
    subst (λ (x : Console). clock_of c.args.self.now.console < clock_of x) (sym t.3) (c.in-Took.ensures.time).0 in
    let run = λ (s : State PadHistory) (es : List Edge) (r : RunsUnentered c.args.self.now.cert c.args.self.now.limit s es
    c.args.self.now.console). subst (λ (x : Console). RunsUnentered c.args.self.now.cert c.args.self.now.limit s
    (es ++ c.in-Took.edges.items) x) (sym t.3) (c.in-Took.ensures.run fits s es r) in
    let timed = λ (s : State PadHistory) (st : StandsFor c.args.self.now.console s). subst
    (λ (x : Console). AreTimed (clock_of c.args.self.now.console) (clock_of x) c.in-Took.edges.items) (sym t.3)
    (c.in-Took.ensures.edges s st) in
    edges_come c.args.self.now c.take_turn.new.self c.in-Took.edges.items start handed none t.4 t.5 t.6 left
    (turn_has_few c.args.self.now.limit c.args.self.now.console c.take_turn.new.self.console c.in-Took.edges.items t.2 on
    (c.in-Took.ensures.time).1) (c.args.self.now).short
    (approach_turn c.args.self.now c.take_turn.new.self c.in-Took.edges.items start c.requires t.4 t.5 run timed) plays

pub returns-in-Entered-clause-further : goal.returns-in-Entered-clause-further
returns-in-Entered-clause-further c =
    λ start handed none plays.
    let fits = (plays.played).fits in
    approach_enters c.args.self.now _ start handed c.clock.result c.line_of-line.result c.in-Entered.position c.requires none none refl refl
    refl (entered_kept c.args.self.now.recorder _) refl (c.in-Entered.ensures.time).0 c.clock.ensures.clock
    (c.in-Entered.ensures.run fits) (c.line_of-line.ensures fits)
    (position_found c.args.self.now c.approach.new.self start handed c.in-Entered.position c.requires none (c.in-Entered.ensures.run fits)
    plays) plays

pub returns-in-Over-clause-further : goal.returns-in-Over-clause-further
returns-in-Over-clause-further c =
    λ none start handed plays.
    approach_over c.args.self.now _ start handed c.requires none none refl refl refl c.in-Over.ensures.time
    (c.in-Over.ensures.run (plays.played).fits) plays

pub returns-in-Stopped-clause-further : goal.returns-in-Stopped-clause-further
returns-in-Stopped-clause-further c =
    λ none start handed plays.
    approach_stopped c.args.self.now _ start handed _ _ c.in-Stopped.field-0 c.requires none none refl refl refl c.in-Stopped.ensures.time
    (λ s st. (c.pc.ensures.stands s st, c.word.ensures.stands s st)) (c.in-Stopped.ensures.run (plays.played).fits) plays

pub returns-in-Took-clause-nearer : goal.returns-in-Took-clause-nearer
returns-in-Took-clause-nearer c =
    λ none.
    let t = c.take_turn.ensures in
    let left = ap (λ n. drop n c.take_turn.new.self.page.items) t.1 ∙ t.0 in
    let on : clock_of c.args.self.now.console < clock_of c.take_turn.new.self.console =
    subst (λ (x : Console). clock_of c.args.self.now.console < clock_of x) (sym t.3) (c.in-Took.ensures.time).0 in
    edges_are_nearer c.args.self.now c.take_turn.new.self c.in-Took.edges.items left t.5
    (turn_has_few c.args.self.now.limit c.args.self.now.console c.take_turn.new.self.console c.in-Took.edges.items t.2 on
    (c.in-Took.ensures.time).1)

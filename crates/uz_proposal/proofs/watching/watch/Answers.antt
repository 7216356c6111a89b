use Rattle.std.proofs.Common.{arith, subst}
use Rattle.uz_core.specs.PadLine.{PadHistory}
use Rattle.uz_core.specs.Turn.{State}
use Rattle.uz_console.specs.Consoles.{StandsFor}
use Rattle.uz_proposal.specs.Windows.{IsSeen}
use Rattle.uz_proposal.proofs.WindowLemmas.{watched_more, watched_none, watched_over, watched_stop}
use Rattle.uz_proposal.proofs.watching.watch.Goals as goal

pub turns-init : goal.turns-init
turns-init c = λ s stands. watched_none c.args.limit c.args.handling s _ _ stands c.in_ok-window.ensures

pub turns-preserved : goal.turns-preserved
turns-preserved c = λ s stands.
    watched_more c.args.limit c.args.handling s c.turns.console c.watch_turn.new.console c.turns.window c.watch_turn.new.window
    (c.turns.invariant s stands) (omega arith)
    (subst (λ o. (t : State PadHistory) → StandsFor c.turns.console t → IsSeen t c.watch_turn.new.console c.turns.window
    c.watch_turn.new.window o) c.in-None.is c.in_ok-watch_turn.ensures.seen)

pub returns-in-Some : goal.returns-in-Some
returns-in-Some c = λ s stands.
    watched_stop c.args.limit c.args.handling s c.turns.console c.watch_turn.new.console c.turns.window c.watch_turn.new.window c.in-Some.why
    (c.turns.invariant s stands) (omega arith)
    (subst (λ o. (t : State PadHistory) → StandsFor c.turns.console t → IsSeen t c.watch_turn.new.console c.turns.window
    c.watch_turn.new.window o) c.in-Some.is c.in_ok-watch_turn.ensures.seen)

pub returns : goal.returns
returns c = λ s stands.
    watched_over c.args.limit c.args.handling s c.turns.console c.turns.window (c.turns.invariant s stands) (omega arith)

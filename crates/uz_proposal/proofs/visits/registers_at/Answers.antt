use Rattle.std.proofs.Common.{arith, subst}
use Rattle.uz_core.specs.PadLine.{PadHistory}
use Rattle.uz_core.specs.Turn.{State}
use Rattle.uz_console.specs.Consoles.{StandsFor}
use Rattle.uz_proposal.specs.Visits.{IsVisitTurn, is_visit}
use Rattle.uz_proposal.proofs.VisitLemmas.{visited_more, visited_none, visited_over, visited_stop}
use Rattle.uz_proposal.proofs.visits.registers_at.Goals as goal

pub turns-init : goal.turns-init
turns-init c = λ s stands. visited_none c.args.limit c.args.handling c.args.pc c.args.sp s _ _ stands c.no_visit-seen.ensures

pub turns-preserved : goal.turns-preserved
turns-preserved c = λ s stands.
    visited_more c.args.limit c.args.handling c.args.pc c.args.sp s c.turns.console c.visit_turn.new.console c.turns.handling c.in-Some.runs
    c.turns.seen c.visit_turn.new.seen (c.turns.invariant s stands) (omega arith)
    (subst (λ o. (t : State PadHistory) → StandsFor c.turns.console t → IsVisitTurn (is_visit c.turns.handling c.args.pc c.args.sp t) t
    c.visit_turn.new.console c.turns.handling c.turns.seen c.visit_turn.new.seen o) c.in-Some.is c.visit_turn.ensures.turn)

pub returns-in-None : goal.returns-in-None
returns-in-None c = λ s stands.
    visited_stop c.args.limit c.args.handling c.args.pc c.args.sp s c.turns.console c.visit_turn.new.console c.turns.handling c.turns.seen
    c.visit_turn.new.seen (c.turns.invariant s stands)
    (subst (λ o. (t : State PadHistory) → StandsFor c.turns.console t → IsVisitTurn (is_visit c.turns.handling c.args.pc c.args.sp t) t
    c.visit_turn.new.console c.turns.handling c.turns.seen c.visit_turn.new.seen o) c.in-None.is c.visit_turn.ensures.turn)

pub returns : goal.returns
returns c = λ s stands.
    visited_over c.args.limit c.args.handling c.args.pc c.args.sp s c.turns.console c.turns.handling c.turns.seen (c.turns.invariant s stands)
    (omega arith)

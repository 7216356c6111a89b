use Rattle.std.proofs.Common.{◌∙◌, ap, refl, subst, sym}
use Rattle.std.specs.Prelude.{None}
use Rattle.uz_console.specs.Consoles.{StateStandsFor}
use Rattle.uz_proposal.specs.Moments.{Moment, after_edges}
use Rattle.uz_proposal.proofs.visits.visit_turn.Goals as goal

pub returns-in-Took-clause-turn : goal.returns-in-Took-clause-turn
returns-in-Took-clause-turn c = λ s stands.
    let made = c.in-Took.ensures.turn s stands in
    let m : Moment = record { before = s; edges = c.in-Took.edges.items; after = made.0; store = None } in (
      m,
      refl,
      made.1,
      made.2,
      c.look-next.ensures s stands,
      c.handles_after.ensures ∙ ap (λ es. after_edges c.args.handling es) c.as_slice.ensures.value,
    )

pub returns-in-Stopped-clause-turn : goal.returns-in-Stopped-clause-turn
returns-in-Stopped-clause-turn c = λ s stands.
    let stop = c.in-Stopped.ensures.turn in
    ((stop.1 s stands).no_turn, subst (λ t. StateStandsFor t s) (sym stop.0) stands, refl)

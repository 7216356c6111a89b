use Rattle.std.proofs.Common.{refl, subst}
use Rattle.uz_proposal.specs.Moments.{Moment}
use Rattle.uz_proposal.specs.Windows.{TakesTurn}
use Rattle.uz_proposal.proofs.watching.watch_turn.Goals as goal

pub returns-in_ok-take-in-Took-clause-seen : goal.returns-in_ok-take-in-Took-clause-seen
returns-in_ok-take-in-Took-clause-seen c = λ s stands.
    let made = c.in-Took.ensures.turn s stands in
    let glance = c.look-before.result in
    let m : Moment = record { before = s; edges = c.in-Took.edges.items; after = made.0; store = glance.store } in
    let clocked = subst (λ n. TakesTurn c.args.window.now c.take.new.self glance n c.stack_pointer-sp.result c.as_slice.result.now)
    (c.clock.ensures.stands made.0 made.2) c.in_ok-take-in-Took.ensures in
    let takes = subst (λ n. TakesTurn c.args.window.now c.take.new.self glance (made.0).clock n c.as_slice.result.now)
    (c.stack_pointer-sp.ensures.stands made.0 made.2) clocked in (
      m,
      glance,
      refl,
      made.1,
      made.2,
      c.look-before.ensures.glance s stands,
      refl,
      subst (λ es. TakesTurn c.args.window.now c.take.new.self glance (made.0).clock (made.0).core.sp es) c.as_slice.ensures.value takes,
    )

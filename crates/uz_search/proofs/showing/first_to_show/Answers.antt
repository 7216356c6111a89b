use Rattle.uz_search.proofs.Common.{◌≡◌, ◌≢◌, Some, refl, sym, ◌∙◌, subst, slice_get, true≢false, ⊎_elim, arith, cases_eq, Instance, Shows}
use Rattle.uz_search.proofs.Common.{same_Some}
use Rattle.uz_search.proofs.showing.first_to_show.Goals as goal

pub shows-requires-clause-stands : goal.shows-requires-clause-stands
shows-requires-clause-stands c = c.requires.stand c.node_at.result.now (c.each.number, c.node_at.ensures)

pub returns-then-shows : goal.returns-then-shows
returns-then-shows c = (c.node_at.result.now, c.node_at.ensures, c.if-shows.ensures.0 refl)

pub each-preserved : goal.each-preserved
each-preserved c = λ i x below at shows. ⊎_elim
    (λ (same : i ≡ c.each.number).
    let node = c.node_at.result.now in
    let is : x ≡ node = same_Some x node (sym (subst (λ n. slice_get c.args.nodes.now n ≡ Some x) same at) ∙ c.node_at.ensures) in
    true≢false (sym (c.if-shows.ensures.1
    (subst (λ (z : Instance). Shows c.args.image.now c.args.program.now z c.args.shown.place c.args.shown.event) is shows))))
    (λ (other : i ≢ c.each.number). c.each.invariant i x (omega arith) at shows)
    (cases_eq i c.each.number)

pub returns : goal.returns
returns c =
    let some = c.requires.some in
    let past = c.each-test.false in
    ⊎_elim
    (λ (last : some.number ≡ c.args.last). (some.x, subst (λ n. slice_get c.args.nodes.now n ≡ Some some.x) last some.there, some.shows))
    (λ (other : some.number ≢ c.args.last). let below = some.below in
    absurd (c.each.invariant some.number some.x (omega arith) some.there some.shows))
    (cases_eq some.number c.args.last)

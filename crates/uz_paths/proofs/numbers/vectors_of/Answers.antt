use Rattle.std.proofs.Common.{◌≡◌, ◌∙◌, ◌∷◌, ◌++◌, [], sym, ap, refl, subst, get_or, length}
use Rattle.std.proofs.lemmas.Option.{slice_get_read}
use Rattle.uz_schedule.specs.Lines.{order_of}
use Rattle.uz_schedule.specs.Schedule.{response_clocks}
use Rattle.uz_schedule.specs.declared.states.Rest.{Rest}
use Rattle.uz_paths.specs.Linked.{ArePoints}
use Rattle.uz_join.specs.Points.{AreOrdered, vector_after}
use Rattle.uz_paths.proofs.LinkLemmas.{no_points, vectors_next, vectors_end}
use Rattle.uz_paths.proofs.numbers.vectors_of.Goals as goal

pub loop-rest-init : goal.loop-rest-init
loop-rest-init c = subst (ArePoints (response_clocks c.args.response) (order_of c.args.schedule.now) [] [] [] 0)
    (sym c.new-points.ensures.items) (no_points (response_clocks c.args.response) (order_of c.args.schedule.now))

pub bare_vector-requires-clause-line : goal.bare_vector-requires-clause-line
bare_vector-requires-clause-line c = c.requires.line c.loop-rest.rest-index c.rest-item.result (slice_get_read c.args.rests.now
    (length c.args.rests.now)
    c.loop-rest.rest-index c.rest-item.result refl c.loop-rest-test.true c.rest-item.is)

pub loop-rest-preserved : goal.loop-rest-preserved
loop-rest-preserved c =
    let vector : c.bare_vector.result ≡ vector_after (response_clocks c.args.response) (order_of c.args.schedule.now)
    (get_or c.args.rests.now c.loop-rest.rest-index c.rest-item.result) [] =
    c.bare_vector.ensures.is ∙ ap (λ (r : Rest). vector_after (response_clocks c.args.response) (order_of c.args.schedule.now) r [])
    c.rest-item.is in
    vectors_next (response_clocks c.args.response) (order_of c.args.schedule.now) c.args.rests.now c.loop-rest.rest-index c.rest-item.result
    c.loop-rest.points.items c.push.new.self.items c.loop-rest-test.true c.loop-rest.invariant
    (c.in_ok-push.ensures.items ∙ ap (λ p. c.loop-rest.points.items ++ p ∷ []) vector)
    (subst (λ (z : Rest). AreOrdered 255 z.cells.items) c.rest-item.is c.bare_vector.ensures.ordered)

pub returns : goal.returns
returns c = vectors_end (response_clocks c.args.response) (order_of c.args.schedule.now) c.args.rests.now c.loop-rest.rest-index
    c.loop-rest.points.items c.loop-rest-test.false c.loop-rest.auto.rest-index-end c.loop-rest.invariant

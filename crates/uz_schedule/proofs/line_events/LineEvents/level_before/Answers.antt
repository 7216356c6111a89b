use Rattle.std.proofs.Common.{◌≡◌, refl, sym, ◌∙◌, ap, subst, arith, ◌<◌}
use Rattle.std.specs.Prelude.{filter}
use Rattle.std.specs.List.Sorted.{IsNonDecreasingBy}
use Rattle.uz_schedule.specs.LineEvents.{is_sync}
use Rattle.uz_schedule.proofs.Searched.{syncs_in_order, none_by_place, level_by_place}
use Rattle.uz_schedule.proofs.line_events.LineEvents.level_before.Goals as goal

pub first_from-place-requires : goal.first_from-place-requires
first_from-place-requires c =
    let is : c.as_slice-syncs.result.now ≡ filter is_sync c.args.self.now = c.as_slice-syncs.ensures.value
    ∙ (c.self.invariant ∙ ap (filter is_sync) c.self.view_is) in
    subst (λ xs. IsNonDecreasingBy (λ e. e.clock) xs) (sym is) (syncs_in_order c.args.self.now c.requires)

pub returns-then-place-eq0 : goal.returns-then-place-eq0
returns-then-place-eq0 c =
    let is : c.as_slice-syncs.result.now ≡ filter is_sync c.args.self.now = c.as_slice-syncs.ensures.value
    ∙ (c.self.invariant ∙ ap (filter is_sync) c.self.view_is) in
    sym (none_by_place c.args.self.now c.as_slice-syncs.result.now c.args.clock c.first_from-place.result is c.if-place-eq0.true
    c.first_from-place.ensures.place)

pub returns-else-place-eq0 : goal.returns-else-place-eq0
returns-else-place-eq0 c =
    let is : c.as_slice-syncs.result.now ≡ filter is_sync c.args.self.now = c.as_slice-syncs.ensures.value
    ∙ (c.self.invariant ∙ ap (filter is_sync) c.self.view_is) in
    let some : 0 < c.first_from-place.result = omega (arith, c.if-place-eq0.false) in
    c.level_set_by.ensures ∙ sym (level_by_place c.args.self.now c.as_slice-syncs.result.now c.args.clock c.first_from-place.result _ _ is
    some c.first_from-place.ensures.bound refl c.first_from-place.ensures.place)

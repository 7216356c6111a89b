use Rattle.std.proofs.Common.{◌≡◌, refl, sym, ◌∙◌, subst}
use Rattle.std.specs.List.Sorted.{IsNonDecreasingBy}
use Rattle.uz_schedule.proofs.Searched.{clocks_in_order, event_found}
use Rattle.uz_schedule.specs.Schedule.{event_in}
use Rattle.uz_schedule.proofs.line_events.LineEvents.at.Goals as goal

pub first_from-place-requires : goal.first_from-place-requires
first_from-place-requires c =
    let is : c.as_slice-events.result.now ≡ c.args.self.now = c.as_slice-events.ensures.value ∙ c.self.view_is in
    subst (λ xs. IsNonDecreasingBy (λ e. e.clock) xs) (sym is) (clocks_in_order c.args.self.now c.requires)

pub returns : goal.returns
returns c =
    let is : c.as_slice-events.result.now ≡ c.args.self.now = c.as_slice-events.ensures.value ∙ c.self.view_is in
    let order = subst (λ xs. IsNonDecreasingBy (λ e. e.clock) xs) (sym is) (clocks_in_order c.args.self.now c.requires) in
    let found = event_found c.as_slice-events.result.now c.args.clock c.first_from-place.result order c.first_from-place.ensures.place.0
    c.first_from-place.ensures.place.1 in
    c.event_at_place.ensures ∙ (sym found ∙ subst (λ xs. event_in c.as_slice-events.result.now c.args.clock ≡ event_in xs c.args.clock) is
    refl)

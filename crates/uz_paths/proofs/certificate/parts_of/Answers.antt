use Rattle.std.proofs.Common.{◌<◌, ◌∙◌, List, Some, ap, length, subst, sym, ℕ}
use Rattle.std.specs.Prelude.{slice_get}
use Rattle.uz_schedule.specs.Instances.{entry_instance_at}
use Rattle.uz_schedule.specs.declared.states.Instance.{Instance}
use Rattle.uz_schedule.specs.declared.states.Rest.{Rest}
use Rattle.uz_search.specs.Following.{Among}
use Rattle.uz_paths.specs.Linked.{AreEntered}
use Rattle.uz_paths.specs.Plan.{HavePoints, IsPlan}
use Rattle.uz_paths.specs.Rests.{rests_of}
use Rattle.uz_paths.proofs.MakeLemmas.{link_there}
use Rattle.uz_paths.proofs.RestLemmas.{few_in_frame, few_returns}
use Rattle.uz_paths.proofs.certificate.parts_of.Goals as goal

pub rests_of-requires : goal.rests_of-requires
rests_of-requires c = few_returns c.args.found.returns.items _ _ c.as_slice.ensures.value c.requires.ended.lines c.requires.fits.few

pub plan_of-requires-clause-rests : goal.plan_of-requires-clause-rests
plan_of-requires-clause-rests c =
    few_in_frame c.args.found.returns.items _ _
    (c.as_slice-2.ensures.value ∙ (c.in-Ok-rests_of.ensures ∙ ap rests_of c.as_slice.ensures.value)) c.requires.ended.lines
    c.requires.fits.few

pub plan_of-requires-clause-entered : goal.plan_of-requires-clause-entered
plan_of-requires-clause-entered c =
    subst (λ (rs : List Rest). AreEntered c.args.program.now c.in-Ok.schedule rs c.args.found.nodes.keys)
    (sym (c.as_slice-2.ensures.value ∙ (c.in-Ok-rests_of.ensures ∙ ap rests_of c.as_slice.ensures.value)))
    c.rests_are_entered.ensures

pub number_of-id-requires-clause-node : goal.number_of-id-requires-clause-node
number_of-id-requires-clause-node c =
    subst (λ (x : Instance). Among c.args.found.nodes.keys x) (sym c.entry_state.ensures)
    (c.requires.ended.started (entry_instance_at c.args.entry 1) c.requires.start)

pub points_of-requires-clause-lengths : goal.points_of-requires-clause-lengths
points_of-requires-clause-lengths c =
    c.in-Ok-plan_of.ensures.numbered.lengths ∙ ap (λ nodes. length nodes.keys) (sym c.nodes_of.ensures)

pub points_of-requires-clause-linked : goal.points_of-requires-clause-linked
points_of-requires-clause-linked c = λ i less.
    link_there _ _ _ _ _ _ _ _ _ i c.in-Ok-plan_of.ensures (subst (λ n. i < n) (ap (λ nodes. length nodes.keys) c.nodes_of.ensures) less)

pub returns-in-Ok-points_of : goal.returns-in-Ok-points_of
returns-in-Ok-points_of c =
    let plan = c.in-Ok-plan_of.plan in
    let points = c.in-Ok-points_of.points.items in
    let of_found = ap (λ nodes. nodes.keys) c.nodes_of.ensures in
    let numbers = plan.numbers.items in
    let image = c.args.image.now in
    let p = c.args.program.now in
    let s = c.in-Ok.schedule in
    let planned =
    subst (λ (nodes : List Instance). IsPlan image p s c.as_slice-4.result.now nodes numbers plan.count plan.links plan.points.items)
    (sym of_found)
    (subst (λ (rests : List Rest). IsPlan image p s rests c.args.found.nodes.keys numbers plan.count plan.links plan.points.items)
    (c.as_slice-2.ensures.value ∙ sym c.as_slice-4.ensures.value) c.in-Ok-plan_of.ensures) in
    let made =
    subst (λ (nodes : List Instance). HavePoints image p s c.in-Ok-rests_of.rests.items nodes numbers (length points) points) of_found
    (subst (λ (rests : List Rest). HavePoints image p s rests c.nodes_of.result.keys numbers (length points) points)
    c.as_slice-4.ensures.value (c.in-Ok-points_of.ensures image p s plan.count planned)) in
    record {
      schedule = c.in-Ok.ensures.made;
      rests = c.in-Ok-rests_of.ensures ∙ ap rests_of c.as_slice.ensures.value;
      enters = c.with_id.ensures ∙ (λ i. record c.args.entry { id = (sym c.with_id.ensures i).id });
      numbers = numbers;
      entry_number = record {
        place = c.number_of-id.ensures.place;
        node = c.number_of-id.ensures.node ∙ ap Some c.entry_state.ensures;
        is = ap (λ (ns : List ℕ). slice_get ns c.number_of-id.ensures.place) (sym c.as_slice-3.ensures.value)
            ∙ (c.number_of-id.ensures.is ∙ (λ i. Some (sym c.with_id.ensures i).id));
      };
      numbered = made.pointed.numbered;
      points = made.pointed.made;
      named = made.named;
    }

pub number_of-id-requires-clause-lengths : goal.number_of-id-requires-clause-lengths
number_of-id-requires-clause-lengths c = ap length c.as_slice-3.ensures.value ∙ c.in-Ok-plan_of.ensures.numbered.lengths

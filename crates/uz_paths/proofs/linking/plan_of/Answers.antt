use Rattle.std.proofs.Common.{List, length, subst}
use Rattle.uz_schedule.specs.Schedule.{response_clocks}
use Rattle.uz_schedule.specs.declared.states.Instance.{Instance}
use Rattle.uz_search.specs.Following.{order_of_program}
use Rattle.uz_paths.specs.Linked.{VectorsLead}
use Rattle.uz_paths.specs.Numbers.{AreNumbers}
use Rattle.uz_paths.specs.Plan.{AreCounted, AreLinks}
use Rattle.uz_paths.proofs.LinkLemmas.{have_numbers}
use Rattle.uz_paths.proofs.linking.plan_of.Goals as goal

pub vector_points-requires-clause-linking : goal.vector_points-requires-clause-linking
vector_points-requires-clause-linking c = record {
  searched = c.requires.searched;
  numbered = have_numbers c.args.program.now c.args.rests.now c.args.nodes.now.keys c.as_slice.result.now c.in_ok-of.field-0.of.items
      c.as_slice-2.result.now c.in_ok-of.field-0.count c.as_slice.ensures.keys c.as_slice-2.ensures.value c.in_ok-of.ensures.numbers;
}

pub links_of-requires-clause-linking : goal.links_of-requires-clause-linking
links_of-requires-clause-linking c = record {
  searched = c.requires.searched;
  numbered = have_numbers c.args.program.now c.args.rests.now c.args.nodes.now.keys c.as_slice.result.now c.in_ok-of.field-0.of.items
      c.as_slice-2.result.now c.in_ok-of.field-0.count c.as_slice.ensures.keys c.as_slice-2.ensures.value c.in_ok-of.ensures.numbers;
}

pub vector_points-requires-clause-some : goal.vector_points-requires-clause-some
vector_points-requires-clause-some c = c.in_ok-of.ensures.numbers.some

pub returns : goal.returns
returns c = record {
  numbered = subst (λ (ns : List Instance). AreNumbers (response_clocks c.args.program.now.head.irq) (order_of_program c.args.program.now)
      c.args.rests.now ns c.in_ok-of.field-0.of.items c.in_ok-of.field-0.count) c.as_slice.ensures.keys c.in_ok-of.ensures.numbers;
  counted = subst (λ (ns : List Instance). AreCounted (response_clocks c.args.program.now.head.irq) (order_of_program c.args.program.now)
      c.args.rests.now ns c.in_ok-of.field-0.of.items) c.as_slice.ensures.keys c.in_ok-of.ensures.counted;
  linked = subst (λ ms. AreLinks c.args.image.now c.args.program.now (length c.args.rests.now) c.args.nodes.now.keys ms
      c.in_ok-of.field-0.count c.in_ok-links.links (length c.args.nodes.now.keys)) c.as_slice-2.ensures.value c.in_ok-links.ensures;
  size = c.in_ok-points.ensures.size;
  made = c.in_ok-points.ensures.made;
  named = subst (λ ms. VectorsLead c.args.image.now c.args.program.now c.args.schedule.now c.args.rests.now c.args.nodes.now.keys ms
      (length c.args.rests.now) c.in_ok-points.points.items) c.as_slice-2.ensures.value c.in_ok-points.ensures.named;
}

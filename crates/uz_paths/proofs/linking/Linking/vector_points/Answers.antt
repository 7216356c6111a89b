use Rattle.std.proofs.Common.{◌≡◌, ◌∙◌, [], ap, length, subst, sym}
use Rattle.uz_schedule.specs.Schedule.{response_clocks}
use Rattle.uz_search.specs.Following.{order_of_program}
use Rattle.uz_paths.specs.Plan.{AreMade}
use Rattle.uz_paths.specs.Linking.{VectorsLeadBy}
use Rattle.uz_paths.proofs.LinkLemmas.{made_bare}
use Rattle.uz_paths.proofs.MakeLemmas.{written}
use Rattle.uz_paths.proofs.linking.Linking.vector_points.Goals as goal

pub link_vectors-requires-clause-made : goal.link_vectors-requires-clause-made
link_vectors-requires-clause-made c =
    subst (AreMade (response_clocks c.args.self.now.program.now.head.irq) (order_of_program c.args.self.now.program.now) c.args.rests.now [] [] c.args.self.now.count)
    (sym c.as_mut_slice.ensures.value)
    (made_bare (response_clocks c.args.self.now.program.now.head.irq) (order_of_program c.args.self.now.program.now) c.args.rests.now
    (length c.args.rests.now) c.args.self.now.count c.in_ok-points.points.items c.requires.some c.in_ok-points.ensures)

pub link_vectors-requires-clause-size : goal.link_vectors-requires-clause-size
link_vectors-requires-clause-size c = ap length c.as_mut_slice.ensures.value ∙ c.in_ok-points.ensures.size

pub returns-clause-size : goal.returns-clause-size
returns-clause-size c =
    let long : length c.link_vectors.new.points ≡ c.in_ok-points.points.len =
    c.link_vectors.ensures.size ∙ (sym c.in_ok-points.ensures.size ∙ sym c.in_ok-points.points.ok.0) in
    ap length (written c.in_ok-points.points.items c.link_vectors.new.points c.in_ok-points.points.len long)
    ∙ c.link_vectors.ensures.size

pub returns-clause-made : goal.returns-clause-made
returns-clause-made c =
    let long : length c.link_vectors.new.points ≡ c.in_ok-points.points.len =
    c.link_vectors.ensures.size ∙ (sym c.in_ok-points.ensures.size ∙ sym c.in_ok-points.points.ok.0) in
    subst (AreMade (response_clocks c.args.self.now.program.now.head.irq) (order_of_program c.args.self.now.program.now) c.args.rests.now [] [] c.args.self.now.count)
    (sym (written c.in_ok-points.points.items c.link_vectors.new.points c.in_ok-points.points.len long)) c.link_vectors.ensures.made

pub returns-clause-named : goal.returns-clause-named
returns-clause-named c =
    let long : length c.link_vectors.new.points ≡ c.in_ok-points.points.len =
    c.link_vectors.ensures.size ∙ (sym c.in_ok-points.ensures.size ∙ sym c.in_ok-points.points.ok.0) in
    subst (VectorsLeadBy c.args.self.now c.args.schedule.now c.args.rests.now
    (length c.args.rests.now)) (sym (written c.in_ok-points.points.items c.link_vectors.new.points c.in_ok-points.points.len long))
    c.link_vectors.ensures.named

use Rattle.std.proofs.Common.{◌∙◌, List, ap, length, subst, sym, ℕ}
use Rattle.uz_schedule.specs.declared.states.Point.{Point}
use Rattle.uz_paths.specs.Plan.{HavePoints, IsPlan}
use Rattle.uz_paths.proofs.MakeLemmas.{sized}
use Rattle.uz_paths.proofs.making.points_of.Goals as goal

pub put_points-put-requires-clause-lengths : goal.put_points-put-requires-clause-lengths
put_points-put-requires-clause-lengths c = ap length c.as_slice.ensures.value ∙ c.requires.lengths

pub returns-in-Ok : goal.returns-in-Ok
returns-in-Ok c = λ image p s count plan.
    let numbers = c.args.plan.numbers.items in
    let made = subst (λ (ms : List ℕ). HavePoints image p s c.args.rests.now c.args.nodes.keys ms count c.put_points-put.new.points.items)
    c.as_slice.ensures.value (c.in-Ok.ensures image p s count
    (subst (λ (ms : List ℕ). IsPlan image p s c.args.rests.now c.args.nodes.keys ms count c.args.plan.links c.reserve_exact.new.self.items)
    (sym c.as_slice.ensures.value)
    (subst (λ (ps : List Point). IsPlan image p s c.args.rests.now c.args.nodes.keys numbers count c.args.plan.links ps)
    (sym c.in_default.ensures.items) plan))) in
    record {
      pointed = sized p c.args.rests.now c.args.nodes.keys numbers count c.put_points-put.new.points.items made.pointed;
      named = made.named;
    }

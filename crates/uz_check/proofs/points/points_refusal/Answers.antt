use Rattle.uz_check.proofs.Common.{◌≡◌, inl, inr, ◌+◌, suc, sym, ap, subst, take, arith, Some, None, slice_get, eqb_tells}
use Rattle.uz_check.proofs.Common.{instances_to_check_in, Point, PointRefusal}
use Rattle.uz_check.proofs.Totals.{one_more_point, some_points}
use Rattle.uz_check.proofs.VisitLemmas.{point_there, refusal_there, looked_there, well_formed_there, runs_there}
use Rattle.uz_check.proofs.points.points_refusal.Goals as goal

pub point_refusal-requires-clause-fits : goal.point_refusal-requires-clause-fits
point_refusal-requires-clause-fits c = well_formed_there c.new-visit.result c.args.cert c.new-visit.ensures.cert c.requires

pub point_refusal-requires-clause-noted : goal.point_refusal-requires-clause-noted
point_refusal-requires-clause-noted c =
    runs_there c.new-visit.result c.args.cert c.alike_runs-runs.result 0 c.new-visit.ensures.cert c.alike_runs-runs.ensures.each

pub returns-in-Some-clause-few : goal.returns-in-Some-clause-few
returns-in-Some-clause-few c =
    let cert = c.args.cert.now in
    let visit = c.new-visit.result in
    let new = c.new-visit.ensures in
    let there = point_there visit c.args.cert c.points.id new.cert new.id new.visit in
    let one = one_more_point cert cert.points c.points.id visit.point.now there in
    let all = some_points cert cert.points (suc c.points.id) in
    let seen = looked_there visit c.args.cert c.points.looked c.point_refusal.new.looked new.cert c.point_refusal.ensures.few in
    omega (arith, one, all, seen, c.points.invariant.few)

pub points-preserved : goal.points-preserved
points-preserved c =
    let cert = c.args.cert.now in
    let image = c.args.image.now in
    let n = c.points.id in
    let visit = c.new-visit.result in
    let new = c.new-visit.ensures in
    let point = visit.point.now in
    let there = point_there visit c.args.cert n new.cert new.id new.visit in
    let passes = refusal_there visit c.args.image c.args.cert n None new.image new.cert new.id c.in_default.ensures.first in
    let on : suc n ≡ n + 1 = omega arith in
    let one = one_more_point cert cert.points n point there in
    let same = ap (λ k. instances_to_check_in cert (take k cert.points)) on in
    let seen = looked_there visit c.args.cert c.points.looked c.point_refusal.new.looked new.cert c.point_refusal.ensures.few in
    record {
      none = λ j few.
          elim (eqb_tells j n) [
            | inl t ↦ subst (λ i. (q : Point) × (slice_get cert.points i ≡ Some q) × PointRefusal image cert i q None) (sym t.1)
                (point, there, passes)
            | inr t ↦ c.points.invariant.none j (omega (arith, few, t.1))
          ];
      few = omega (arith, one, same, seen, c.points.invariant.few);
    }

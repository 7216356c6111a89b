use Rattle.uz_join.proofs.Common.{◌≡◌, subst, Some, slice_get, IsSaidBack, Coverage}
use Rattle.uz_join.proofs.CoverageLemmas.{IsNoted, said_back}
use Rattle.uz_join.proofs.coverage.Coverage.is_noted.Goals as goal

pub returns-then-has_count : goal.returns-then-has_count
returns-then-has_count c =
    λ on q there.
    let noted : IsNoted c.self.inside.numbers.now c.self.inside.counts.now c.self.inside.nodes.now c.args.i c.args.number c.args.line c.args.count = record {
      numbered = c.has_number.ensures c.if-has_number.true;
      counted = c.has_count.ensures c.if-has_count.true;
      on = c.is_on_line.ensures on;
    } in
    subst (λ (t : Coverage). slice_get t.points c.args.number ≡ Some q → IsSaidBack t.nodes q c.args.line c.args.count) c.self.view_is
    (λ at. said_back c.self.invariant at noted)
    there

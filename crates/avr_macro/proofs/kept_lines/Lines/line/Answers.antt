use Rattle.std.proofs.Common.{◌<◌, length, sym, subst, ap, arith}
use Rattle.avr_macro.proofs.Kept.{line_bounds, line_is, place_within}
use Rattle.avr_macro.proofs.kept_lines.Lines.line.Goals as goal

pub start_of-start-requires : goal.start_of-start-requires
start_of-start-requires c =
    subst (λ es. c.args.n < length es) (sym c.as_slice-ends.ensures.value) (place_within _ _ _ _ c.self.view_is c.requires)

pub end_of-end-requires : goal.end_of-end-requires
end_of-end-requires c =
    subst (λ es. c.args.n < length es) (sym c.as_slice-ends.ensures.value) (place_within _ _ _ _ c.self.view_is c.requires)

pub slice_bounds-result-start : goal.slice_bounds-result-start
slice_bounds-result-start c =
    let bounds = line_bounds _ _ _ _ _ _ _ c.self.invariant.0 c.self.view_is c.requires c.as_slice-ends.ensures.value
    c.start_of-start.ensures c.end_of-end.ensures in
    omega (arith, bounds.0)

pub slice_bounds-result-count : goal.slice_bounds-result-count
slice_bounds-result-count c =
    let bounds = line_bounds _ _ _ _ _ _ _ c.self.invariant.0 c.self.view_is c.requires c.as_slice-ends.ensures.value
    c.start_of-start.ensures c.end_of-end.ensures in
    omega (arith, bounds.0)

pub slice_bounds-result-end : goal.slice_bounds-result-end
slice_bounds-result-end c =
    let bounds = line_bounds _ _ _ _ _ _ _ c.self.invariant.0 c.self.view_is c.requires c.as_slice-ends.ensures.value
    c.start_of-start.ensures c.end_of-end.ensures in
    omega (arith, bounds.1, ap length c.as_slice-text.ensures.value)

pub returns : goal.returns
returns c = line_is _ _ _ _ _ _ _ _ c.self.view_is c.requires c.as_slice-ends.ensures.value
    c.start_of-start.ensures c.end_of-end.ensures c.as_slice-text.ensures.value

use Rattle.std.proofs.Common.{◌≡◌, ◌∙◌, ◌++◌, ap, arith, drop, get_or, map, set, take}
use Rattle.std.specs.Prelude.{Some, slice_get}
use Rattle.std.proofs.lemmas.Option.{get_or_from_slice_get, slice_get-get_or}
use Rattle.uz_paths.specs.Splits.{with_split}
use Rattle.uz_paths.proofs.SplitLemmas.{all_set, at_turn, one_set}
use Rattle.uz_paths.proofs.splits.set_splits.Goals as goal

pub each-preserved : goal.each-preserved
each-preserved c =
    let change = with_split c.args.splits.now in
    let xs = c.args.points.now in
    let k = c.each.place in
    let x = get_or xs k c.index-points-place.result in
    let at : slice_get xs k ≡ Some x = slice_get-get_or xs k c.index-points-place.result c.each-test.true in
    let turn = ap (λ l. slice_get l k) c.each.invariant ∙ at_turn change xs k x at in
    let old = get_or_from_slice_get c.each.points k x c.index-points-place.result turn in
    ap (λ l. set l k c.set_split.new.point) c.each.invariant
    ∙ ap (set (map change (take k xs) ++ drop k xs) k) (c.set_split.ensures ∙ ap change old) ∙ one_set change xs k x at

pub returns : goal.returns
returns c =
    c.each.invariant ∙ all_set (with_split c.args.splits.now) c.args.points.now c.each.place (omega (arith, c.each-test.false))

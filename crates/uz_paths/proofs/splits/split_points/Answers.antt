use Rattle.std.proofs.Common.{◌≡◌, ◌∙◌, ap, length, map, sym}
use Rattle.std.proofs.lemmas.List.{length-map}
use Rattle.uz_paths.specs.Splits.{with_split}
use Rattle.uz_paths.proofs.MakeLemmas.{written}
use Rattle.uz_paths.proofs.splits.split_points.Goals as goal

pub returns : goal.returns
returns c =
    let old = c.args.points in
    let set : c.set_splits.new.points ≡ map (with_split c.args.splits.now) old.items =
    c.set_splits.ensures ∙ (λ i. map (with_split (c.as_slice.ensures i)) (c.as_mut_slice.ensures.value i)) in
    let long : length c.set_splits.new.points ≡ old.len =
    ap length set ∙ (length-map old.items (with_split c.args.splits.now) ∙ sym old.ok.0) in
    c.from_vec.ensures ∙ (written old.items c.set_splits.new.points old.len long ∙ set)

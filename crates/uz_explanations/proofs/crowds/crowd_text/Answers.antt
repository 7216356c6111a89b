use Rattle.std.proofs.Common.{◌≡◌, ◌++◌, ◌∙◌, ap, get_or, subst, sym}
use Rattle.std.specs.Prelude.{All, flat_map}
use Rattle.std.proofs.lemmas.Option.{slice_get-get_or}
use Rattle.uz_explanations.specs.Counting.{count_at, counts}
use Rattle.uz_explanations.specs.Ranking.{greatest}
use Rattle.uz_explanations.specs.Crowds.{crowd_lines}
use Rattle.uz_explanations.proofs.Lines.{all_told}
use Rattle.uz_explanations.proofs.RankLaws.{are_greatest}
use Rattle.uz_explanations.proofs.crowds.crowd_text.Goals as goal

pub add_crowds-requires : goal.add_crowds-requires
add_crowds-requires c =
    let is : c.as_slice-2.result.now ≡ greatest (counts c.args.instances.now) =
    c.as_slice-2.ensures.value ∙ c.in_ok-crowds.ensures ∙ ap greatest (c.as_slice.ensures.value ∙ c.in_ok-counts.ensures.counts) in
    subst (All (λ crowd. crowd.count ≡ count_at crowd.pc c.args.instances.now)) (sym is)
    (λ k d below. ap (λ crowd. crowd.count) ((are_greatest c.args.instances.now).counted
    (get_or (greatest (counts c.args.instances.now)) k d) (k, slice_get-get_or (greatest (counts c.args.instances.now)) k d below)).0)

pub returns : goal.returns
returns c = all_told c.add_crowds.new.text.items c.as_slice.result.now c.as_slice-2.result.now c.args.instances.now
    (c.as_slice.ensures.value ∙ c.in_ok-counts.ensures.counts) (c.as_slice-2.ensures.value ∙ c.in_ok-crowds.ensures)
    (c.in_ok-add_crowds.ensures ∙ ap (λ t. t ++ flat_map (crowd_lines c.args.instances.now) c.as_slice-2.result.now) c.new-text.ensures.items)

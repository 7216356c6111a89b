use Rattle.std.proofs.Common.{◌∙◌, ap, subst}
use Rattle.std.specs.Prelude.{IfSome}
use Rattle.uz_join.specs.Coverage.{SaysInstances}
use Rattle.uz_paths.specs.Rests.{rests_of}
use Rattle.uz_paths.proofs.RestLemmas.{few_by_number, few_returns, lines_of_rests}
use Rattle.uz_paths.proofs.joined.joined_parts.Goals as goal

pub rests_of-requires : goal.rests_of-requires
rests_of-requires c =
    few_returns c.args.found.now.returns.items _ _ c.as_slice.ensures.value c.requires.ended.lines c.requires.fits.few

pub joined_points-requires-clause-few : goal.joined_points-requires-clause-few
joined_points-requires-clause-few c =
    few_by_number c.args.found.now.returns.items _ _
    (c.as_slice-2.ensures.value ∙ (c.in_ok-rests.ensures ∙ ap rests_of c.as_slice.ensures.value)) c.requires.ended.lines
    c.requires.fits.few

pub joined_points-requires-clause-line : goal.joined_points-requires-clause-line
joined_points-requires-clause-line c =
    lines_of_rests c.args.found.now.returns.items _ _
    (c.as_slice-2.ensures.value ∙ (c.in_ok-rests.ensures ∙ ap rests_of c.as_slice.ensures.value)) c.requires.ended.lines

pub parts_with-requires-clause-rests : goal.parts_with-requires-clause-rests
parts_with-requires-clause-rests c =
    c.as_slice-3.ensures.value ∙ (c.in_ok-rests.ensures ∙ ap rests_of c.as_slice.ensures.value)

pub parts_with-requires-clause-said : goal.parts_with-requires-clause-said
parts_with-requires-clause-said c =
    subst (λ o. IfSome o (λ j. SaysInstances c.args.found.now.nodes.keys j.points.items)) c.in-Some.is c.in_ok-joined.ensures

pub returns : goal.returns
returns c = c.in_ok-parts.ensures

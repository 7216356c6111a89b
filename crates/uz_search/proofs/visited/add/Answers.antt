use Rattle.uz_search.proofs.Common.{refl, sym, ap, ◌∙◌, ◌∷◌, [], ◌++◌, inl, if◌then◌else◌, not-false}
use Rattle.indexmap.proofs.CallerLemmas.{Contains-list_any}
use Rattle.uz_search.proofs.VisitingLemmas.{among_from_Contains}
use Rattle.uz_search.proofs.visited.add.Goals as goal

pub returns-else-added : goal.returns-else-added
returns-else-added c =
    let there = not-false _ (sym c.in_ok-place.ensures.added ∙ c.if-added.false) in
    inl (
      among_from_Contains _ _ (Contains-list_any _ c.equal_instances_are_one.ensures c.args.nodes.now.keys c.args.item there),
      c.in_ok-place.ensures.keys ∙ ap (λ b. if b then c.args.nodes.now.keys else c.args.nodes.now.keys ++ c.args.item ∷ []) there,
      refl,
    )

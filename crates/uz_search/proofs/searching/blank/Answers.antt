use Rattle.std.proofs.Common.{◌++◌, ◌∷◌, [], ◌∙◌, None, ap}
use Rattle.std.proofs.lemmas.List.{replicate_more}
use Rattle.uz_search.proofs.searching.blank.Goals as goal

pub fill-preserved : goal.fill-preserved
fill-preserved g c =
    c.in_ok-push.ensures.items ∙ (ap (λ places. places ++ None ∷ []) c.fill.invariant ∙ replicate_more c.fill.counter None)

use Rattle.std.proofs.Common.{◌++◌, ◌∷◌, [], ◌∙◌, ap, sym, take}
use Rattle.std.proofs.lemmas.List.{take_more}
use Rattle.uz_search.proofs.program.copied_starts.Goals as goal

pub each-preserved : goal.each-preserved
each-preserved c =
    c.in_ok-push.ensures.items
    ∙ (ap (λ copy. copy ++ c.copied.result ∷ []) c.each.invariant
    ∙ (ap (λ x. take c.each.start-index c.args.starts.now ++ x ∷ []) (c.copied.ensures ∙ c.start-item.is)
    ∙ sym (take_more c.args.starts.now c.each.start-index c.start-item.result c.each-test.true)))

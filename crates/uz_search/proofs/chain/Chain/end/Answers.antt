use Rattle.uz_search.proofs.Common.{◌∙◌, List, ap, length, subst, sym, Ends, Node, IsChain, ranges_below, folded}
use Rattle.uz_search.proofs.chain.Chain.end.Goals as goal

pub end_of-requires : goal.end_of-requires
end_of-requires c = subst (λ (l : List Node). IsChain l) (sym c.as_slice.ensures.value) c.self.invariant

pub returns : goal.returns
returns c =
    c.end_of.ensures
    ∙ (ap (λ (l : List Node). folded (ranges_below (length l) l) c.args.range) c.as_slice.ensures.value
    ∙ ap (λ (l : List Ends). folded l c.args.range) c.self.view_is)

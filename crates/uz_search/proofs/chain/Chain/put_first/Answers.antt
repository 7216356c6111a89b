use Rattle.uz_search.proofs.Common.{◌∙◌, ◌∷◌, List, ap, length, subst, sym, Node, IsChain, IsNode, ranges_below}
use Rattle.uz_search.proofs.ChainLemmas.{chain_more, view_more}
use Rattle.uz_search.proofs.chain.Chain.put_first.Goals as goal

pub first_block-node-requires : goal.first_block-node-requires
first_block-node-requires c = subst (λ (l : List Node). IsChain l) (sym c.as_slice.ensures.value) c.self.invariant

pub invariant_of-self : goal.invariant_of-self
invariant_of-self c = subst (λ (l : List Node). IsChain l) (sym c.in_err-push.ensures.items) c.self.invariant

pub invariant_of-self-2 : goal.invariant_of-self-2
invariant_of-self-2 c = subst (λ (l : List Node). IsChain l) (sym c.in_ok-push.ensures.items) (
    chain_more c.self.inside.nodes.items c.first_block-node.result c.self.invariant (
    subst (λ (l : List Node). IsNode l (length l) c.first_block-node.result) c.as_slice.ensures.value c.first_block-node.ensures.node
    )
    )

pub returns : goal.returns
returns c =
    ap (λ (l : List Node). ranges_below (length l) l) c.in_ok-push.ensures.items
    ∙ (view_more c.self.inside.nodes.items c.first_block-node.result
    ∙ (λ i. c.first_block-node.ensures.range i ∷ c.self.view_is i))

use Rattle.std.proofs.Common.{◌-◌, length, refl}
use Rattle.uz_search.proofs.ChainLemmas.{is_alone}
use Rattle.uz_search.proofs.chain.alone.Goals as goal

pub returns-clause-node : goal.returns-clause-node
returns-clause-node c =
    is_alone c.args.nodes.now (length c.args.nodes.now) _ refl c.end_of-end.ensures c.lo-least.ensures.value c.hi-greatest.ensures.value
    (λ i. c.hi-greatest.ensures.value i - c.lo-least.ensures.value i)

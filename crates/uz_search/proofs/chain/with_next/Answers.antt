use Rattle.uz_search.proofs.Common.{◌-◌, length, arith, refl, slice_get_read}
use Rattle.uz_search.proofs.ChainLemmas.{is_joined}
use Rattle.uz_search.proofs.chain.with_next.Goals as goal

pub returns-clause-node : goal.returns-clause-node
returns-clause-node c =
    is_joined c.args.nodes.now (length c.args.nodes.now) (c.args.node.rest - 1) c.args.node c.index-nodes-node.result _ c.requires.chain
    c.requires.node (omega (arith, c.if-node-eq0.false))
    (slice_get_read c.args.nodes.now (length c.args.nodes.now) (c.args.node.rest - 1) c.index-nodes-node.result refl (omega arith)
    c.index-nodes-node.is) (record {
      range = refl;
      end = refl;
      rest = refl;
      least = (omega (arith, c.min.ensures), omega (arith, c.min.ensures));
      greatest = (omega (arith, c.max.ensures), omega (arith, c.max.ensures));
      longest = (omega (arith, c.max-2.ensures), omega (arith, c.max-2.ensures));
    })

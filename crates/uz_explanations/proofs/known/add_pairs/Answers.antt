use Rattle.std.proofs.Common.{arith}
use Rattle.uz_explanations.specs.Known.{pair_item}
use Rattle.uz_explanations.proofs.PieceLemmas.{piece_put, pieces_over}
use Rattle.uz_explanations.proofs.known.add_pairs.Goals as goal

pub loop-k-preserved : goal.loop-k-preserved
loop-k-preserved c = piece_put (pair_item c.args.e) c.loop-k.text.items c.add_pair.new.text.items _ c.args.ranges.now c.loop-k.k
    c.index-ranges-k.result c.index-ranges-k.result c.loop-k-test.true c.index-ranges-k.is c.in_ok-add_pair.ensures c.loop-k.invariant

pub returns : goal.returns
returns c = pieces_over (pair_item c.args.e) _ _ c.args.ranges.now c.loop-k.k (omega (arith, c.loop-k-test.false)) c.loop-k.invariant

use Rattle.uz_join.proofs.Common.{◌≡◌, ◌∷◌, [], ◌++◌, ap, arith, length, length-append, slice_get_within}
use Rattle.uz_join.proofs.CoverageLemmas.{said_more}
use Rattle.uz_join.proofs.coverage.counts_of.Goals as goal

pub loop-i-preserved : goal.loop-i-preserved
loop-i-preserved c =
    let counts = c.loop-i.counts.items in
    let more = c.push.new.self.items in
    let pushed : more ≡ counts ++ c.in-Some.count ∷ [] = c.in_ok-push-in-Some.ensures.items in
    let longer = ap length pushed in
    let sizes = length-append counts (c.in-Some.count ∷ []) in
    let size = c.loop-i.invariant.size in
    record {
      size = omega (arith, longer, sizes, size);
      said = said_more c.args.points.now c.args.numbers.now counts more c.args.nodes.now c.loop-i.i c.number_in.result c.in-Some.count
          c.node_in.result.now pushed size c.node_in.ensures c.number_in.ensures c.in-Some.ensures c.loop-i.invariant.said;
    }

pub returns : goal.returns
returns c =
    let past = c.loop-i-test.false in
    λ i x there. let within = slice_get_within c.args.nodes.now i x there in c.loop-i.invariant.said i x (omega (arith, within)) there

use Rattle.uz_search.proofs.Common.{Instance, span_of, value_at, pieces_each, pieces_of}
use Rattle.uz_search.proofs.Lists.{flat_next}
use Rattle.uz_search.proofs.PiecesLaws.{result_more}
use Rattle.uz_search.proofs.splitting.add_results.Goals as goal

pub each-preserved : goal.each-preserved
each-preserved c =
    let x = c.known-item.result in
    record {
      out = flat_next (λ (y : Instance). pieces_of c.args.most c.args.register (span_of (value_at y.regs c.args.register)) y)
          c.args.results.now c.each.out.items c.add_result.new.out.items (pieces_each c.args.most c.args.register c.args.results.now)
          c.each.known-index x c.each-test.true c.known-item.is c.add_result.ensures c.each.invariant.out;
      room = result_more c.args.most c.args.register (span_of (value_at x.regs c.args.register)) x c.each.known-index c.each.out.items
          c.add_result.new.out.items c.requires.some c.each.invariant.room c.add_result.ensures;
    }

use Rattle.uz_search.proofs.Common.{◌≡◌, ◌-◌, ◌/◌, ◌+◌, ap, sym, zero-mul, arith, length, first_pieces, piece_size}
use Rattle.std.proofs.lemmas.List.{append-nil}
use Rattle.uz_search.proofs.PiecesLaws.{few_more, from_more, pieces_more, room_more}
use Rattle.uz_search.proofs.splitting.push_pieces.Goals as goal

pub each-init : goal.each-init
unfolding first_pieces
each-init c =
    let zero = zero-mul (piece_size c.args.most c.args.range) in
    let from = c.from-from.ensures in
    let low = c.lo-2.ensures.value in
    record {
      out = sym (append-nil c.args.out.now.items);
      from = omega (arith, zero, from, low);
      room = omega arith;
      few = omega (arith, from, low);
    }

pub each-preserved : goal.each-preserved
each-preserved c =
    let wide : c.from.result ≡ c.args.range.hi - c.args.range.lo =
    (let is = c.from.ensures in let high = c.hi.ensures.value in let low = c.lo.ensures.value in omega (arith, is, high, low)) in
    let size : c.from.result / c.args.most + 1 ≡ piece_size c.args.most c.args.range = ap (λ n. n / c.args.most + 1) wide in
    record {
      out = pieces_more c.args.most c.args.register c.args.range c.args.known.now c.each.number c.each.from c.args.out.now.items
          c.each.out.items c.push_piece.new.out.items c.each.invariant.out c.each.invariant.from c.push_piece.ensures;
      from = from_more c.args.most c.args.range c.each.number c.each.from (c.from.result / c.args.most + 1) c.each.invariant.from size;
      room = room_more c.args.most c.args.register c.args.range c.args.known.now c.each.number c.each.from (length c.args.out.now.items)
          c.each.out.items c.push_piece.new.out.items c.each.invariant.room c.push_piece.ensures;
      few = few_more c.args.most c.args.range c.each.number c.each.from (c.from.result / c.args.most + 1) c.requires.split size c.each.invariant.few;
    }

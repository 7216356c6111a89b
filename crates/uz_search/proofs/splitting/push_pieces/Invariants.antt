use Rattle.uz_search.proofs.Common.{◌≡◌, ◌≤◌, ◌+◌, ◌*◌, ◌++◌, length, first_pieces, piece_size}
use Rattle.uz_search.proofs.splitting.push_pieces.Given as goal

abbrev pub invariant-each : goal.invariant-each
invariant-each l = record {
  out : l.out.items ≡ l.initial.out.items ++ first_pieces l.most l.register l.range l.known l.number;
  from : l.from ≡ l.range.lo + l.number * piece_size l.most l.range;
  room : length l.out.items ≤ length l.initial.out.items + l.number;
  few : l.from ≤ l.range.lo + 64 * l.number;
}

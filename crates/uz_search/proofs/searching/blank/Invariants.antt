use Rattle.std.proofs.Common.{◌≡◌, None, replicate}
use Rattle.uz_search.proofs.searching.blank.Given as goal

abbrev pub invariant-fill : goal.invariant-fill
invariant-fill g l = l.places.items ≡ replicate l.counter None

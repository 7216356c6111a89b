use Rattle.std.proofs.Common.{◌≡◌, ◌++◌, drop}
use Rattle.uz_explanations.specs.Known.{pair_item}
use Rattle.uz_explanations.specs.Pieces.{pieces}
use Rattle.uz_explanations.proofs.known.add_pairs.Given as goal

-- what is written, and what is left
abbrev pub invariant-loop-k : goal.invariant-loop-k
invariant-loop-k l = l.text.items ++ pieces (pair_item l.e) l.k (drop l.k l.ranges) ≡ l.initial.text.items ++ pieces (pair_item l.e) 0 l.ranges

use Rattle.std.proofs.Common.{◌≡◌, ◌++◌, drop}
use Rattle.uz_explanations.specs.Known.{flag_item}
use Rattle.uz_explanations.specs.Pieces.{pieces}
use Rattle.uz_explanations.proofs.known.add_flags.Given as goal

-- what is written, and what is left
abbrev pub invariant-loop-b : goal.invariant-loop-b
invariant-loop-b l = l.text.items ++ pieces (flag_item l.e) l.b (drop l.b l.bits) ≡ l.initial.text.items ++ pieces (flag_item l.e) 0 l.bits

use Rattle.std.proofs.Common.{◌≡◌, ◌++◌, drop}
use Rattle.uz_explanations.specs.Known.{register_item}
use Rattle.uz_explanations.specs.Pieces.{pieces}
use Rattle.uz_explanations.proofs.known.add_registers.Given as goal

-- what is written, and what is left
abbrev pub invariant-loop-register : goal.invariant-loop-register
invariant-loop-register l = l.text.items ++ pieces (register_item l.e) l.register (drop l.register l.vals) ≡ l.initial.text.items ++ pieces (register_item l.e) 0 l.vals

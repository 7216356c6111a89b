use Rattle.std.proofs.Common.{◌≡◌, ◌++◌, drop}
use Rattle.uz_explanations.specs.Known.{slot_item}
use Rattle.uz_explanations.specs.Pieces.{pieces}
use Rattle.uz_explanations.proofs.known.add_slots.Given as goal

-- what is written, and what is left
abbrev pub invariant-loop-val : goal.invariant-loop-val
invariant-loop-val l = l.text.items ++ pieces slot_item l.val-index (drop l.val-index l.vals) ≡ l.initial.text.items ++ pieces slot_item 0 l.vals

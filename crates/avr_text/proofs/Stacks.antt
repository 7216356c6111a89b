-- How many entries wait.
use Rattle.std.proofs.Common.{◌≡◌, ◌↔◌, ◌<◌, ◌≤◌, Option, Some, None, IsSome, List, [], ◌∷◌, ◌++◌, length, reverse, option_to_list}
use Rattle.std.proofs.Common.{◌∙◌, ap, arith}
use Rattle.std.proofs.lemmas.List.{length-append, length-reverse}
use Rattle.avr_text.specs.declared.operator_stack.Entry.{Entry}

-- there is room where one was taken out
pub room_left : (old new : List Entry) (taken : Option Entry) → length old ≤ 256 → old ≡ new ++ option_to_list taken
    → (IsSome taken ↔ (0 < length old)) → length (reverse new) < 256
room_left old new (Some e) few is some = omega (arith, few, ap length is ∙ length-append new (e ∷ []), length-reverse new)
room_left old new None few is some = grind (arith, few, ap length is ∙ length-append new [], length-reverse new, some.1)

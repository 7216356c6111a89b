use Rattle.std.proofs.Common.{◌≡◌, ◌++◌, ℕ, drop, decimal}
use Rattle.avr_macro.specs.Arguments.{replaced, replaced_from}
use Rattle.avr_macro.proofs.arguments.with_number.Given as goal

-- what is there so far, and what the rest puts
abbrev pub invariant-loop-byte : goal.invariant-loop-byte
invariant-loop-byte l =
    (call : ℕ) → l.number ≡ decimal call
    → l.line.items ++ replaced_from l.arguments call l.named (drop l.byte-index l.text) ≡ replaced l.arguments call l.text

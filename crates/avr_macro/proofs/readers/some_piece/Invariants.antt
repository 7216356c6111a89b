use Rattle.std.proofs.Common.{◌≡◌, ◌++◌, ℕ, decimal, false, length}
use Rattle.avr_macro.specs.Arguments.{replaced_from}
use Rattle.avr_macro.proofs.readers.some_piece.Given as goal

-- what is put, and what the rest puts
abbrev pub invariant-loop-front : goal.invariant-loop-front
invariant-loop-front l =
    (call : ℕ) → l.number ≡ decimal call → l.put ++ replaced_from l.arguments call false l.line
    ≡ l.front ++ replaced_from l.arguments call false l.rest

abbrev pub decreases-loop-front : goal.decreases-loop-front
decreases-loop-front l = length l.rest

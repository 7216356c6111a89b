use Rattle.std.proofs.Common.{◌≡◌, ◌≤◌, length}
use Rattle.avr_macro.specs.Lines.{after_word}
use Rattle.avr_macro.proofs.lines.after_word.Given as goal

-- only letters, digits and _ were passed
abbrev pub invariant-loop-rest : goal.invariant-loop-rest
invariant-loop-rest l = (after_word l.rest ≡ after_word l.fn.text) × (length l.rest ≤ length l.fn.text)

abbrev pub decreases-loop-rest : goal.decreases-loop-rest
decreases-loop-rest l = length l.rest

use Rattle.std.proofs.Common.{◌≡◌, length}
use Rattle.avr_macro.specs.Lines.{after_blanks}
use Rattle.avr_macro.proofs.lines.after_blanks.Given as goal

-- only blanks were passed
abbrev pub invariant-loop-rest : goal.invariant-loop-rest
invariant-loop-rest l = after_blanks l.rest ≡ after_blanks l.fn.text

abbrev pub decreases-loop-rest : goal.decreases-loop-rest
decreases-loop-rest l = length l.rest

use Rattle.std.proofs.Common.{◌≡◌, length, reverse}
use Rattle.avr_macro.specs.Lines.{after_blanks}
use Rattle.avr_macro.proofs.lines.before_blanks.Given as goal

-- only blanks were passed
abbrev pub invariant-loop-rest : goal.invariant-loop-rest
invariant-loop-rest l = reverse (after_blanks (reverse l.rest)) ≡ reverse (after_blanks (reverse l.fn.text))

abbrev pub decreases-loop-rest : goal.decreases-loop-rest
decreases-loop-rest l = length l.rest

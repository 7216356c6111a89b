use Rattle.std.proofs.Common.{◌≡◌, length}
use Rattle.avr_text.specs.Reading.{reduced}
use Rattle.avr_text.proofs.reader.reduced.Given as goal

-- what is left is reduced to what all is
abbrev pub invariant-loop-entry : goal.invariant-loop-entry
invariant-loop-entry l = reduced l.level l.value l.stack ≡ reduced l.level l.fn.value l.fn.stack

abbrev pub decreases-loop-entry : goal.decreases-loop-entry
decreases-loop-entry l = length l.stack

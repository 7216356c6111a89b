use Rattle.std.proofs.Common.{◌≡◌, ◌+◌, length, drop}
use Rattle.avr_macro.specs.Arguments.{before_comment}
use Rattle.avr_macro.proofs.arguments.comment_at.Given as goal

-- the bytes so far, and those of the rest
abbrev pub invariant-loop-n : goal.invariant-loop-n
invariant-loop-n l = length (before_comment l.text) ≡ l.n + length (before_comment (drop l.n l.text))

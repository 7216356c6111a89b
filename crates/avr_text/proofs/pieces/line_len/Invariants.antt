use Rattle.std.proofs.Common.{◌≡◌, ◌+◌, drop}
use Rattle.std.specs.List.{prefix_len}
use Rattle.avr_text.specs.Characters.{goes_on_line}
use Rattle.avr_text.proofs.pieces.line_len.Given as goal

-- the bytes so far, and what passes of the rest
abbrev pub invariant-loop-n : goal.invariant-loop-n
invariant-loop-n l = prefix_len goes_on_line l.text ≡ l.n + prefix_len goes_on_line (drop l.n l.text)

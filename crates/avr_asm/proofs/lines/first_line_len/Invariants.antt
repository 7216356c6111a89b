use Rattle.std.proofs.Common.{◌≡◌, ◌+◌, drop}
use Rattle.avr_asm.specs.Lines.{first_len}
use Rattle.avr_asm.proofs.lines.first_line_len.Given as goal

-- the bytes so far, and those of the rest of the line
abbrev pub invariant-loop-i : goal.invariant-loop-i
invariant-loop-i l = first_len l.text ≡ l.i + first_len (drop l.i l.text)

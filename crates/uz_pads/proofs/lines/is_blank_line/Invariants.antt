use Rattle.std.proofs.Common.{◌≡◌, drop}
use Rattle.uz_pads.specs.Lines.{is_blank_line}
use Rattle.uz_pads.proofs.lines.is_blank_line.Given as goal

-- what is left decides
abbrev pub invariant-loop-byte : goal.invariant-loop-byte
invariant-loop-byte l = is_blank_line (drop l.byte-index l.line) ≡ is_blank_line l.initial.line

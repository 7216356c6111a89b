use Rattle.std.proofs.Common.{◌≡◌, drop, map, false}
use Rattle.std.specs.List.{list_any}
use Rattle.avr_asm.specs.Layout.{is_instruction_line}
use Rattle.avr_asm.proofs.layout.last_instruction.Given as goal

-- none of the lines from here on is an instruction's
abbrev pub invariant-loop-i : goal.invariant-loop-i
invariant-loop-i l = list_any is_instruction_line (drop l.i (map (λ line. line.now) l.lines)) ≡ false

use Rattle.std.proofs.Common.{◌≡◌, drop, map}
use Rattle.avr_asm.specs.Assembly.{following}
use Rattle.avr_asm.proofs.assembler.next_instruction.Given as goal

-- no instruction's line has come
abbrev pub invariant-loop-i : goal.invariant-loop-i
invariant-loop-i l =
    following (drop l.i (map (λ line. line.now) l.lines)) (drop l.i l.addresses) ≡ following (drop l.from (map (λ line. line.now) l.lines))
    (drop l.from l.addresses)

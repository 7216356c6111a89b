use Rattle.std.proofs.Common.{◌≡◌, ◌+◌, drop, map}
use Rattle.avr_asm.specs.Assembly.{following, output_from, seen_built}
use Rattle.avr_asm.proofs.assembler.put_each.Given as goal

-- what is put out so far, and what the lines that are left put out
abbrev pub invariant-loop-i : goal.invariant-loop-i
invariant-loop-i l = record {
  following : l.following ≡ following (drop l.i (map (λ line. line.now) l.lines)) (drop l.i l.addresses);
  left : output_from (l.i + 1) l.symbols (seen_built l.built) (drop l.i (map (λ line. line.now) l.lines)) (drop l.i l.addresses)
      ≡ output_from 1 l.symbols (seen_built l.initial.built) (map (λ line. line.now) l.lines) l.addresses;
}

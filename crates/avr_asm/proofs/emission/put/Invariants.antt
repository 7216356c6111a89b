use Rattle.std.proofs.Common.{◌≡◌, ◌≤◌, drop}
use Rattle.avr_asm.specs.Emission.{put}
use Rattle.avr_asm.proofs.emission.put.Given as goal

-- the bytes that are left give what all give
abbrev pub invariant-loop-byte : goal.invariant-loop-byte
invariant-loop-byte l = record {
  within : l.at ≤ 65536;
  left : put l.at (drop l.byte-index l.bytes) l.image ≡ put l.fn.at l.bytes l.fn.image;
}

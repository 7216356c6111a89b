use Rattle.std.proofs.Common.{◌≡◌, length, take}
use Rattle.uz_paths.specs.Reading.{ranges_from}
use Rattle.uz_paths.proofs.reading.start_registers.Given as goal

-- the first r registers
abbrev pub invariant-loop-r : goal.invariant-loop-r
invariant-loop-r l = record {
  count : length l.ranges ≡ 32;
  first : take l.r l.ranges ≡ ranges_from l.hints l.pc 0 l.r;
}

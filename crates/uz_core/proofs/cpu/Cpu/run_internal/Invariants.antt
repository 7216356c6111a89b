use Rattle.std.proofs.Common.{◌≡◌, ◌-◌, ◌<◌}
use Rattle.uz_core.specs.Internals.{RunsInternally}
use Rattle.uz_core.proofs.cpu.Cpu.run_internal.Given as goal

-- the instructions so far
abbrev pub invariant-loop-passed : goal.invariant-loop-passed
invariant-loop-passed l = record {
  run : RunsInternally l.program l.initial.self l.passed l.self;
  within : 0 < l.passed → l.passed < l.clocks;
  none : l.passed ≡ 0 → l.self ≡ l.initial.self;
}

abbrev pub decreases-loop-passed : goal.decreases-loop-passed
decreases-loop-passed l = l.clocks - l.passed

use Rattle.std.specs.Prelude.{◌<◌, IfSome}
use Rattle.uz_paths.specs.Splits.{AreRegisters}
use Rattle.uz_paths.proofs.either.find_by_splits.Given as goal

-- the splits so far are of registers, and so is the next one
abbrev pub invariant-tries : goal.invariant-tries
invariant-tries l = record {
  registers : AreRegisters l.splits.items;
  next : IfSome l.next (λ s. s.register < 32);
}

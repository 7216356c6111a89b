use Rattle.std.proofs.Common.{◌≡◌, ◌≤◌, ◌+◌, ◌-◌, ◌++◌, suc, map, length}
use Rattle.uz_transfer.specs.Exits.{numbers_from}
use Rattle.uz_transfer.proofs.exits.indirect.Given as goal

-- what is pushed and what is left are all
abbrev pub invariant-loop-pc : goal.invariant-loop-pc
invariant-loop-pc l = record {
  all : l.exits.items ++ map (λ pc. record { pc = pc; clocks = l.clocks }) (numbers_from l.pc (suc l.last - l.pc)) ≡ map
      (λ pc. record { pc = pc; clocks = l.clocks }) (numbers_from l.first (suc l.last - l.first));
  few : length l.exits.items + l.first ≤ l.pc;
}

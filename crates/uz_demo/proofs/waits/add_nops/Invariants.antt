use Rattle.std.proofs.Common.{◌≡◌, ◌++◌}
use Rattle.uz_demo.specs.Waits.{nops}
use Rattle.uz_demo.proofs.waits.add_nops.Given as goal

abbrev pub invariant-loop : goal.invariant-loop
invariant-loop l = l.text.items ≡ l.initial.text.items ++ nops l.counter

use Rattle.std.proofs.Common.{◌≡◌, ◌++◌}
use Rattle.uz_demo.specs.Waits.{whole_blocks}
use Rattle.uz_demo.proofs.waits.add_whole_blocks.Given as goal

abbrev pub invariant-loop-label : goal.invariant-loop-label
invariant-loop-label l = l.text.items ≡ l.initial.text.items ++ whole_blocks l.label

use Rattle.std.proofs.Common.{◌≡◌, ◌++◌, drop}
use Rattle.uz_report.specs.KindText.{each_return}
use Rattle.uz_report.proofs.kind_text.put_each_return.Given as goal

-- what is written, and what is left
abbrev pub invariant-loop-at : goal.invariant-loop-at
invariant-loop-at l = l.text.items ++ each_return l.clocks (drop l.at-index l.ats) ≡ l.initial.text.items ++ each_return l.clocks l.ats

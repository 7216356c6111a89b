use Rattle.uz_cert_writer.proofs.Common.{◌≡◌, ◌++◌, drop, [], Second, ended, kinds_then}
use Rattle.uz_cert_writer.proofs.schedule_lines.add_kinds.Given as goal

-- what is written, and what is left
abbrev pub invariant-loop-k : goal.invariant-loop-k
invariant-loop-k l =
    l.text.items ++ ended (kinds_then Second (drop l.k l.kinds) (drop l.k l.lengths) [])
    ≡ l.initial.text.items ++ ended (kinds_then Second l.kinds l.lengths [])

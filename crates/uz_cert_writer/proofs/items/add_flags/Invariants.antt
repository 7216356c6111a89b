use Rattle.uz_cert_writer.proofs.Common.{◌≡◌, ◌++◌, drop, codes, spaced, flag_items}
use Rattle.uz_cert_writer.proofs.items.add_flags.Given as goal

-- what is written, and what is left
abbrev pub invariant-loop-b : goal.invariant-loop-b
invariant-loop-b l =
    l.text.items ++ spaced (flag_items l.kind (drop l.b (codes "cznvsht")) (drop l.b l.bits))
    ≡ l.initial.text.items ++ spaced (flag_items l.kind (codes "cznvsht") l.bits)

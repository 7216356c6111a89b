use Rattle.uz_cert_writer.proofs.Common.{◌≡◌, ◌++◌, drop, spaced, register_items}
use Rattle.uz_cert_writer.proofs.items.add_registers.Given as goal

-- what is written, and what is left
abbrev pub invariant-loop-register : goal.invariant-loop-register
invariant-loop-register l =
    l.text.items ++ spaced (register_items l.kind l.register (drop l.register l.facts))
    ≡ l.initial.text.items ++ spaced (register_items l.kind 0 l.facts)

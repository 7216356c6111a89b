use Rattle.uz_cert_writer.proofs.Common.{◌≡◌, ◌++◌, drop, spaced, slot_items}
use Rattle.uz_cert_writer.proofs.items.add_slots.Given as goal

-- what is written, and what is left
abbrev pub invariant-loop-fact : goal.invariant-loop-fact
invariant-loop-fact l =
    l.text.items ++ spaced (slot_items (drop l.fact-index l.facts)) ≡ l.initial.text.items ++ spaced (slot_items l.facts)

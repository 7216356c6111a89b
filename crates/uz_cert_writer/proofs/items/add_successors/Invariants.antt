use Rattle.uz_cert_writer.proofs.Common.{◌≡◌, ◌++◌, drop, spaced, successor_items}
use Rattle.uz_cert_writer.proofs.items.add_successors.Given as goal

-- what is written, and what is left
abbrev pub invariant-loop-id : goal.invariant-loop-id
invariant-loop-id l =
    l.text.items ++ spaced (successor_items (drop l.id-index l.ids)) ≡ l.initial.text.items ++ spaced (successor_items l.ids)

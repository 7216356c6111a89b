use Rattle.uz_cert_writer.proofs.Common.{◌≡◌, ◌++◌, drop, spaced, cell_items}
use Rattle.uz_cert_writer.proofs.items.add_cells.Given as goal

-- what is written, and what is left
abbrev pub invariant-loop-number : goal.invariant-loop-number
invariant-loop-number l =
    l.text.items ++ spaced (cell_items l.kind l.number (drop l.number l.cells) (drop l.next l.facts))
    ≡ l.initial.text.items ++ spaced (cell_items l.kind 0 l.cells l.facts)

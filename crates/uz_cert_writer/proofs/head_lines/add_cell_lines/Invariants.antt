use Rattle.uz_cert_writer.proofs.Common.{◌≡◌, ◌++◌, drop, map, ended, line_of, cell_words}
use Rattle.uz_cert_writer.proofs.head_lines.add_cell_lines.Given as goal

-- what is written, and what is left
abbrev pub invariant-loop-cell : goal.invariant-loop-cell
invariant-loop-cell l =
    l.text.items ++ ended (map (λ m. line_of (cell_words m)) (drop l.cell-index l.cells))
    ≡ l.initial.text.items ++ ended (map (λ m. line_of (cell_words m)) l.cells)

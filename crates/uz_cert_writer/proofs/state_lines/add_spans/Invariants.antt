use Rattle.uz_cert_writer.proofs.Common.{◌≡◌, ◌++◌, drop, map, spaced, ends_word}
use Rattle.uz_cert_writer.proofs.state_lines.add_spans.Given as goal

-- what is written, and what is left
abbrev pub invariant-loop-span : goal.invariant-loop-span
invariant-loop-span l =
    l.text.items ++ spaced (map (ends_word 255) (drop l.span-index l.spans))
    ≡ l.initial.text.items ++ spaced (map (ends_word 255) l.spans)

use Rattle.uz_cert_writer.proofs.Common.{◌≡◌, ◌++◌, drop, map, ended, line_of, rest_words}
use Rattle.uz_cert_writer.proofs.state_lines.add_rests.Given as goal

-- what is written, and what is left
abbrev pub invariant-loop-rest : goal.invariant-loop-rest
invariant-loop-rest l =
    l.text.items ++ ended (map (λ r. line_of (rest_words r)) (drop l.rest-index l.rests))
    ≡ l.initial.text.items ++ ended (map (λ r. line_of (rest_words r)) l.rests)

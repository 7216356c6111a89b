use Rattle.uz_cert_writer.proofs.Common.{◌≡◌, ◌++◌, drop, map, decimal, spaced}
use Rattle.uz_cert_writer.proofs.words.add_numbers.Given as goal

-- what is written, and what is left
abbrev pub invariant-loop-number : goal.invariant-loop-number
invariant-loop-number l =
    l.text.items ++ spaced (map (λ n. decimal n) (drop l.number-index l.numbers))
    ≡ l.initial.text.items ++ spaced (map (λ n. decimal n) l.numbers)

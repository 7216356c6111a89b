use Rattle.uz_cert_writer.proofs.Common.{◌≡◌, ◌++◌, drop, codes, spaced, pair_items}
use Rattle.uz_cert_writer.proofs.items.add_pairs.Given as goal

-- what is written, and what is left
abbrev pub invariant-loop-k : goal.invariant-loop-k
invariant-loop-k l =
    l.text.items ++ spaced (pair_items (drop l.k (codes "xyz")) (drop l.k l.facts))
    ≡ l.initial.text.items ++ spaced (pair_items (codes "xyz") l.facts)

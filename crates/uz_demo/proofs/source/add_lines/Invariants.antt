use Rattle.std.proofs.Common.{◌≡◌, ◌++◌, drop, map}
use Rattle.uz_demo.specs.Pieces.{ended}
use Rattle.uz_demo.proofs.source.add_lines.Given as goal

-- what is written, and what is left
abbrev pub invariant-loop-line : goal.invariant-loop-line
invariant-loop-line l =
    l.text.items ++ ended (map (λ m. m.now) (drop l.line-index l.lines)) ≡ l.initial.text.items ++ ended (map (λ m. m.now) l.lines)

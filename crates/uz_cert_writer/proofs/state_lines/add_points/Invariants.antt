use Rattle.uz_cert_writer.proofs.Common.{◌≡◌, ◌++◌, drop, map, ended, line_of, point_words}
use Rattle.uz_cert_writer.proofs.state_lines.add_points.Given as goal

-- what is written, and what is left
abbrev pub invariant-loop-point : goal.invariant-loop-point
invariant-loop-point l =
    l.text.items ++ ended (map (λ p. line_of (point_words l.cells p)) (drop l.point-index l.points))
    ≡ l.initial.text.items ++ ended (map (λ p. line_of (point_words l.cells p)) l.points)

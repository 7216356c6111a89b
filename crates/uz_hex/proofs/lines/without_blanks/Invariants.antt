use Rattle.std.proofs.Common.{◌≡◌, ◌+◌, ◌≤◌, length, take}
use Rattle.std.specs.List.{suffix_len}
use Rattle.uz_hex.specs.Lines.{is_blank}
use Rattle.uz_hex.proofs.lines.without_blanks.Given as goal

-- what is left has as many blanks at its end as the line has beyond those that were dropped
abbrev pub invariant-loop-length : goal.invariant-loop-length
invariant-loop-length l = (l.length ≤ length l.line) × (l.length + suffix_len is_blank l.line ≡ length l.line + suffix_len is_blank
    (take l.length l.line))

abbrev pub decreases-loop-length : goal.decreases-loop-length
decreases-loop-length l = l.length

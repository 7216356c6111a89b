use Rattle.std.proofs.Common.{◌≡◌, length}
use Rattle.uz_cert_lines.specs.{Grammar.words_left, FlagNames.any_names}
use Rattle.uz_cert_lines.proofs.words.any_names_in.Given as goal

-- what is left answers for all
abbrev pub invariant-loop-left : goal.invariant-loop-left
invariant-loop-left l = any_names (words_left l.left) ≡ any_names (words_left l.fn.words)

abbrev pub decreases-loop-left : goal.decreases-loop-left
decreases-loop-left l = length (words_left l.left)

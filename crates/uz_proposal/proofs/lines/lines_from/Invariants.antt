use Rattle.std.proofs.Common.{◌≡◌, ◌++◌, length}
use Rattle.uz_proposal.specs.Lines.{shapes_from, shapes_of}
use Rattle.uz_proposal.proofs.lines.lines_from.Given as goal

-- the lines so far, and what is left
abbrev pub invariant-loop-left : goal.invariant-loop-left
invariant-loop-left l = shapes_of l.lines.items ++ shapes_from l.began l.rest l.left ≡ shapes_from l.fn.began l.edges l.clocks

abbrev pub decreases-loop-left : goal.decreases-loop-left
decreases-loop-left l = length l.left

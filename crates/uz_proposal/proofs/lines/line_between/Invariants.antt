use Rattle.std.proofs.Common.{◌≡◌, ◌-◌, length}
use Rattle.uz_proposal.specs.Lines.{edges_from, either, fall_in}
use Rattle.uz_proposal.proofs.lines.line_between.Given as goal

-- the line so far, with what is left, is the whole line
abbrev pub invariant-loop-rest : goal.invariant-loop-rest
invariant-loop-rest l = record {
  length : l.line.length ≡ l.ended - l.began;
  fall : either l.line.fall (fall_in l.began l.ended l.rest) ≡ fall_in l.began l.ended l.edges;
  rest : edges_from l.ended l.rest ≡ edges_from l.ended l.edges;
}

abbrev pub decreases-loop-rest : goal.decreases-loop-rest
decreases-loop-rest l = length l.rest

use Rattle.std.proofs.Common.{take, map}
use Rattle.uz_pads.specs.Lines.{IsRead}
use Rattle.uz_pads.proofs.reading.read_pieces.Given as goal
use Rattle.uz_hex.specs.Lines.{lines_of_pieces}

-- the pairs so far are those of the lines before this one
abbrev pub invariant-loop-at : goal.invariant-loop-at
invariant-loop-at l = IsRead (take l.at (lines_of_pieces (map (λ piece. piece.now) l.pieces))) l.list.items

use Rattle.std.proofs.Common.{take, map, All}
use Rattle.uz_hex.specs.Lines.{lines_of_pieces}
use Rattle.uz_debug.specs.Scripts.{IsScript}
use Rattle.uz_debug.specs.Sessions.{IsInRange}
use Rattle.uz_debug.proofs.script.read_pieces.Given as goal

-- the commands so far are those of the lines before this one
abbrev pub invariant-loop-at : goal.invariant-loop-at
invariant-loop-at l = record {
  read : IsScript (take l.at (lines_of_pieces (map (λ piece. piece.now) l.pieces))) l.list.items;
  range : All IsInRange l.list.items;
}

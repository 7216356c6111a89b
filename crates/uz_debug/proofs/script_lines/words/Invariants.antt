use Rattle.std.proofs.Common.{◌≡◌, map, take, List, ℕ, Bor}
use Rattle.std.specs.Prelude.{filter}
use Rattle.uz_debug.specs.Scripts.{has_bytes}
use Rattle.uz_debug.proofs.script_lines.words.Given as goal

-- the words so far are those of the pieces so far
abbrev pub invariant-loop-piece : goal.invariant-loop-piece
invariant-loop-piece l = map (λ (word : Bor (List ℕ)). word.now) l.words.items ≡ filter has_bytes
    (map (λ (piece : Bor (List ℕ)). piece.now) (take l.piece-index l.piece-items))

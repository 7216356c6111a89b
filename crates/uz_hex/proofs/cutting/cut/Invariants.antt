use Rattle.std.proofs.Common.{◌≡◌, take, drop}
use Rattle.uz_hex.specs.Cutting.{cut_at, cut_behind}
use Rattle.uz_hex.proofs.cutting.cut.Given as goal

-- what is left is cut as the whole word is
abbrev pub invariant-loop-i : goal.invariant-loop-i
invariant-loop-i l = cut_behind (take l.i l.word) (cut_at l.separator (drop l.i l.word)) ≡ cut_at l.separator l.word

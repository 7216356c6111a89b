use Rattle.std.proofs.Common.{◌≡◌, ◌+◌, drop}
use Rattle.uz_paths.specs.Cells.{place_in}
use Rattle.uz_paths.proofs.cells.place_in.Given as goal

-- those so far lie at or below the address
abbrev pub invariant-loop-i : goal.invariant-loop-i
invariant-loop-i l = l.i + place_in l.at (drop l.i l.cells) ≡ place_in l.at l.cells

-- The words of a line that is spelled, and what may be said by a line where it is due.
use Rattle.std.specs.Prelude.{◌≢◌, ℕ, ◌+◌, ◌<◌, ◌≤◌, true, List, [], ◌∷◌, All, length, codes, decimal}
use Rattle.uz_schedule.specs.Limits.{most_lines}
use Rattle.uz_schedule.specs.Schedule.{response_clocks}
use Rattle.uz_schedule.specs.WellFormed.{CellFits, StackFits}
use Rattle.uz_schedule.specs.declared.kinds.Response.{Response}
use Rattle.uz_schedule.specs.declared.header.Head.{Head}
use Rattle.uz_cert_lines.specs.Grammar.{Words}
use Rattle.uz_cert_lines.specs.declared.lines.Sizes.{Sizes}
use Rattle.uz_cert_lines.specs.declared.lines.StackLine.{StackLine}

-- these words, in a line that ends in LF
abbrev pub line : List (List ℕ) → Words
line words = record { list = words; ended = true }

-- size KINDS LINES RESTS POINTS CELLS
abbrev pub sizes_words : Sizes → List (List ℕ)
sizes_words s = codes "size" ∷ decimal s.kinds ∷ decimal s.lines ∷ decimal s.rests ∷ decimal s.points ∷ decimal s.cells ∷ []

-- irq R
abbrev pub response_words : Response → List (List ℕ)
response_words r = codes "irq" ∷ decimal (response_clocks r) ∷ []

-- stack LO HI MAIN HANDLER
abbrev pub stack_line_words : StackLine → List (List ℕ)
stack_line_words s = codes "stack" ∷ decimal s.lo ∷ decimal s.hi ∷ decimal s.main ∷ decimal s.handler ∷ []

-- a head with this stack
abbrev pub with_stack : Head → StackLine → Head
with_stack h s = record h { lo = s.lo; hi = s.hi; main = s.main; handler = s.handler }

-- one of this many kinds and not the one before, on no more lines than are left
pub record RunFits (kinds left before count kind : ℕ) : Type 0 where
  pub some : 1 ≤ count
  pub few : count ≤ left
  pub there : kind < kinds
  pub other : kind ≢ before

-- what is read of a head before the lines of rests, entry and points, among this many lines and points
pub record PlacesAre (h : Head) (lines points : ℕ) : Type 0 where
  pub few : length h.cells.items ≤ 16
  pub each : All (CellFits h) h.cells.items
  pub stack : StackFits h
  pub lines_few : lines ≤ most_lines
  pub points_few : points ≤ 524288

-- the least number that keeps the order after these, which rise from this one
abbrev pub least_after : ℕ → List ℕ → ℕ
least_after least [] = least
least_after least (x ∷ xs) = least_after (x + 1) xs

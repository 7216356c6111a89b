-- The clock of a compare match within a turn (ATmega644 data sheet, "16-bit Timer/Counter1", CTC mode).
use Rattle.std.specs.Prelude.{ℕ, ◌+◌, ◌-◌, if◌then◌else◌, nat_le, List, [], ◌∷◌, Option, None, Some}
use Rattle.uz_core.specs.Timer.{Timer, is_counting}

-- The clocks until the count goes from the top to 0. A count above the top first goes from 65,535 to 0
abbrev pub clocks_to_match : ℕ → ℕ → ℕ
clocks_to_match count top = if nat_le count top then top + 1 - count else 65536 + top + 1 - count

-- the same of the timer, while it counts
abbrev pub clocks_left : Timer → Option ℕ
clocks_left t = if is_counting t then Some (clocks_to_match t.count t.top) else None

-- the clock of the first match of a turn, by the clocks at which it begins and ends
abbrev pub matches_in : ℕ → ℕ → Option ℕ → List ℕ
matches_in began ended None = []
matches_in began ended (Some left) = if nat_le (began + left) ended then (began + left) ∷ [] else []

-- Lines, as they are kept.
use Rattle.std.specs.Prelude.{◌≡◌, ◌≤◌, ℕ, zero, suc, List, [], ◌∷◌}
use Rattle.std.specs.List.{slice_range}

-- lines that stand in one text without their ends: the first from a place on, each up to a place of its own
abbrev pub lines_in : List ℕ → ℕ → List ℕ → List (List ℕ)
lines_in text start [] = []
lines_in text start (end ∷ ends) = slice_range text start end ∷ lines_in text end ends

-- the places rise, up to the end of a text of so many bytes
abbrev pub RiseTo : ℕ → ℕ → List ℕ → Type 0
RiseTo size start [] = start ≡ size
RiseTo size start (end ∷ ends) = (start ≤ end) × RiseTo size end ends

-- where a line begins: where the one before it ends
abbrev pub start_in : ℕ → List ℕ → ℕ → ℕ
start_in start ends zero = start
start_in start [] (suc n) = start
start_in start (end ∷ ends) (suc n) = start_in end ends n

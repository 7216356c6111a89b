-- What a sink tells of its text. One that doesn't tell it tells `None`.
use Rattle.std.specs.Prelude.{◌≡◌, ℕ, List, Option, Some, None, take, ◌++◌}

-- the text goes on by the piece
abbrev pub TakesAll : Option (List ℕ) → List ℕ → Option (List ℕ) → Type 0
TakesAll None piece new = new ≡ None
TakesAll (Some old) piece new = new ≡ Some (old ++ piece)

-- the text goes on by a prefix of the piece
abbrev pub TakesPrefix : Option (List ℕ) → List ℕ → Option (List ℕ) → Type 0
TakesPrefix old piece new = (count : ℕ) × TakesAll old (take count piece) new

-- What a slot holds.
use Rattle.std.specs.Prelude.{ℕ, ◌≤◌, Option, unwrap_or}

-- nothing, or a turn number up to 100,000,000
abbrev pub HoldsTurn : Option ℕ → Type 0
HoldsTurn slot = unwrap_or slot 0 ≤ 100000000

-- A text cut at the first of its separators.
use Rattle.std.specs.Prelude.{ℕ, ◌==◌, List, [], ◌∷◌, ◌++◌, Option, Some, None, if◌then◌else◌}

-- the same cut, of the text with these bytes in front
abbrev pub cut_behind : List ℕ → Option (List ℕ × List ℕ) → Option (List ℕ × List ℕ)
cut_behind front None = None
cut_behind front (Some p) = Some (front ++ p.0, p.1)

-- the bytes before the first separator and those after it
abbrev pub cut_at : ℕ → List ℕ → Option (List ℕ × List ℕ)
cut_at separator [] = None
cut_at separator (b ∷ bs) = if b == separator then Some ([], bs) else cut_behind (b ∷ []) (cut_at separator bs)

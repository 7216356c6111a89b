-- Texts of a list's elements, one after another.
use Rattle.std.specs.Prelude.{ℕ, suc, List, [], ◌∷◌, ◌++◌}

-- the texts of elements, of which k came before
abbrev pub pieces : {A : Type 0} → (ℕ → A → List ℕ) → ℕ → List A → List ℕ
pieces piece k [] = []
pieces piece k (x ∷ xs) = piece k x ++ pieces piece (suc k) xs

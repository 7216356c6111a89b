-- How two lists begin.
use Rattle.std.specs.Prelude.{ℕ, suc, Bool, if◌then◌else◌, List, [], ◌∷◌}

-- how many elements two lists begin with alike
abbrev pub common : {A : Type 0} → (A → A → Bool) → List A → List A → ℕ
common same [] ys = 0
common same (x ∷ xs) [] = 0
common same (x ∷ xs) (y ∷ ys) = if same x y then suc (common same xs ys) else 0

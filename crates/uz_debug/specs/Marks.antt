-- Marks in a row as the set of their places.
use Rattle.std.specs.Prelude.{ℕ, suc, Bool, true, false, List, [], ◌∷◌}
use Rattle.std.specs.Ordering.{nat_cmp}
use Rattle.std.specs.FinSet as set

-- the places of the marks that are set, the first standing at this place
abbrev pub marked : ℕ → List Bool → set.FinSet nat_cmp
marked at [] = set.empty
marked at (false ∷ marks) = marked (suc at) marks
marked at (true ∷ marks) = set.insert (marked (suc at) marks) at

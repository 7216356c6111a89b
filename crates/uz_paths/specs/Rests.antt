-- The rests that noted returns make.
use Rattle.std.specs.Prelude.{ℕ, suc, List, [], ◌∷◌, Option, Some, None}
use Rattle.uz_schedule.specs.declared.states.Rest.{Rest}
use Rattle.uz_search.specs.declared.returns.Return.{Return}

-- from a line on, of which the first has this vector
abbrev pub rests_from : ℕ → ℕ → List (Option Return) → List Rest
rests_from line vector [] = []
rests_from line vector (None ∷ returns) = rests_from (suc line) vector returns
rests_from line vector (Some r ∷ returns) =
    record { line = line; clock = r.clock; vector = vector; cells = record { items = r.cells.items } } ∷ rests_from (suc line) (suc vector)
    returns

-- a rest for each line with a return, and a vector's point for each rest
abbrev pub rests_of : List (Option Return) → List Rest
rests_of returns = rests_from 0 0 returns

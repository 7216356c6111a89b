-- A number of things.
use Rattle.std.specs.Prelude.{ℕ, List, [], ◌++◌, codes, decimal, if◌then◌else◌, nat_eq}

-- the number and its word, which ends in s unless there is one
abbrev pub counted : ℕ → List ℕ → List ℕ
counted n word = decimal n ++ word ++ (if nat_eq n 1 then [] else codes "s")

-- what so many do
abbrev pub come : ℕ → List ℕ
come n = if nat_eq n 1 then codes " comes " else codes " come "

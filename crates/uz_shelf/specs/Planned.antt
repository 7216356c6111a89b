-- The faults that are planned for a shelf or a sink in memory.
use Rattle.std.specs.Prelude.{ℕ, ◌+◌, ◌-◌, ◌^◌, ◌==◌, if◌then◌else◌, List, find, take, Option, Some, None}
use Rattle.uz_shelf.specs.Faults.{raised}
use Rattle.uz_shelf.specs.declared.fail.Fail.{Fail}

-- the planned fault of the next call, if one is planned, after so many calls: the first entry of its
-- number, and none past number 2 ^ 32 - 1
abbrev pub planned_fail : List Fail → ℕ → Option Fail
planned_fail fails calls =
    if calls == 2 ^ 32 - 1 then None else find (λ f. f.call == calls + 1) fails

-- a count of faults after a call: a planned fault raises it
abbrev pub counted : Option Fail → ℕ → ℕ
counted None count = count
counted (Some fail) count = raised count

-- what a planned fault keeps of a piece
abbrev pub kept_of : Option Fail → List ℕ → List ℕ
kept_of None piece = piece
kept_of (Some fail) piece = take fail.keep piece

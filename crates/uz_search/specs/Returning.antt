-- What is noted of the handler's returns, line by line: where the first one found ends, and with which cells.
use Rattle.std.specs.Prelude.{◌≡◌, ◌⊎◌, ℕ, List, Option, Some, None, slice_get}
use Rattle.uz_schedule.specs.declared.states.Instance.{Instance}
use Rattle.uz_search.specs.declared.returns.Return.{Return}

-- the noted return ends as this one does
abbrev pub IsReturnOf : Return → Instance → Type 0
IsReturnOf r end = (r.clock ≡ end.clock) × (r.cells ≡ end.cells)

abbrev pub ReturnAt : List (Option Return) → ℕ → Return → Type 0
ReturnAt returns line r = slice_get returns line ≡ Some (Some r)

-- some line has a return
abbrev pub SomeReturn : List (Option Return) → Type 0
SomeReturn returns = (line : ℕ) × (r : Return) × ReturnAt returns line r

-- the return is noted on its line
abbrev pub Noted : List (Option Return) → Instance → Type 0
Noted returns end = (r : Return) × ReturnAt returns end.line r × IsReturnOf r end

-- returns stay
abbrev pub KeepsReturns : List (Option Return) → List (Option Return) → Type 0
KeepsReturns old new = (line : ℕ) (r : Return) → ReturnAt old line r → ReturnAt new line r

-- a return is noted, or its line has another one by the instance of the number that is answered
abbrev pub NotesReturn : List (Option Return) → Instance → ℕ → Option ℕ → List (Option Return) → Type 0
NotesReturn old end by None new = KeepsReturns old new × Noted new end
    × ((line : ℕ) (r : Return) → ReturnAt new line r → ReturnAt old line r ⊎ ((line ≡ end.line) × IsReturnOf r end × (r.by ≡ by)))
NotesReturn old end by (Some other) new = (new ≡ old) × ((r : Return) × ReturnAt old end.line r × (r.by ≡ other) × (IsReturnOf r end → ⊥))

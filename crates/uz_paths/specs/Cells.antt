-- The cells of the hints in order of address.
use Rattle.std.specs.Prelude.{ℕ, suc, ◌<◌, ◌≤◌, ⊤, length, nat_lt, List, [], ◌∷◌, filter, map, insert, if◌then◌else◌}
use Rattle.avr_asm.specs.declared.output.Hint.{Hint}
use Rattle.avr_asm.specs.declared.output.Hint.TheVariants.{Cell}
use Rattle.uz_schedule.specs.declared.kinds.Kind.{Kind}
use Rattle.uz_schedule.specs.declared.kinds.Kind.TheVariants.{Main, Handler, Alone}
use Rattle.uz_schedule.specs.declared.kinds.Owner.{Owner}
use Rattle.uz_schedule.specs.declared.kinds.Owner.TheVariants.{Main as MainCell, Handler as HandlerCell}
use Rattle.uz_schedule.specs.Ends.{Ends, one_number}
use Rattle.uz_schedule.specs.Tracked.{tracks}
use Rattle.uz_paths.specs.declared.cells.Tracked.{Tracked}

abbrev pub owner_of : Kind → Owner
owner_of Main = MainCell
owner_of Handler = HandlerCell
owner_of Alone = MainCell

-- how many of these cells lie at or below an address, before the first that lies above it
abbrev pub place_in : ℕ → List Tracked → ℕ
place_in at [] = 0
place_in at (t ∷ ts) = if nat_lt at t.cell.at then 0 else suc (place_in at ts)

abbrev pub with_cell : Tracked → List Tracked → List Tracked
with_cell t ts = insert ts (place_in t.cell.at ts) t

abbrev pub with_hint : List Tracked → Hint → List Tracked
with_hint ts (Cell at owner lo hi first) =
    with_cell (record { cell = record { at = at; owner = owner_of owner; range = record { lo = lo; hi = hi } }; first = first }) ts
with_hint ts other = ts

-- a cell's range is in order, and there is room for it
abbrev pub HasRoom : List Tracked → Hint → Type 0
HasRoom ts (Cell at owner lo hi first) = (length ts < 16) × (lo ≤ hi)
HasRoom ts other = ⊤

-- the cells of these hints put one by one among others
abbrev pub with_cells : List Tracked → List Hint → List Tracked
with_cells ts [] = ts
with_cells ts (h ∷ hints) = with_cells (with_hint ts h) hints

-- in order of address
abbrev pub cells_of : List Hint → List Tracked
cells_of hints = with_cells [] hints

-- the first value of each of the handler's cells
abbrev pub first_values : List Tracked → List Ends
first_values ts = map (λ t. one_number t.first) (filter (λ t. tracks Handler t.cell.owner) ts)

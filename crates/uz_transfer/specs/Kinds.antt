-- What the kind of an instance decided: I, the cells that are tracked, and how deep the stack may be.
use Rattle.std.specs.Prelude.{Bool, List, None, Option, Some, [], false, if◌then◌else◌, nat_eq, nat_lt, suc, true, ℕ, ◌&&◌, ◌||◌, ◌∷◌}
use Rattle.uz_schedule.specs.Ends.{Ends}
use Rattle.uz_schedule.specs.declared.header.Cell.{Cell}
use Rattle.uz_schedule.specs.declared.header.Head.{Head}
use Rattle.uz_schedule.specs.declared.kinds.Kind.{Kind}
use Rattle.uz_schedule.specs.declared.kinds.Kind.TheVariants.{Alone, Handler, Main}
use Rattle.uz_schedule.specs.declared.kinds.Owner.{Owner}
use Rattle.uz_schedule.specs.declared.kinds.Owner.TheVariants.{Handler as HandlerOwner, Main as MainOwner}

-- Cells

-- a handler's instance tracks the handler's cells, a main one main's, and an alone one all
abbrev pub tracks : Kind → Owner → Bool
tracks Main MainOwner = true
tracks Main HandlerOwner = false
tracks Handler MainOwner = false
tracks Handler HandlerOwner = true
tracks Alone owner = true

-- the number, among the tracked ones, of the cell at an address, where it is tracked; n tracked ones came before
abbrev pub place_from : Kind → List Cell → ℕ → ℕ → Option ℕ
place_from kind [] n at = None
place_from kind (c ∷ cells) n at =
    if nat_eq c.at at then (if tracks kind c.owner then Some n else None)
    else place_from kind cells (if tracks kind c.owner then suc n else n) at

abbrev pub cell_place : Head → Kind → ℕ → Option ℕ
cell_place head kind at = place_from kind head.cells.items 0 at

-- the range that the head gives the cell at an address
abbrev pub range_from : List Cell → ℕ → Option Ends
range_from [] at = None
range_from (c ∷ cells) at = if nat_eq c.at at then Some c.range else range_from cells at

abbrev pub cell_range : Head → ℕ → Option Ends
cell_range head at = range_from head.cells.items at

-- no cell lies in a range of addresses
abbrev pub misses : List Cell → Ends → Bool
misses [] e = true
misses (c ∷ cells) e = (nat_lt c.at e.lo || nat_lt e.hi c.at) && misses cells e

abbrev pub depth_limit : Head → Kind → ℕ
depth_limit head Main = head.main
depth_limit head Handler = head.handler
depth_limit head Alone = head.main

-- I is set in main alone
abbrev pub is_main : Kind → Bool
is_main Main = true
is_main Handler = false
is_main Alone = false

abbrev pub is_handler : Kind → Bool
is_handler Main = false
is_handler Handler = true
is_handler Alone = false

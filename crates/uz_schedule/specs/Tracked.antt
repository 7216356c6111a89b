-- What belongs to a kind of point: the cells that it tracks, and the bytes that it may push.
use Rattle.std.specs.Prelude.{ℕ, Bool, true, false, List, filter}
use Rattle.uz_schedule.specs.declared.kinds.Kind.{Kind}
use Rattle.uz_schedule.specs.declared.kinds.Kind.TheVariants.{Main, Handler, Alone}
use Rattle.uz_schedule.specs.declared.kinds.Owner.{Owner}
use Rattle.uz_schedule.specs.declared.kinds.Owner.TheVariants.{Main as MainCell, Handler as HandlerCell}
use Rattle.uz_schedule.specs.declared.header.Cell.{Cell}
use Rattle.uz_schedule.specs.declared.header.Head.{Head}

-- main and handler track their own cells, a program that is alone tracks all
abbrev pub tracks : Kind → Owner → Bool
tracks Main MainCell = true
tracks Main HandlerCell = false
tracks Handler MainCell = false
tracks Handler HandlerCell = true
tracks Alone owner = true

abbrev pub tracked : Head → Kind → List Cell
tracked h kind = filter (λ c. tracks kind c.owner) h.cells.items

-- a program that is alone has main's part of the stack
abbrev pub depth_of : Head → Kind → ℕ
depth_of h Main = h.main
depth_of h Handler = h.handler
depth_of h Alone = h.main

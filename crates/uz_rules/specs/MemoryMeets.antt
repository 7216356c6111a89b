-- When the bytes of a data space meet what is known of the stack and the cells.
use Rattle.std.specs.Prelude.{List, None, Some, length, slice_index, ℕ, ◌+◌, ◌-◌, ◌<◌, ◌≡◌, ◌≤◌, ◌⊎◌}
use Rattle.uz_schedule.specs.Ends.{Ends}
use Rattle.uz_schedule.specs.declared.facts.Val.{Val}
use Rattle.uz_schedule.specs.declared.header.Head.{Head}
use Rattle.uz_schedule.specs.declared.kinds.Kind.{Kind}
use Rattle.uz_schedule.specs.declared.kinds.Kind.TheVariants.{Alone, Handler, Main}
use Rattle.uz_schedule.specs.declared.states.Instance.{Instance}
use Rattle.uz_core.specs.Core.{Core}
use Rattle.uz_range.specs.Containment.{IsWithin}
use Rattle.uz_transfer.specs.Values.{value_at, span_at}
use Rattle.uz_transfer.specs.Kinds.{cell_place, cell_range}
use Rattle.uz_rules.specs.CoreMeets.{ValueHolds}

-- Bytes of the data space

-- each tracked cell is in its range
abbrev pub CellsHold : Head → Kind → List Ends → List ℕ → Type 0
CellsHold head kind spans bytes = (at j : ℕ) → cell_place head kind at ≡ Some j → IsWithin (slice_index bytes at) (span_at spans j)

-- each cell is in the head's range
abbrev pub HeaderHolds : Head → List ℕ → Type 0
HeaderHolds head bytes = (at : ℕ) (e : Ends) → cell_range head at ≡ Some e → IsWithin (slice_index bytes at) e

-- the stack's slots, from the bottom, lie above SP
abbrev pub StackHolds : List Val → Core → ℕ → List ℕ → Type 0
StackHolds slots o sp bytes = (i : ℕ) → i < length slots → ValueHolds (value_at slots i) o (slice_index bytes (sp + length slots - i))

-- the stack's depth beyond the kind's own slots: under a handler lie main's d slots and the interrupted pc
abbrev pub depth_below : Kind → ℕ → ℕ
depth_below Main d = 0
depth_below Handler d = d + 2
depth_below Alone d = 0

pub record MemoryMeets (head : Head) (inst : Instance) (o : Core) (d sp : ℕ) (bytes : List ℕ) : Type 0 where
  pub slots : StackHolds inst.stack.items o sp bytes
  pub cells : CellsHold head inst.kind inst.cells.items bytes
  pub ranges : HeaderHolds head bytes
  pub depth : sp + length inst.stack.items + depth_below inst.kind d ≡ head.hi

-- A turn leaves what lies above its own slots on the stack (under a handler main's slots and the interrupted pc), and the cells that its
-- kind doesn't track
pub record Untouched (head : Head) (kind : Kind) (base : ℕ) (old new : List ℕ) : Type 0 where
  pub above : (a : ℕ) → base < a → a ≤ head.hi → slice_index new a ≡ slice_index old a
  pub cells : (a : ℕ) (r : Ends) → cell_range head a ≡ Some r → cell_place head kind a ≡ None → slice_index new a ≡ slice_index old a

-- The head's limits: the stack lies in RAM with room for main, an interrupted pc and the handler, and the cells lie in RAM off it
pub record HeadFits (head : Head) : Type 0 where
  pub low : 256 ≤ head.lo
  pub high : head.hi ≤ 4351
  pub room : head.lo + head.main + 2 + head.handler ≤ head.hi + 1
  pub cells_ram : (at : ℕ) (e : Ends) → cell_range head at ≡ Some e → (256 ≤ at) × (at ≤ 4351)
  pub cells_off : (at : ℕ) (e : Ends) → cell_range head at ≡ Some e → (at < head.lo) ⊎ (head.hi < at)

-- The different values of parts, of which some were met and others are left.
use Rattle.std.specs.Prelude.{ℕ, ◌≡◌, ◌<◌, List, [], get_or, length, map}
use Rattle.uz_schedule.specs.Ends.{Ends}
use Rattle.uz_schedule.specs.declared.kinds.Kind.TheVariants.{Main, Handler, Alone}
use Rattle.uz_schedule.specs.declared.facts.Val.TheVariants.{Range}
use Rattle.uz_schedule.specs.declared.states.Instance.{Instance}
use Rattle.uz_explanations.specs.declared.parts.Class.{Class}
use Rattle.uz_explanations.specs.declared.parts.Class.TheVariants.{Register, Pair, Flag, Slot, Cell}
use Rattle.uz_explanations.specs.declared.parts.Value.{Value}
use Rattle.uz_explanations.specs.declared.parts.Value.TheVariants as what
use Rattle.uz_explanations.specs.declared.seen.Seen.{Seen}
use Rattle.uz_explanations.specs.declared.gathering.Values.{Values}
use Rattle.uz_explanations.specs.declared.gathering.CellValues.{CellValues}
use Rattle.uz_explanations.specs.Differing.{values}
use Rattle.uz_explanations.specs.Putting.{keep_all}

-- the values of the part of this number, none past the last one
abbrev pub seen_at : {X : Type 0} → (X → Value) → List (Seen X) → ℕ → List Value
seen_at value seen k = get_or (map (λ s. map value s.values.items) seen) k []

-- what instances say of each part is kept
pub record AreKept {X : Type 0} (class : Class) (value : X → Value) (old new : List (Seen X)) (here : List Instance) : Type 0 where
  pub size : length new ≡ length old
  pub each : (k : ℕ) → k < length old → seen_at value new k ≡ keep_all (seen_at value old k) (values class k here)

-- of n parts of a kind: with what the instances that are left say, the values are those of all
pub record AreOf {X : Type 0} (class : Class) (n : ℕ) (value : X → Value) (left all : List Instance) (seen : List (Seen X)) : Type 0 where
  pub size : length seen ≡ n
  pub each : (k : ℕ) → k < n → keep_all (seen_at value seen k) (values class k left) ≡ keep_all [] (values class k all)

abbrev pub cell_value : Ends → Value
cell_value e = what.Byte (Range e)

pub record AreCellsOf (left all : List Instance) (v : CellValues) : Type 0 where
  pub main : AreOf (Cell Main) 16 cell_value left all v.main.items
  pub handler : AreOf (Cell Handler) 16 cell_value left all v.handler.items
  pub alone : AreOf (Cell Alone) 16 cell_value left all v.alone.items

-- of all parts
pub record AreAllOf (left all : List Instance) (v : Values) : Type 0 where
  pub registers : AreOf Register 32 what.Byte left all v.registers.items
  pub pairs : AreOf Pair 3 what.Pair left all v.pairs.items
  pub flags : AreOf Flag 7 what.Flag left all v.flags.items
  pub slots : AreOf Slot 32 what.Byte left all v.slots.items
  pub cells : AreCellsOf left all v.cells

-- The parts of what an instance says, and their names.
use Rattle.std.specs.Prelude.{ℕ, ◌&&◌, Bool, true, false, List, [], ◌∷◌, ◌++◌, Option, None, option_map, codes, decimal, nat_eq}
use Rattle.std.specs.Prelude.{if◌then◌else◌, slice_get, slice_index_or}
use Rattle.uz_schedule.specs.Ends.{Ends}
use Rattle.uz_schedule.specs.declared.kinds.Kind.{Kind}
use Rattle.uz_schedule.specs.declared.kinds.Kind.TheVariants.{Main, Handler, Alone}
use Rattle.uz_schedule.specs.declared.facts.Bit.{Bit}
use Rattle.uz_schedule.specs.declared.facts.Bit.TheVariants as bits
use Rattle.uz_schedule.specs.declared.facts.Val.{Val}
use Rattle.uz_schedule.specs.declared.facts.Val.TheVariants.{Range, Old, OldFlags}
use Rattle.uz_schedule.specs.declared.states.Instance.{Instance}
use Rattle.uz_explanations.specs.declared.parts.Class.{Class}
use Rattle.uz_explanations.specs.declared.parts.Class.TheVariants.{Register, Pair, Flag, Slot, Cell}
use Rattle.uz_explanations.specs.declared.parts.Value.{Value}
use Rattle.uz_explanations.specs.declared.parts.Value.TheVariants as what

abbrev pub same_kind : Kind → Kind → Bool
same_kind Main Main = true
same_kind Handler Handler = true
same_kind Alone Alone = true
same_kind a b = false

-- what an instance says of the part of this number, if it has one; a cell is of one side
abbrev pub said : Class → ℕ → Instance → Option Value
said Register k x = option_map what.Byte (slice_get x.regs k)
said Pair k x = option_map what.Pair (slice_get x.pairs k)
said Flag k x = option_map what.Flag (slice_get x.flags k)
said Slot k x = option_map what.Byte (slice_get x.stack.items k)
said (Cell kind) k x = if same_kind x.kind kind then option_map (λ e. what.Byte (Range e)) (slice_get x.cells.items k) else None

-- whether two say the same

abbrev pub same_ends : Ends → Ends → Bool
same_ends a b = nat_eq a.lo b.lo && nat_eq a.hi b.hi

abbrev pub same_val : Val → Val → Bool
same_val (Range a) (Range b) = same_ends a b
same_val (Old q) (Old r) = nat_eq q r
same_val OldFlags OldFlags = true
same_val a b = false

abbrev pub same_bit : Bit → Bit → Bool
same_bit bits.Zero bits.Zero = true
same_bit bits.One bits.One = true
same_bit bits.Free bits.Free = true
same_bit bits.Old bits.Old = true
same_bit a b = false

abbrev pub same : Value → Value → Bool
same (what.Byte a) (what.Byte b) = same_val a b
same (what.Pair a) (what.Pair b) = same_ends a b
same (what.Flag a) (what.Flag b) = same_bit a b
same a b = false

-- the name of a part, as a certificate has it: the pairs and the flags have letters, which a word before them tells apart, and the cells
-- of a side are counted by themselves
abbrev pub part_name : Class → ℕ → List ℕ
part_name Register k = codes "r" ++ decimal k
part_name Pair k = codes "pair " ++ (slice_index_or (codes "xyz") k 32 ∷ [])
part_name Flag k = codes "flag " ++ (slice_index_or (codes "cznvsht") k 32 ∷ [])
part_name Slot k = codes "s" ++ decimal k
part_name (Cell Main) k = codes "main m" ++ decimal k
part_name (Cell Handler) k = codes "handler m" ++ decimal k
part_name (Cell Alone) k = codes "alone m" ++ decimal k

-- Facts of a register or a pointer at a program counter, and what they make of an instance that comes by.
use Rattle.std.specs.Prelude.{Bool, List, [], ◌∷◌, if◌then◌else◌, not, ◌&&◌, nat_eq, nat_lt, slice_set}
use Rattle.std.specs.Prelude.{slice_index_or}
use Rattle.uz_schedule.specs.Ends.{Ends, is_within, whole_byte, whole_pair}
use Rattle.uz_schedule.specs.declared.facts.Val.{Val}
use Rattle.uz_schedule.specs.declared.facts.Val.TheVariants.{Range, Old, OldFlags}
use Rattle.uz_schedule.specs.declared.states.Instance.{Instance}
use Rattle.uz_search.specs.declared.widening.Widening.{Widening}
use Rattle.uz_search.specs.declared.widening.Widening.TheVariants.{Register, Pair}

-- a place whose range lies in the fact's has the fact's range; interrupted values stay
abbrev pub widened_value : Ends → Val → Val
widened_value fact (Range e) = if is_within e fact then Range fact else Range e
widened_value fact (Old r) = Old r
widened_value fact OldFlags = OldFlags

abbrev pub is_whole : Ends → Bool
is_whole e = nat_eq e.lo 0 && nat_eq e.hi 65535

-- of a pair the fact 0..65535 says nothing
abbrev pub widened_pair : Ends → Ends → Ends
widened_pair fact e = if not (is_whole fact) && is_within e fact then fact else e

-- a fact of a register doesn't move its pair, and one of a pair doesn't move its bytes
unfoldable pub widened_by : Widening → Instance → Instance
widened_by (Register r fact) x =
    if nat_lt r 32 then record x { regs = slice_set x.regs r (widened_value fact (slice_index_or x.regs r (Range whole_byte))) } else x
widened_by (Pair k fact) x =
    if nat_lt k 3 then record x { pairs = slice_set x.pairs k (widened_pair fact (slice_index_or x.pairs k whole_pair)) } else x

-- by facts in their order
abbrev pub widened_all : List Widening → Instance → Instance
widened_all [] x = x
widened_all (fact ∷ facts) x = widened_all facts (widened_by fact x)

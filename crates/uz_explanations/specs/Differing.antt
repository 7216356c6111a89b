-- In which parts instances differ, and how many values each of these has.
use Rattle.std.specs.Prelude.{ℕ, zero, suc, not, List, [], ◌∷◌, ◌++◌, length, codes, decimal, filter, filter_map, min, nat_lt}
use Rattle.std.specs.Prelude.{if◌then◌else◌}
use Rattle.uz_schedule.specs.declared.kinds.Kind.TheVariants.{Main, Handler, Alone}
use Rattle.uz_schedule.specs.declared.states.Instance.{Instance}
use Rattle.uz_explanations.specs.declared.parts.Class.{Class}
use Rattle.uz_explanations.specs.declared.parts.Class.TheVariants.{Register, Pair, Flag, Slot, Cell}
use Rattle.uz_explanations.specs.declared.parts.Value.{Value}
use Rattle.uz_explanations.specs.Parts.{part_name, said, same}

-- values are counted up to this number
abbrev pub most_values : ℕ
most_values = 256

-- what instances say of a part
abbrev pub values : Class → ℕ → List Instance → List Value
values class k instances = filter_map (said class k) instances

-- each value of a list once: the first one, and of the others each once that isn't the same
abbrev pub each_once : List Value → List Value
each_once [] = []
each_once (x ∷ xs) = x ∷ filter (λ y. not (same x y)) (each_once xs)

-- how many different values they say of it, counted up to 256
abbrev pub different : Class → ℕ → List Instance → ℕ
different class k instances = min most_values (length (each_once (values class k instances)))

-- so many values, or more where the count is at its end
abbrev pub values_text : ℕ → List ℕ
values_text n = decimal n ++ (if nat_lt n most_values then [] else codes " or more") ++ codes " values\n"

-- the line of a part with so many different values: none where they are alike
abbrev pub part_line : Class → ℕ → ℕ → List ℕ
part_line class k n = if nat_lt n 2 then [] else codes " " ++ part_name class k ++ codes " " ++ values_text n

-- the lines of the first n parts of a kind
unfoldable pub parts_text : Class → ℕ → List Instance → List ℕ
parts_text class zero instances = []
parts_text class (suc n) instances = parts_text class n instances ++ part_line class n (different class n instances)

abbrev pub cells_text : List Instance → List ℕ
cells_text instances = parts_text (Cell Main) 16 instances ++ parts_text (Cell Handler) 16 instances ++ parts_text (Cell Alone) 16 instances

-- the lines of all parts in which instances differ
unfoldable pub differing : List Instance → List ℕ
differing instances =
    parts_text Register 32 instances ++ parts_text Pair 3 instances ++ parts_text Flag 7 instances ++ parts_text Slot 32 instances
    ++ cells_text instances

-- Splits: where a result of main goes on in pieces, by the values of one register. The states with one value of it then go on by exact rules
-- (this project's profile).
use Rattle.std.specs.Prelude.{ℕ, zero, suc, ◌+◌, ◌-◌, ◌*◌, ◌/◌, ◌&&◌, ◌++◌, min, nat_eq, nat_le, nat_lt, Bool, List, [], ◌∷◌}
use Rattle.std.specs.Prelude.{Option, Some, None, length, if◌then◌else◌}
use Rattle.std.specs.List.{flat_map}
use Rattle.uz_schedule.specs.Ends.{Ends}
use Rattle.uz_schedule.specs.declared.facts.Val.TheVariants.{Range}
use Rattle.uz_schedule.specs.declared.states.Instance.{Instance}
use Rattle.uz_transfer.specs.Values.{span_of, value_at, with_value}
use Rattle.uz_search.specs.declared.splitting.Split.{Split}

-- the register that is split where the instruction at a program counter was executed, by the first of the splits that names it
abbrev pub split_in : List Split → ℕ → Option ℕ
split_in [] pc = None
split_in (s ∷ splits) pc = if nat_eq s.pc pc then Some s.register else split_in splits pc

-- a range is split where it has 2 to 64 values
abbrev pub is_split : Ends → Bool
is_split e = nat_lt e.lo e.hi && nat_lt (e.hi - e.lo) 64

-- how many values of a range a piece has, so that there are at most so many pieces
abbrev pub piece_size : ℕ → Ends → ℕ
piece_size most e = (e.hi - e.lo) / most + 1

-- the piece from the value v on, where the range has it: register r has its values, as a write of them leaves it
abbrev pub piece_from : ℕ → ℕ → Ends → Instance → ℕ → List Instance
piece_from most r e y v =
    if nat_le v e.hi then with_value r (Range (record { lo = v; hi = min e.hi (v + (e.hi - e.lo) / most) })) y ∷ [] else []

-- the first n pieces
unfoldable pub first_pieces : ℕ → ℕ → Ends → Instance → ℕ → List Instance
first_pieces most r e y zero = []
first_pieces most r e y (suc n) = first_pieces most r e y n ++ piece_from most r e y (e.lo + n * piece_size most e)

-- all pieces of one result, at most so many
abbrev pub pieces_of : ℕ → ℕ → Ends → Instance → List Instance
pieces_of most r e y = if nat_lt r 32 && is_split e then first_pieces most r e y most else y ∷ []

-- the pieces of each of these results
abbrev pub pieces_each : ℕ → ℕ → List Instance → List Instance
pieces_each most r results = flat_map (λ y. pieces_of most r (span_of (value_at y.regs r)) y) results

-- what results go on in: pieces where a register is split, 16 at most
abbrev pub pieces : Option ℕ → List Instance → List Instance
pieces None results = results
pieces (Some r) results = pieces_each (16 / length results) r results

-- The numbers of the points where an instruction may lead: rising, each once.
use Rattle.std.specs.Prelude.{ℕ, suc, ◌&&◌, not, nat_lt, nat_eq, Bool, false, List, [], ◌∷◌, Option, Some, None, length, slice_get}
use Rattle.std.specs.Prelude.{insert, if◌then◌else◌}

-- how many of these numbers, rising, are below one
abbrev pub count_below : ℕ → List ℕ → ℕ
count_below n [] = 0
count_below n (m ∷ ms) = if nat_lt m n then suc (count_below n ms) else 0

abbrev pub is_number : ℕ → Option ℕ → Bool
is_number n None = false
is_number n (Some m) = nat_eq m n

-- the number is put in its place, where it isn't there and 16 have room
abbrev pub with_number : ℕ → List ℕ → List ℕ
with_number n ms =
    if not (is_number n (slice_get ms (count_below n ms))) && nat_lt (length ms) 16 then insert ms (count_below n ms) n else ms

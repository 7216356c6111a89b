-- Decimal numbers without a sign or a leading zero.
use Rattle.std.specs.Prelude.{ℕ, ◌+◌, ◌-◌, ◌*◌, ◌==◌, ◌&&◌, ◌||◌, not, nat_le, nat_lt, Bool, true, List, [], ◌∷◌, length, slice_index}
use Rattle.std.specs.Prelude.{Option, Some, None, if◌then◌else◌}
use Prim.Native.Char.{code}

-- each byte is one of `0` to `9`
abbrev pub all_digits : List ℕ → Bool
all_digits [] = true
all_digits (c ∷ cs) = (nat_le (code "0") c && nat_le c (code "9")) && all_digits cs

-- the number that digits make after those of n
abbrev pub digits_after : ℕ → List ℕ → ℕ
digits_after n [] = n
digits_after n (c ∷ cs) = digits_after (n * 10 + (c - code "0")) cs

-- a first byte, which isn't 0 where there are more
abbrev pub has_first : List ℕ → Bool
has_first w = nat_lt 0 (length w) && (not (slice_index w 0 == code "0") || (length w == 1))

-- digits, at least one, of which the first isn't 0 where there are more
abbrev pub is_numeral : List ℕ → Bool
is_numeral w = nat_lt 0 (length w) && ((not (slice_index w 0 == code "0") || (length w == 1)) && all_digits w)

-- the number that a word spells, where it is below the limit
abbrev pub number_below : ℕ → List ℕ → Option ℕ
number_below limit w = if is_numeral w && nat_lt (digits_after 0 w) limit then Some (digits_after 0 w) else None

-- a number, where it isn't below low
abbrev pub from_low : ℕ → Option ℕ → Option ℕ
from_low low None = None
from_low low (Some n) = if nat_le low n then Some n else None

-- the number that a word spells, where it is at least low and below the limit
abbrev pub number_within : ℕ → ℕ → List ℕ → Option ℕ
number_within low limit w = from_low low (number_below limit w)

-- the number that digits make after those of n, where they are digits and it is below the limit
abbrev pub number_after : ℕ → ℕ → List ℕ → Option ℕ
number_after limit n w = if all_digits w && nat_lt (digits_after n w) limit then Some (digits_after n w) else None

-- The numbers of a source text: decimal, `0x` hexadecimal and `0b` binary, at most 2 ^ 63 - 1.
use Rattle.std.specs.Prelude.{ℕ, ◌+◌, ◌-◌, ◌*◌, ◌^◌, ◌==◌, ◌&&◌, nat_le, nat_lt, Bool, true, List, [], ◌∷◌, length, drop, slice_index}
use Rattle.std.specs.Prelude.{Option, Some, None, if◌then◌else◌}
use Prim.Native.Char.{code}

-- what a digit of either case is worth, from 0 to 15, and 16 for a byte that is no digit
abbrev pub digit_worth : ℕ → ℕ
digit_worth b =
    if nat_le (code "0") b && nat_le b (code "9") then b - code "0"
    else if nat_le (code "a") b && nat_le b (code "f") then b - code "a" + 10
    else if nat_le (code "A") b && nat_le b (code "F") then b - code "A" + 10
    else 16

-- each byte is a digit of the base
abbrev pub are_digits : ℕ → List ℕ → Bool
are_digits base [] = true
are_digits base (b ∷ bs) = nat_lt (digit_worth b) base && are_digits base bs

-- the number that digits go on to after those of n
abbrev pub read_on : ℕ → ℕ → List ℕ → ℕ
read_on base n [] = n
read_on base n (b ∷ bs) = read_on base (n * base + digit_worth b) bs

-- what n goes on to by digits alone, where it stays below the limit
abbrev pub goes_on_to : ℕ → ℕ → List ℕ → Option ℕ
goes_on_to base n bs = if are_digits base bs && nat_lt (read_on base n bs) (2 ^ 63) then Some (read_on base n bs) else None

-- the number of one digit or more
abbrev pub digits_of : ℕ → List ℕ → Option ℕ
digits_of base bs = if length bs == 0 then None else goes_on_to base 0 bs

-- the number that a word is: the prefixes are in lower case alone
abbrev pub number_of : List ℕ → Option ℕ
number_of word =
    if slice_index word 0 == code "0" && slice_index word 1 == code "x" then digits_of 16 (drop 2 word)
    else if slice_index word 0 == code "0" && slice_index word 1 == code "b" then digits_of 2 (drop 2 word)
    else digits_of 10 word

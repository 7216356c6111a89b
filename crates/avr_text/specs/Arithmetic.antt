-- What the operators of expressions compute. A value is a signed number of 64 bits, and each step's result has to be one.
use Rattle.std.specs.Prelude.{ℕ, ◌^◌, ◌==◌, nat_lt, Bool, false, ℤ, pos, negsuc, ◌+ℤ◌, ◌-ℤ◌, ◌*ℤ◌, neg_ℤ, int_div, int_rem, Result, Ok, Err}
use Rattle.std.specs.Prelude.{if◌then◌else◌}
use Rattle.std.specs.Int.{w64, int_bit_or, int_bit_xor, int_bit_and, int_shr, int_rem_euclid}
use Rattle.avr_text.specs.declared.values.ValueWhy.{ValueWhy}
use Rattle.avr_text.specs.declared.values.ValueWhy.TheVariants.{Overflow, ZeroDivisor}

-- a value, or why there is none
abbrev pub ValueOrWhy : Type 0
ValueOrWhy = Result ℤ ValueWhy

-- from -2 ^ 63 to 2 ^ 63 - 1
abbrev pub fits : ℤ → Bool
fits (pos n) = nat_lt n (2 ^ 63)
fits (negsuc n) = nat_lt n (2 ^ 63)

abbrev pub checked : ℤ → ValueOrWhy
checked z = if fits z then Ok z else Err Overflow

abbrev pub is_zero : ℤ → Bool
is_zero (pos n) = n == 0
is_zero (negsuc n) = false

abbrev pub sum_of : ℤ → ℤ → ValueOrWhy
sum_of x y = checked (x +ℤ y)

abbrev pub difference_of : ℤ → ℤ → ValueOrWhy
difference_of x y = checked (x -ℤ y)

abbrev pub product_of : ℤ → ℤ → ValueOrWhy
product_of x y = checked (x *ℤ y)

-- toward 0
abbrev pub quotient_of : ℤ → ℤ → ValueOrWhy
quotient_of x y = if is_zero y then Err ZeroDivisor else checked (int_div x y)

-- of that division
abbrev pub remainder_of : ℤ → ℤ → ValueOrWhy
remainder_of x y = if is_zero y then Err ZeroDivisor else checked (int_rem x y)

-- a shift count from 0 to 63
abbrev pub with_count : ℤ → (ℕ → ValueOrWhy) → ValueOrWhy
with_count (pos n) shift = if nat_lt n 64 then shift n else Err Overflow
with_count (negsuc n) shift = Err Overflow

-- times a power of 2
abbrev pub shifted_left : ℤ → ℤ → ValueOrWhy
shifted_left x y = with_count y (λ n. checked (x *ℤ pos (2 ^ n)))

-- divided by a power of 2, rounded down: the sign stays
abbrev pub shifted_right : ℤ → ℤ → ValueOrWhy
shifted_right x y = with_count y (λ n. Ok (int_shr x n))

-- the operators by bits, on two's complement
abbrev pub or_of : ℤ → ℤ → ℤ
or_of x y = int_bit_or w64 x y

abbrev pub xor_of : ℤ → ℤ → ℤ
xor_of x y = int_bit_xor w64 x y

abbrev pub and_of : ℤ → ℤ → ℤ
and_of x y = int_bit_and w64 x y

abbrev pub negated_of : ℤ → ValueOrWhy
negated_of x = checked (neg_ℤ x)

-- each bit turned over: -1 - x
abbrev pub complement_of : ℤ → ℤ
complement_of (pos n) = negsuc n
complement_of (negsuc n) = pos n

-- bits 0 to 7, and bits 8 to 15
abbrev pub low_of : ℤ → ℤ
low_of x = int_rem_euclid x (pos 256)

abbrev pub high_of : ℤ → ℤ
high_of x = int_rem_euclid (int_shr x 8) (pos 256)

-- What an instruction makes of a flag, and what a comparison of pairs by their bytes is (AVR Instruction Set Manual).
use Rattle.std.specs.Prelude.{ℕ, ◌+◌, ◌*◌, Bool, Option, None, slice_index_or, false, ◌/◌, ◌%◌, unwrap_or}
use Rattle.uz_core.specs.Arithmetic.{AluResult, difference_of, chained_result}

-- flag C, Z, N, V, S, H or T, by its bit in SREG, 0 to 6; None where it stays
abbrev pub flag_after : AluResult → ℕ → Option Bool
flag_after r flag = slice_index_or r.flags flag None

-- CP and CPI: of x less y
abbrev pub byte_flag : ℕ → ℕ → ℕ → Option Bool
byte_flag x y flag = flag_after (difference_of x y false) flag

-- CP or CPI of the low bytes, and CPC of the high ones
abbrev pub low_difference : ℕ → ℕ → AluResult
low_difference x y = difference_of (x % 256) (y % 256) false

abbrev pub pair_difference : ℕ → ℕ → AluResult
pair_difference x y =
    chained_result (difference_of (x / 256) (y / 256) (unwrap_or (flag_after (low_difference x y) 0) false))
    (unwrap_or (flag_after (low_difference x y) 1) false)

abbrev pub pair_flag : ℕ → ℕ → ℕ → Option Bool
pair_flag x y flag = flag_after (pair_difference x y) flag

-- the pair that SUBI and SBCI leave, or SUB and SBC
abbrev pub difference_value : ℕ → ℕ → ℕ
difference_value x y = (low_difference x y).value + 256 * (pair_difference x y).value

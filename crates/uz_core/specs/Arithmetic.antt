-- Results and flags of the arithmetic instructions, as numbers (AVR Instruction Set Manual).
use Rattle.std.specs.Prelude.{◌≡◌, ◌<◌, ℕ, ◌+◌, ◌-◌, ◌*◌, ◌/◌, ◌%◌, ◌^◌, Bool, true, false, not, ◌||◌, ◌&&◌, Option, Some, None, List, []}
use Rattle.std.specs.Prelude.{◌∷◌, ℤ, pos, negsuc, ◌+ℤ◌, ◌-ℤ◌, ◌*ℤ◌, int_lt, int_le, nat_lt, nat_le, nat_eq, if◌then◌else◌, bit_and, bit_or}
use Rattle.std.specs.Prelude.{bit_xor}
use Rattle.std.specs.Int.{bit_at, int_rem_euclid}
use Rattle.std.specs.Int.RustNames.{unsigned_abs}
use Rattle.uz_core.specs.declared.machine.Flags.{Flags}

-- What an operation gives: its result, and for each of the flags C Z N V S H T the value that it takes, or None where it stays
pub record AluResult : Type 0 where
  pub value : ℕ
  pub flags : List (Option Bool)

-- Bits and bytes

abbrev pub bit_value : Bool → ℕ
bit_value true = 1
bit_value false = 0

abbrev pub exclusive_or : Bool → Bool → Bool
exclusive_or true b = not b
exclusive_or false b = b

-- whether bit k of a number is 1
abbrev pub bit_is_set : ℕ → ℕ → Bool
bit_is_set n k = nat_eq (bit_at n k) 1

-- a byte with bit k set or cleared
abbrev pub with_bit : ℕ → Bool → ℕ → ℕ
with_bit k true n = bit_or n (2 ^ k)
with_bit k false n = bit_and n (255 - 2 ^ k)

-- a byte as a number in two's complement
abbrev pub signed : ℕ → ℤ
signed a = if nat_lt a 128 then pos a else pos a -ℤ pos 256

-- two's complement overflow: above 127, or below -128
abbrev pub overflows : ℤ → Bool
overflows z = int_le (pos 128) z || int_lt z (negsuc 127)

-- bit 7
abbrev pub is_negative : ℕ → Bool
is_negative v = nat_le 128 v

-- The groups of flags. S is always N exclusive or V

-- all but T
abbrev pub flags_cznvsh : Bool → Bool → Bool → Bool → Bool → List (Option Bool)
flags_cznvsh c z n v h = Some c ∷ Some z ∷ Some n ∷ Some v ∷ Some (exclusive_or n v) ∷ Some h ∷ None ∷ []

-- C and H stay
abbrev pub flags_znvs : Bool → Bool → Bool → List (Option Bool)
flags_znvs z n v = None ∷ Some z ∷ Some n ∷ Some v ∷ Some (exclusive_or n v) ∷ None ∷ None ∷ []

-- H stays
abbrev pub flags_cznvs : Bool → Bool → Bool → Bool → List (Option Bool)
flags_cznvs c z n v = Some c ∷ Some z ∷ Some n ∷ Some v ∷ Some (exclusive_or n v) ∷ None ∷ None ∷ []

-- all but C and Z stay
abbrev pub flags_cz : Bool → Bool → List (Option Bool)
flags_cz c z = Some c ∷ Some z ∷ None ∷ None ∷ None ∷ None ∷ None ∷ []

abbrev pub flags_none : List (Option Bool)
flags_none = None ∷ None ∷ None ∷ None ∷ None ∷ None ∷ None ∷ []

-- Sums and differences: ADD ADC, SUB SBC CP CPC

-- a result with all its flags, from the byte's value modulo 256, V, H and C
abbrev pub byte_result : ℕ → Bool → Bool → Bool → AluResult
byte_result s v h c = record { value = s % 256; flags = flags_cznvsh c (nat_eq (s % 256) 0) (is_negative (s % 256)) v h }

-- V: the signed sum overflows; H: the low halves give 16 or more; C: the bytes give 256 or more
abbrev pub sum_of : ℕ → ℕ → Bool → AluResult
sum_of a b carry =
    byte_result (a + b + bit_value carry)
    (overflows (signed a +ℤ signed b +ℤ pos (bit_value carry)))
    (nat_le 16 (a % 16 + b % 16 + bit_value carry))
    (nat_le 256 (a + b + bit_value carry))

-- V: the signed difference overflows; H, C: the subtrahend with its carry is greater, on the low halves and on the bytes
abbrev pub difference_of : ℕ → ℕ → Bool → AluResult
difference_of a b carry =
    byte_result (a + 512 - (b + bit_value carry))
    (overflows (signed a -ℤ signed b -ℤ pos (bit_value carry)))
    (nat_lt (a % 16) (b % 16 + bit_value carry))
    (nat_lt a (b + bit_value carry))

-- the second flag cleared
abbrev pub with_z_cleared : List (Option Bool) → List (Option Bool)
with_z_cleared [] = []
with_z_cleared (c ∷ []) = c ∷ []
with_z_cleared (c ∷ z ∷ fs) = c ∷ Some false ∷ fs

-- the result after an earlier one (SBC, SBCI, CPC): Z is 0 where it was 0
abbrev pub chained_result : AluResult → Bool → AluResult
chained_result r true = r
chained_result r false = record { value = r.value; flags = with_z_cleared r.flags }

-- Logic: AND OR EOR

-- V is 0
abbrev pub logic_result : ℕ → AluResult
logic_result v = record { value = v; flags = flags_znvs (nat_eq v 0) (is_negative v) false }

abbrev pub and_of : ℕ → ℕ → AluResult
and_of a b = logic_result (bit_and a b)

abbrev pub or_of : ℕ → ℕ → AluResult
or_of a b = logic_result (bit_or a b)

abbrev pub xor_of : ℕ → ℕ → AluResult
xor_of a b = logic_result (bit_xor a b)

-- One byte: COM NEG SWAP INC DEC

-- C is 1, V is 0
abbrev pub complement_of : ℕ → AluResult
complement_of a = record { value = 255 - a; flags = flags_cznvs true (nat_eq (255 - a) 0) (is_negative (255 - a)) false }

abbrev pub negation_of : ℕ → AluResult
negation_of a = difference_of 0 a false

abbrev pub swap_of : ℕ → AluResult
swap_of a = record { value = a % 16 * 16 + a / 16; flags = flags_none }

abbrev pub increment_result : ℕ → Bool → AluResult
increment_result v overflow = record { value = v; flags = flags_znvs (nat_eq v 0) (is_negative v) overflow }

-- V where the result is 0x80
abbrev pub increment_of : ℕ → AluResult
increment_of a = increment_result ((a + 1) % 256) (nat_eq ((a + 1) % 256) 128)

-- V where the result is 0x7F
abbrev pub decrement_of : ℕ → AluResult
decrement_of a = increment_result ((a + 255) % 256) (nat_eq ((a + 255) % 256) 127)

-- Shifts of a to the right: C is the old bit 0, V is N exclusive or C

abbrev pub shift_result : ℕ → ℕ → AluResult
shift_result a v = record {
  value = v;
  flags = flags_cznvs (nat_eq (a % 2) 1) (nat_eq v 0) (is_negative v)
      (exclusive_or (is_negative v) (nat_eq (a % 2) 1));
}

abbrev pub logical_shift_of : ℕ → AluResult
logical_shift_of a = shift_result a (a / 2)

-- bit 7 stays
abbrev pub arithmetic_shift_of : ℕ → AluResult
arithmetic_shift_of a = shift_result a (a / 2 + a / 128 * 128)

-- bit 7 is the old C
abbrev pub rotation_of : ℕ → Bool → AluResult
rotation_of a carry = shift_result a (a / 2 + bit_value carry * 128)

-- A pair and a constant: ADIW SBIW. N is bit 15 of the result

abbrev pub pair_result : ℕ → Bool → Bool → AluResult
pair_result v c o = record { value = v; flags = flags_cznvs c (nat_eq v 0) (nat_le 32768 v) o }

-- C: the result's bit 15 is 0 and the old one 1; V: the old one is 0 and the result's 1
abbrev pub pair_sum_of : ℕ → ℕ → AluResult
pair_sum_of p k =
    pair_result ((p + k) % 65536)
    (not (nat_le 32768 ((p + k) % 65536)) && nat_le 32768 p)
    (not (nat_le 32768 p) && nat_le 32768 ((p + k) % 65536))

-- C: the result's bit 15 is 1 and the old one 0; V: the old one is 1 and the result's 0
abbrev pub pair_difference_of : ℕ → ℕ → AluResult
pair_difference_of p k =
    pair_result ((p + 65536 - k) % 65536)
    (nat_le 32768 ((p + 65536 - k) % 65536) && not (nat_le 32768 p))
    (nat_le 32768 p && not (nat_le 32768 ((p + 65536 - k) % 65536)))

-- Products: MUL MULS MULSU FMUL FMULS FMULSU

-- a factor, signed or not
abbrev pub factor : ℕ → Bool → ℤ
factor a true = signed a
factor a false = pos a

-- the low 16 bits of a number
unfoldable pub low_word : ℤ → ℕ
low_word z = unsigned_abs (int_rem_euclid z (pos 65536))

abbrev pub left_shift_of : Bool → ℕ → ℕ
left_shift_of true w = 2 * w % 65536
left_shift_of false w = w

-- C is bit 15 of the product before the shift, Z is of the result
abbrev pub product_result : ℕ → ℕ → AluResult
product_result v w = record { value = v; flags = flags_cz (nat_le 32768 w) (nat_eq v 0) }

-- two bytes, whether each is signed, and whether the product is shifted left by one
abbrev pub product_of : ℕ → ℕ → Bool → Bool → Bool → AluResult
product_of a b a_signed b_signed is_shifted =
    product_result (left_shift_of is_shifted (low_word (factor a a_signed *ℤ factor b b_signed)))
    (low_word (factor a a_signed *ℤ factor b b_signed))

-- Flags and the status register

-- SREG after an operation: from bit 0 on each flag takes its value or stays, and the bits above the list stay
abbrev pub merged_sreg : List (Option Bool) → ℕ → ℕ
merged_sreg [] sreg = sreg
merged_sreg (None ∷ flags) sreg = sreg % 2 + 2 * merged_sreg flags (sreg / 2)
merged_sreg (Some b ∷ flags) sreg = bit_value b + 2 * merged_sreg flags (sreg / 2)

-- what a value and a mask say of a flag
abbrev pub flag_at : Flags → ℕ → Option Bool
flag_at f k = if bit_is_set f.mask k then Some (bit_is_set f.value k) else None

abbrev pub flags_of : Flags → List (Option Bool)
flags_of f = flag_at f 0 ∷ flag_at f 1 ∷ flag_at f 2 ∷ flag_at f 3 ∷ flag_at f 4 ∷ flag_at f 5 ∷ flag_at f 6 ∷ []

-- I isn't in the mask, and the value has no bit outside the mask
abbrev pub FitsMask : Flags → Type 0
FitsMask f = (f.mask < 128) × (bit_and f.value f.mask ≡ f.value)

-- a result and its flags as the record
abbrev pub alu_result : ℕ × Flags → AluResult
alu_result r = record { value = r.0; flags = flags_of r.1 }

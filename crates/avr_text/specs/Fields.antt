-- A number as a field of an instruction: its low bits, a negative one in two's complement.
use Rattle.std.specs.Prelude.{ℕ, suc, ◌-◌, ◌%◌, ◌^◌, ℤ, pos, negsuc}
use Rattle.std.proofs.Math.Nat.{mod-lt}
use Rattle.std.proofs.lemmas.Nat.{pow_pos}
use Rattle.avr_table.specs.declared.Field.{Field}

-- a number that has the same low bits
abbrev pub unsigned : ℕ → ℤ → ℕ
unsigned bits (pos n) = n
unsigned bits (negsuc n) = 2 ^ bits - suc (n % 2 ^ bits)

abbrev pub field : (bits : ℕ) → ℤ → Field bits
field bits z = record { value = unsigned bits z % 2 ^ bits; in_range = mod-lt (unsigned bits z) (pow_pos bits) }

-- Bytes and words in hexadecimal, in upper case.
use Rattle.std.specs.Prelude.{ℕ, ◌+◌, ◌-◌, ◌/◌, ◌%◌, nat_lt, if◌then◌else◌, List, [], ◌∷◌}
use Prim.Native.Char.{code}

-- a digit
abbrev pub hex_digit : ℕ → ℕ
hex_digit n = if nat_lt n 10 then code "0" + n else code "A" + (n - 10)

-- the two digits of a byte
abbrev pub hex_byte : ℕ → List ℕ
hex_byte n = hex_digit (n / 16 % 16) ∷ hex_digit (n % 16) ∷ []

-- the four digits of a word
abbrev pub hex_word : ℕ → List ℕ
hex_word n = hex_digit (n / 4096 % 16) ∷ hex_digit (n / 256 % 16) ∷ hex_digit (n / 16 % 16) ∷ hex_digit (n % 16) ∷ []

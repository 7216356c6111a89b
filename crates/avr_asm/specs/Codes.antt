-- The words of an instruction: its row's pattern with each field's bits in the places of its letter.
-- Source: AVR Instruction Set Manual, the patterns of the instruction table.
use Rattle.std.specs.Prelude.{ℕ, ◌+◌, ◌*◌, ◌/◌, ◌%◌, ◌^◌, Bool, true, false, List, [], ◌∷◌, Option, Some, None, length, nat_eq}
use Rattle.std.specs.Prelude.{if◌then◌else◌}
use Rattle.std.specs.Int.{bit_at}
use Prim.Native.Char.{Char, code}
use Rattle.avr_table.specs.declared.Instr.{Instr}
use Rattle.avr_table.specs.Pattern.{digit}
use Rattle.avr_table.specs.Rows.{row, pattern_of, words_of}

-- the number that a letter's field has, and 0 for any other character
abbrev pub field_of : List (Char × ℕ) → ℕ → ℕ
field_of [] c = 0
field_of (x ∷ xs) c = if nat_eq c (code x.0) then x.1 else field_of xs c

-- the bit in a place: a digit's own, or a letter's by how many of its places are below
abbrev pub place_bit : Option Bool → ℕ → ℕ → ℕ
place_bit (Some false) value k = 0
place_bit (Some true) value k = 1
place_bit None value k = bit_at value k

-- how many of the places are a character's
abbrev pub count_of : ℕ → List ℕ → ℕ
count_of c [] = 0
count_of c (d ∷ ds) = if nat_eq d c then 1 + count_of c ds else count_of c ds

-- the number that a pattern writes, the last place being bit 0
unfoldable pub written : List (Char × ℕ) → List ℕ → ℕ
written letters [] = 0
written letters (c ∷ cs) = place_bit (digit c) (field_of letters c) (count_of c cs) * 2 ^ length cs + written letters cs

-- both words as one number, the first in its upper half; a row of one word has 0 in the lower
unfoldable pub number_of : Instr → ℕ
number_of i = written (row i).letters (pattern_of i)

abbrev pub word_count : Instr → ℕ
word_count i = words_of i

abbrev pub first_word : Instr → ℕ
first_word i = number_of i / 65536

abbrev pub second_word : Instr → ℕ
second_word i = number_of i % 65536

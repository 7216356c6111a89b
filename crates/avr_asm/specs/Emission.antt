-- What a line puts out: the bytes of data, the words of instructions, and where they go.
use Rattle.std.specs.Prelude.{ℕ, ◌+◌, ◌/◌, ◌%◌, ◌==◌, nat_le, Bool, true, false, ℤ, pos, negsuc, List, [], ◌∷◌, ◌++◌, length, Option, Some}
use Rattle.std.specs.Prelude.{None, is_some, Ok, Err, unsigned_abs, if◌then◌else◌}
use Rattle.std.specs.Int.{int_rem_euclid, int_shr}
use Rattle.std.specs.Ordering.{nat_cmp}
use Rattle.std.specs.FinMap as map
use Rattle.std.specs.FinMap.{FinMap}
use Rattle.avr_table.specs.declared.Instr.{Instr}
use Rattle.avr_text.specs.declared.tokens.Token.{Token}
use Rattle.avr_text.specs.Names.{NameMap}
use Rattle.avr_text.specs.declared.errors.AsmWhy.{AsmWhy}
use Rattle.avr_text.specs.declared.errors.AsmWhy.TheVariants as why
use Rattle.avr_asm.specs.Codes.{first_word, second_word, word_count}
use Rattle.avr_text.specs.Faults.{OrFault, least}
use Rattle.avr_text.specs.Operands.{number}

-- bits 0 to 7 of a number, and for a word bits 8 to 15 after them
abbrev pub low_byte : ℤ → ℕ
low_byte x = unsigned_abs (int_rem_euclid x (pos 256))

abbrev pub bytes_of_number : Bool → ℤ → List ℕ
bytes_of_number false x = low_byte x ∷ []
bytes_of_number true x = low_byte x ∷ low_byte (int_shr x 8) ∷ []

-- an operand of `.db`, or of `.dw`
abbrev pub data_value : Bool → List ℕ → NameMap → List Token → OrFault ℤ
data_value false line symbols tokens = number (negsuc 127) (pos 255) line symbols tokens
data_value true line symbols tokens = number (negsuc 32767) (pos 65535) line symbols tokens

-- the bytes so far with one more operand's, or the least fault
abbrev pub with_number : Bool → OrFault (List ℕ) → OrFault ℤ → OrFault (List ℕ)
with_number wide (Ok bytes) (Ok x) = Ok (bytes ++ bytes_of_number wide x)
with_number wide (Ok bytes) (Err fault) = Err fault
with_number wide (Err fault) (Ok x) = Err fault
with_number wide (Err fault) (Err other) = Err (least fault other)

abbrev pub data_from : Bool → List ℕ → NameMap → OrFault (List ℕ) → List (List Token) → OrFault (List ℕ)
data_from wide line symbols sofar [] = sofar
data_from wide line symbols sofar (part ∷ parts) = data_from wide line symbols (with_number wide sofar (data_value wide line symbols part))
    parts

abbrev pub least_of_faults : Option AsmWhy → AsmWhy → AsmWhy
least_of_faults None other = other
least_of_faults (Some fault) other = least fault other

-- as the program keeps them
abbrev pub data_state : Option AsmWhy → List ℕ → OrFault (List ℕ)
data_state None bytes = Ok bytes
data_state (Some fault) bytes = Err fault

-- an odd number of bytes is followed by a 0 byte
abbrev pub padded : List ℕ → List ℕ
padded bytes = if length bytes % 2 == 0 then bytes else bytes ++ 0 ∷ []

abbrev pub padded_outcome : OrFault (List ℕ) → OrFault (List ℕ)
padded_outcome (Ok bytes) = Ok (padded bytes)
padded_outcome (Err fault) = Err fault

-- the bytes of `.db` and of `.dw`
abbrev pub byte_data : List ℕ → NameMap → List (List Token) → OrFault (List ℕ)
byte_data line symbols parts = padded_outcome (data_from false line symbols (Ok []) parts)

abbrev pub word_data : List ℕ → NameMap → List (List Token) → OrFault (List ℕ)
word_data line symbols parts = data_from true line symbols (Ok []) parts

-- the bytes of an instruction: its words, low byte first
abbrev pub word_bytes : ℕ → List ℕ
word_bytes word = word % 256 ∷ word / 256 ∷ []

abbrev pub instruction_bytes : Instr → List ℕ
instruction_bytes i = if word_count i == 2 then word_bytes (first_word i) ++ word_bytes (second_word i) else word_bytes (first_word i)

-- bytes go to addresses that are free, below 65,536
abbrev pub Flash : Type 0
Flash = FinMap nat_cmp ℕ

abbrev pub put : ℕ → List ℕ → Flash → OrFault Flash
put at [] flash = Ok flash
put at (b ∷ bs) flash =
    if nat_le 65536 at then Err why.Past
    else if is_some (map.get flash at) then Err why.Overlap
    else put (at + 1) bs (map.insert flash at b)

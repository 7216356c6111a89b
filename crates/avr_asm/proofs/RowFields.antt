-- The fields of each row: its letter is no digit, and has as many places as the field has bits.
use Rattle.std.proofs.Common.{◌≡◌, ℕ, ◌%◌, ◌^◌, List, refl, None, mod-eq_of_lt}
use Rattle.std.specs.List.{AllByRecursion}
use Prim.Native.Char.{Char, code}
use Rattle.avr_table.specs.declared.Field.{Field}
use Rattle.avr_table.specs.declared.Instr.{Instr}
use Rattle.avr_table.specs.declared.Instr.TheVariants.{Add}
use Rattle.avr_table.specs.Pattern.{digit}
use Rattle.avr_table.specs.Rows.{row, pattern_of}
use Rattle.avr_asm.specs.Codes.{field_of, count_of}

-- a letter's number fits its places
abbrev pub EachSpelled : List (Char × ℕ) → List ℕ → List (Char × ℕ) → Type 0
EachSpelled L p letters = AllByRecursion (λ x. (digit (code x.0) ≡ None) × (field_of L (code x.0) % 2 ^ count_of (code x.0) p ≡ x.1))
    letters

fits : {b : ℕ} (f : Field b) → f.value % 2 ^ b ≡ f.value
fits f = mod-eq_of_lt f.in_range

pub each_spelled : (i : Instr) → EachSpelled (row i).letters (pattern_of i) (row i).letters
each_spelled (Add d r) = ((refl, fits d), ((refl, fits r), tt))
each_spelled other = search fits

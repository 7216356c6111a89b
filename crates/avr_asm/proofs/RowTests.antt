-- What each row's pattern and letters are: a test that computes.
use Rattle.std.proofs.Common.{◌≡◌, ℕ, Bool, true, false, ◌&&◌, ◌||◌, not, List, [], ◌∷◌, length, nat_eq, refl, is_some}
use Prim.Native.Char.{Char, code}
use Rattle.avr_table.specs.declared.Instr.{Instr}
use Rattle.avr_table.specs.declared.Instr.TheVariants.{Add}
use Rattle.avr_table.specs.Pattern.{places, digit}
use Rattle.avr_table.specs.Rows.{row}

-- a character is one of the letters
abbrev pub wanted : List (Char × ℕ) → ℕ → Bool
wanted [] c = false
wanted (x ∷ xs) c = nat_eq c (code x.0) || wanted xs c

-- each place is a digit or one of the letters
abbrev pub covered : List (Char × ℕ) → List ℕ → Bool
covered L [] = true
covered L (c ∷ cs) = (is_some (digit c) || wanted L c) && covered L cs

-- a pattern has 16 or 32 places, which are digits and letters of the row, and no letter is a dash
abbrev pub row_test : Instr → Bool
row_test i = (nat_eq (length (places (row i).pattern)) 16 || nat_eq (length (places (row i).pattern)) 32)
    && (covered (row i).letters (places (row i).pattern) && not (wanted (row i).letters 45))

pub row_tests : (i : Instr) → row_test i ≡ true
row_tests (Add d r) = refl
row_tests other = refl

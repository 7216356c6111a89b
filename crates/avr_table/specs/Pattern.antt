-- Patterns of bits, as the AVR Instruction Set Manual prints them: "0000 11rd dddd rrrr".
-- A digit is a bit that is fixed. The places of one letter, from the left, are the bits of one number,
-- highest first. Any other character stands for a bit that isn't looked at.
use Rattle.std.specs.Prelude.{ℕ, ◌+◌, ◌*◌, ◌^◌, Bool, true, false, ◌&&◌, if◌then◌else◌, List, [], ◌∷◌, Option, None, Some, length, count_by}
use Rattle.std.specs.Prelude.{filter, codes, not, nat_eq}
use Rattle.std.specs.Int.{bit_at}
use Prim.Native.Char.{code}
use Prim.Native.String.{String}

-- the characters of a pattern, without the spaces
abbrev pub places : String → List ℕ
places text = filter (λ c. not (nat_eq c (code " "))) (codes text)

-- the bit that a character fixes
abbrev pub digit : ℕ → Option Bool
digit c = if nat_eq c (code "0") then Some false else if nat_eq c (code "1") then Some true else None

-- a bit is as a place wants it
abbrev pub meets : Option Bool → ℕ → Bool
meets None bit = true
meets (Some false) bit = nat_eq bit 0
meets (Some true) bit = nat_eq bit 1

-- the fixed bits of a pattern stand in a number: the last place is bit 0
unfoldable pub stands : List ℕ → ℕ → Bool
stands [] n = true
stands (c ∷ cs) n = meets (digit c) (bit_at n (length cs)) && stands cs n

-- the number that a letter's places spell in a number
unfoldable pub spelled : ℕ → List ℕ → ℕ → ℕ
spelled letter [] n = 0
spelled letter (c ∷ cs) n = if nat_eq c letter then bit_at n (length cs) * 2 ^ count_by (nat_eq letter) cs + spelled letter cs n else
    spelled letter cs n

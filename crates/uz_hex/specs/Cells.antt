-- The flash as a finite map from byte addresses to bytes, and the words that the core reads from it.
-- ATmega644 data sheet, "In-System Reprogrammable Flash Program Memory": 64 KiB, organised as 32K words of 16 bits.
-- AVR Instruction Set Manual, LPM: a word's low byte stands at the even byte address.
use Rattle.std.specs.Prelude.{◌≡◌, ℕ, suc, ◌+◌, ◌*◌, ◌%◌, ◌<◌, List, [], ◌∷◌, Option, Some, None, unwrap_or, IfSome}
use Rattle.std.specs.Ordering.{nat_cmp}
use Rattle.std.specs.FinMap.{FinMap, empty, insert, get}

-- the bytes that a list of cells holds, the first cell standing at this address
abbrev pub present : ℕ → List (Option ℕ) → FinMap nat_cmp ℕ
present at [] = empty
present at (None ∷ cells) = present (suc at) cells
present at (Some byte ∷ cells) = insert (present (suc at) cells) at byte

-- the bytes of a list of cells in order, each with its address, the first cell standing at this address
abbrev pub held_from : ℕ → List (Option ℕ) → List (ℕ × ℕ)
held_from at [] = []
held_from at (None ∷ cells) = held_from (suc at) cells
held_from at (Some byte ∷ cells) = (at, byte) ∷ held_from (suc at) cells

-- a cell holds nothing or a byte
abbrev pub HoldsByte : Option ℕ → Type 0
HoldsByte cell = IfSome cell (λ byte. byte < 256)

-- what the map of a flash keeps: addresses of 16 bits, and bytes
abbrev pub IsFlash : FinMap nat_cmp ℕ → Type 0
IsFlash image = (at byte : ℕ) → get image at ≡ Some byte → (at < 65536) × (byte < 256)

-- the byte at a byte address; an absent byte counts as 255, as erased flash reads
abbrev pub byte_or_255 : FinMap nat_cmp ℕ → ℕ → ℕ
byte_or_255 image at = unwrap_or (get image at) 255

-- the word at a word address, taken modulo 32,768, low byte first
abbrev pub word_of : FinMap nat_cmp ℕ → ℕ → ℕ
word_of image at = byte_or_255 image (2 * (at % 32768)) + 256 * byte_or_255 image (2 * (at % 32768) + 1)

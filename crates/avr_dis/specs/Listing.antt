-- The listing of a flash image, a line for each word of which a byte is present, in order.
use Rattle.std.specs.Prelude.{◌≡◌, ℕ, zero, suc, ◌+◌, ◌*◌, Bool, true, false, ◌&&◌, ◌||◌, not, if◌then◌else◌, List, [], ◌++◌}
use Rattle.std.specs.Prelude.{◌⊎◌, Option, Some, None, codes, decimal, nat_eq, is_some}
use Rattle.std.specs.Ordering.{nat_cmp}
use Rattle.std.specs.FinMap.{FinMap, get}
use Rattle.uz_hex.specs.Cells.{word_of}
use Rattle.uz_hex.specs.Hexadecimals.{hex_word}
use Rattle.avr_table.specs.declared.Instr.{Instr}
use Rattle.avr_table.specs.Rows.{Reads, words_of}
use Rattle.avr_dis.specs.Text.{text_of}

-- the place of a second word: its digits, or blanks where there is none
abbrev pub second_text : Option ℕ → List ℕ
second_text (Some word) = hex_word word
second_text None = codes "    "

abbrev pub address : ℕ → List ℕ
address at = hex_word at ++ codes ": "

abbrev pub both_words : ℕ → List ℕ → List ℕ
both_words first second = hex_word first ++ codes " " ++ second ++ codes " "

-- a line: the word address, the first word, the second word or four spaces, and the text
abbrev pub line : ℕ → ℕ → List ℕ → List ℕ → List ℕ
line at first second text = address at ++ both_words first second ++ text ++ codes "\n"

abbrev pub row_line : FinMap nat_cmp ℕ → ℕ → Instr → List ℕ
row_line image at i = line at (word_of image at) (second_text (if nat_eq (words_of i) 2 then Some (word_of image (at + 1)) else None))
    (text_of i)

-- a word that no row reads
abbrev pub word_line : FinMap nat_cmp ℕ → ℕ → List ℕ
word_line image at = line at (word_of image at) (second_text None) (codes ".dw " ++ decimal (word_of image at))

-- Some byte of the word at a word address is present.
abbrev pub present : FinMap nat_cmp ℕ → ℕ → Bool
present image at = is_some (get image (2 * at)) || is_some (get image (2 * at + 1))

-- The line that begins at a word, and whether it takes the following word too. The word after the last
-- one of the flash is word 0, and absent bytes count as 255.
abbrev pub LineAt : FinMap nat_cmp ℕ → ℕ → Bool → List ℕ → Type 0
LineAt image at two text =
    ((i : Instr) × Reads (word_of image at) (word_of image (at + 1)) i × (two ≡ nat_eq (words_of i) 2) × (text ≡ row_line image at i))
    ⊎ (((i : Instr) → Reads (word_of image at) (word_of image (at + 1)) i → ⊥) × (two ≡ false) × (text ≡ word_line image at))

-- A word adds its line to the listing, or nothing.
abbrev pub AddsLine : Bool → FinMap nat_cmp ℕ → ℕ → List ℕ → Bool → Type 0
AddsLine false image at text two = (two ≡ false) × (text ≡ [])
AddsLine true image at text two = LineAt image at two text

-- It adds its line where the line before didn't take it, and one of its bytes is present.
abbrev pub Adds : FinMap nat_cmp ℕ → ℕ → Bool → List ℕ → Bool → Type 0
Adds image at taken text two = AddsLine (not taken && present image at) image at text two

-- The listing of the words below an address, and whether the last line takes the word at that address.
unfoldable pub Listed : FinMap nat_cmp ℕ → ℕ → List ℕ → Bool → Type 0
Listed image zero text two = (text ≡ []) × (two ≡ false)
Listed image (suc at) text two =
    (before : List ℕ) × (taken : Bool) × (added : List ℕ) × Listed image at before taken × Adds image at taken added two
    × (text ≡ before ++ added)

-- The listing of all 32,768 words.
abbrev pub IsListing : FinMap nat_cmp ℕ → List ℕ → Type 0
IsListing image text = (two : Bool) × Listed image 32768 text two

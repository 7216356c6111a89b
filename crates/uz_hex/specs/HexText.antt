-- Which texts are Intel HEX, of which image, and what the first fault of another is. A relation over all lines.
-- Intel, Hexadecimal Object File Format Specification, revision A (1988). Line ends, blanks and blank lines, an image of
-- 65,536 bytes, no wrapping of segmented addresses, and that a byte may be given twice are this project's profile.
use Rattle.std.specs.Prelude.{◌≡◌, ◌≢◌, ◌↔◌, ℕ, ◌+◌, ◌-◌, ◌*◌, ◌%◌, ◌<◌, ◌≤◌, ◌==◌, ◌⊎◌, false, List, [], ◌∷◌, ◌++◌, length}
use Rattle.std.specs.Prelude.{take, sum, slice_index, Any, Some, Ok}
use Prim.Native.Char.{code}
use Rattle.std.specs.List.{slice_split, suffix_len}
use Rattle.std.specs.Str.Lines.{strip_carriage_return}
use Rattle.std.specs.Ordering.{nat_cmp}
use Rattle.std.specs.FinMap.{FinMap, get}
use Rattle.hex.specs.Hex.{decode_of, is_hex_digit}
use Rattle.uz_hex.specs.Lines.{is_blank}
use Rattle.uz_hex.specs.Records.{Record, HasLength, code_of, Encodes, Spells, given, base_of, placed, HoldsByteAt}
use Rattle.uz_hex.specs.declared.records.RecordType.{RecordType}
use Rattle.uz_hex.specs.declared.records.RecordType.TheVariants.{EndOfFile}
use Rattle.uz_hex.specs.declared.errors.HexWhy.{HexWhy}
use Rattle.uz_hex.specs.declared.errors.HexWhy.TheVariants as why

-- a line without the blanks at its end
abbrev pub trimmed : List ℕ → List ℕ
trimmed line = take (length line - suffix_len is_blank line) line

-- the parts between LF bytes as lines: a CR directly before an LF belongs to the line's end
abbrev pub cleaned : List (List ℕ) → List (List ℕ)
cleaned [] = []
cleaned (last ∷ []) = trimmed last ∷ []
cleaned (line ∷ next ∷ parts) = trimmed (strip_carriage_return line) ∷ cleaned (next ∷ parts)

-- the lines of a text, one more than it has LF bytes
abbrev pub lines_of : List ℕ → List (List ℕ)
lines_of text = cleaned (slice_split (λ c. c == code "\n") text)

-- the lines that aren't blank spell these records, one each, and none is an end record
abbrev pub Spelled : List (List ℕ) → List Record → Type 0
Spelled [] [] = Unit {0}
Spelled [] (r ∷ records) = ⊥
Spelled ([] ∷ lines) records = Spelled lines records
Spelled ((c ∷ line) ∷ lines) [] = ⊥
Spelled ((c ∷ line) ∷ lines) (r ∷ records) = Spells (c ∷ line) r × (r.kind ≢ EndOfFile) × Spelled lines records

-- each address is one of the flash
abbrev pub InFlash : List (ℕ × ℕ) → Type 0
InFlash entries = (at byte : ℕ) → HoldsByteAt entries at byte → at < 65536

-- no address has two different bytes
abbrev pub Agree : List (ℕ × ℕ) → Type 0
Agree entries = (at b c : ℕ) → HoldsByteAt entries at b → HoldsByteAt entries at c → b ≡ c

-- lines before the end record that have no fault
pub record Sound (lines : List (List ℕ)) (records : List Record) : Type 0 where
  pub spelled : Spelled lines records
  pub in_flash : InFlash (placed 0 records)
  pub agree : Agree (placed 0 records)

-- the map has just these bytes
abbrev pub Holds : FinMap nat_cmp ℕ → List (ℕ × ℕ) → Type 0
Holds image entries = (at byte : ℕ) → (get image at ≡ Some byte) ↔ HoldsByteAt entries at byte

-- lines that make an image: sound ones, an end record, and lines that don't matter
pub record MakesImage (lines : List (List ℕ)) (image : FinMap nat_cmp ℕ) : Type 0 where
  pub before : List (List ℕ)
  pub last : List ℕ
  pub after : List (List ℕ)
  pub parts : lines ≡ before ++ last ∷ after
  pub records : List Record
  pub sound : Sound before records
  pub end : Record
  pub ended : Spells last end
  pub is_end : end.kind ≡ EndOfFile
  pub holds : Holds image (placed 0 records)

-- a text is Intel HEX of this image
abbrev pub IsHexOf : List ℕ → FinMap nat_cmp ℕ → Type 0
IsHexOf text image = MakesImage (lines_of text) image

-- a why stands of a line, at a base, where these bytes were given before it
abbrev pub Stands : ℕ → List (ℕ × ℕ) → List ℕ → HexWhy → Type 0
Stands base earlier line why.NoColon = (line ≢ []) × ((digits : List ℕ) → line ≢ code ":" ∷ digits)
Stands base earlier line why.BadDigit = (digits : List ℕ) × (line ≡ code ":" ∷ digits) × Any (λ c. is_hex_digit c ≡ false) digits
Stands base earlier line why.Short = (digits : List ℕ) × (line ≡ code ":" ∷ digits)
    × ((length digits < 10) ⊎ ((count : ℕ) × (decode_of (take 2 digits) ≡ Ok (count ∷ [])) × (length digits ≢ 2 * (count + 5))))
Stands base earlier line why.Sum = (bytes : List ℕ) × Encodes line bytes × (sum bytes % 256 ≢ 0)
Stands base earlier line why.Kind = (bytes : List ℕ) × Encodes line bytes × (5 < slice_index bytes 3)
Stands base earlier line why.Length = (bytes : List ℕ) × (kind : RecordType) × Encodes line bytes × (code_of kind ≡ slice_index bytes 3)
    × ¬ HasLength kind (slice_index bytes 0)
Stands base earlier line why.Range = (r : Record) × Spells line r × (at byte : ℕ) × HoldsByteAt (given base r) at byte × (65536 ≤ at)
Stands base earlier line why.Conflict = (r : Record) × Spells line r
    × (at b c : ℕ) × HoldsByteAt (earlier ++ given base r) at b × HoldsByteAt (earlier ++ given base r) at c × (b ≢ c)
Stands base earlier line why.NoEnd = ⊥
Stands base earlier line why.Memory = ⊥

abbrev pub number_of : HexWhy → ℕ
number_of why.NoColon = 1
number_of why.BadDigit = 2
number_of why.Short = 3
number_of why.Sum = 4
number_of why.Kind = 5
number_of why.Length = 6
number_of why.Range = 7
number_of why.Conflict = 8
number_of why.NoEnd = 9
number_of why.Memory = 10

-- of the whys that stand of a line, the one of the least number
pub record IsLeast (base : ℕ) (earlier : List (ℕ × ℕ)) (line : List ℕ) (w : HexWhy) : Type 0 where
  pub stands : Stands base earlier line w
  pub least : (other : HexWhy) → Stands base earlier line other → number_of w ≤ number_of other

-- the first fault after sound lines: of the next line, or that there is none
abbrev pub FaultAfter : List (List ℕ) → List Record → List (List ℕ) → ℕ → HexWhy → Type 0
FaultAfter before records [] n w = (n ≡ length before) × (w ≡ why.NoEnd)
FaultAfter before records (line ∷ after) n w = (n ≡ length before + 1) × IsLeast (base_of 0 records) (placed 0 records) line w

-- lines whose first fault, counted from 1, is this
pub record HasFault (lines : List (List ℕ)) (n : ℕ) (w : HexWhy) : Type 0 where
  pub before : List (List ℕ)
  pub rest : List (List ℕ)
  pub parts : lines ≡ before ++ rest
  pub records : List Record
  pub sound : Sound before records
  pub fault : FaultAfter before records rest n w

-- the first fault of a text
abbrev pub IsFirstFault : List ℕ → ℕ → HexWhy → Type 0
IsFirstFault text n w = HasFault (lines_of text) n w

-- Reading a HEX text as a function on lists: the plain, slow reader.
use Rattle.std.specs.Prelude.{◌≡◌, ℕ, suc, ◌+◌, ◌*◌, ◌%◌, ◌==◌, ◌||◌, ◌⊎◌, nat_le, Bool, true, if◌then◌else◌, List, [], ◌∷◌, length, take}
use Rattle.std.specs.Prelude.{drop, sum, slice_index, Option, Some, None, Result, Ok, Err}
use Prim.Native.Char.{code}
use Rattle.std.specs.List.{list_all}
use Rattle.std.specs.Ordering.{nat_cmp}
use Rattle.std.specs.FinMap.{FinMap, empty, get, insert}
use Rattle.hex.specs.Hex.{decode_of, is_hex_digit}
use Rattle.hex.specs.declared.error.FromHexError.{FromHexError}
use Rattle.uz_hex.specs.Records.{value_of, base_by}
use Rattle.uz_hex.specs.HexText.{lines_of}
use Rattle.uz_hex.specs.declared.records.RecordType.{RecordType}
use Rattle.uz_hex.specs.declared.records.RecordType.TheVariants.{Data, EndOfFile, ExtendedSegment, StartSegment, ExtendedLinear}
use Rattle.uz_hex.specs.declared.records.RecordType.TheVariants.{StartLinear}
use Rattle.uz_hex.specs.declared.records.Progress.{Progress}
use Rattle.uz_hex.specs.declared.records.Progress.TheVariants.{More, Ended}
use Rattle.uz_hex.specs.declared.errors.HexWhy.{HexWhy}
use Rattle.uz_hex.specs.declared.errors.HexWhy.TheVariants as why
use Rattle.uz_hex.specs.declared.errors.HexError.{HexError}

abbrev pub Flash : Type 0
Flash = FinMap nat_cmp ℕ

-- the bytes, where the first is the record length of the others
abbrev pub counted : Result (List ℕ) FromHexError → Result (List ℕ) HexWhy
counted (Err e) = Err why.Short
counted (Ok bytes) = if slice_index bytes 0 + 5 == length bytes then Ok bytes else Err why.Short

-- the bytes of the digits behind a colon
abbrev pub bytes_of_digits : List ℕ → Result (List ℕ) HexWhy
bytes_of_digits digits = if list_all is_hex_digit digits then counted (decode_of digits) else Err why.BadDigit

-- the bytes of a line
abbrev pub bytes_of : List ℕ → Result (List ℕ) HexWhy
bytes_of [] = Err why.NoColon
bytes_of (mark ∷ digits) = if mark == code ":" then bytes_of_digits digits else Err why.NoColon

abbrev pub type_of : ℕ → Option RecordType
type_of code =
    if code == 0 then Some Data
    else if code == 1 then Some EndOfFile
    else if code == 2 then Some ExtendedSegment
    else if code == 3 then Some StartSegment
    else if code == 4 then Some ExtendedLinear
    else if code == 5 then Some StartLinear
    else None

abbrev pub has_length : RecordType → ℕ → Bool
has_length Data count = true
has_length EndOfFile count = count == 0
has_length ExtendedSegment count = count == 2
has_length StartSegment count = count == 4
has_length ExtendedLinear count = count == 2
has_length StartLinear count = count == 4

abbrev pub with_length : ℕ → Option RecordType → Result RecordType HexWhy
with_length count None = Err why.Kind
with_length count (Some kind) = if has_length kind count then Ok kind else Err why.Length

-- the type of a record's bytes
abbrev pub kind_of : List ℕ → Result RecordType HexWhy
kind_of bytes = if sum bytes % 256 == 0 then with_length (slice_index bytes 0) (type_of (slice_index bytes 3)) else Err why.Sum

-- the load offset and the data of a record's bytes
abbrev pub address_of : List ℕ → ℕ
address_of bytes = 256 * slice_index bytes 1 + slice_index bytes 2

abbrev pub data_of : List ℕ → List ℕ
data_of bytes = take (slice_index bytes 0) (drop 4 bytes)

-- whether a cell can take this byte
abbrev pub takes : Option ℕ → ℕ → Bool
takes None byte = true
takes (Some held) byte = held == byte

-- the flash with bytes from an address on
abbrev pub with_bytes : Flash → ℕ → List ℕ → Result Flash HexWhy
with_bytes flash at [] = Ok flash
with_bytes flash at (byte ∷ bytes) = if takes (get flash at) byte then with_bytes (insert flash at byte) (suc at) bytes else Err
    why.Conflict

abbrev pub place : Flash → ℕ → List ℕ → Result Flash HexWhy
place flash at bytes = if (length bytes == 0) || nat_le (at + length bytes) 65536 then with_bytes flash at bytes else Err why.Range

abbrev pub and_more : ℕ → Result Flash HexWhy → Result (Progress × Flash) HexWhy
and_more base (Ok flash) = Ok (More base, flash)
and_more base (Err w) = Err w

-- how reading goes on after a record of this type and these bytes
abbrev pub after_record : ℕ → Flash → List ℕ → RecordType → Result (Progress × Flash) HexWhy
after_record base flash bytes Data = and_more base (place flash (base + address_of bytes) (data_of bytes))
after_record base flash bytes EndOfFile = Ok (Ended, flash)
after_record base flash bytes kind = Ok (More (base_by kind base (value_of (data_of bytes))), flash)

infixl 10 ◌>>=◌
abbrev pub ◌>>=◌ : {A B : Type 0} → Result A HexWhy → (A → Result B HexWhy) → Result B HexWhy
(Ok x) >>= f = f x
(Err w) >>= f = Err w

abbrev pub after_filled : ℕ → Flash → List ℕ → Result (Progress × Flash) HexWhy
after_filled base flash line = do
  bytes ← bytes_of line
  kind ← kind_of bytes
  after_record base flash bytes kind

-- how reading goes on after a line
abbrev pub after_line : ℕ → Flash → List ℕ → Result (Progress × Flash) HexWhy
after_line base flash [] = Ok (More base, flash)
after_line base flash (c ∷ line) = after_filled base flash (c ∷ line)

-- a fault's line, and why
abbrev pub Fault : Type 0
Fault = ℕ × HexWhy

abbrev pub go_on : ℕ → Result (Progress × Flash) HexWhy → (ℕ → Flash → Result Flash Fault) → Result Flash Fault
go_on n (Err w) more = Err (n, w)
go_on n (Ok (More base, flash)) more = more base flash
go_on n (Ok (Ended, flash)) more = Ok flash

-- the lines after the first n
abbrev pub read_lines : ℕ → ℕ → Flash → List (List ℕ) → Result Flash Fault
read_lines n base flash [] = Err (n, why.NoEnd)
read_lines n base flash (line ∷ lines) = go_on (suc n) (after_line base flash line) (λ next held. read_lines (suc n) next held lines)

-- a text's image, or its first fault
abbrev pub read_text : List ℕ → Result Flash Fault
read_text text = read_lines 0 0 empty (lines_of text)

-- what came is what reading gives, unless memory ran out
abbrev pub GivesHex : Result Flash HexError → Result Flash Fault → Type 0
GivesHex (Ok image) read = read ≡ Ok image
GivesHex (Err e) read = (e.why ≡ why.Memory) ⊎ (read ≡ Err (e.line, e.why))

-- The Intel HEX text of an image: each run of present bytes, from its first address, in data records of 16 bytes, and the end record.
-- Intel, Hexadecimal Object File Format Specification, revision A (1988); records of 16, upper case and LF are this project's profile.
use Rattle.std.specs.Prelude.{◌≡◌, ℕ, ◌+◌, ◌-◌, ◌%◌, ◌≤◌, ◌==◌, ◌&&◌, nat_lt, Bool, if◌then◌else◌, List, [], ◌∷◌, ◌++◌, length, sum, codes}
use Prim.Native.Char.{code}
use Rattle.std.specs.List.{flat_map, AllByRecursion}
use Rattle.std.specs.Ordering.{nat_cmp}
use Rattle.std.specs.FinMap.{FinMap, entries}
use Rattle.hex.specs.Hex.{encode_upper}
use Rattle.uz_hex.specs.Records.{Record, record_bytes, placed}
use Rattle.uz_hex.specs.declared.records.RecordType.TheVariants.{Data}

abbrev pub data_record : ℕ → List ℕ → Record
data_record start bytes = record { address = start; kind = Data; bytes = bytes }

-- ---- the cut into records

-- a record of bytes, if there are any
abbrev pub closed : ℕ → List ℕ → List Record
closed start [] = []
closed start (byte ∷ bytes) = data_record start (byte ∷ bytes) ∷ []

-- whether a byte at this address goes on a record
abbrev pub goes_on : ℕ → List ℕ → ℕ → Bool
goes_on start bytes at = (at == start + length bytes) && nat_lt (length bytes) 16

-- the records of bytes in the order of their addresses, after those that stand from an address on
abbrev pub cut : ℕ → List ℕ → List (ℕ × ℕ) → List Record
cut start bytes [] = closed start bytes
cut start bytes (entry ∷ entries) =
    if goes_on start bytes entry.0 then cut start (bytes ++ entry.1 ∷ []) entries else closed start bytes ++ cut entry.0 (entry.1 ∷ [])
    entries

-- the records of an image
abbrev pub records_of : FinMap nat_cmp ℕ → List Record
records_of image = cut 0 [] (entries image)

-- ---- what such a cut is

-- a data record of 1 to 16 bytes
pub record IsDataRecord (r : Record) : Type 0 where
  pub kind : r.kind ≡ Data
  pub some : 1 ≤ length r.bytes
  pub most : length r.bytes ≤ 16

-- a record that the next one goes on from is full
abbrev pub FullBefore : List Record → Type 0
FullBefore [] = Unit {0}
FullBefore (r ∷ []) = Unit {0}
FullBefore (r ∷ next ∷ records) = (next.address ≡ r.address + length r.bytes → length r.bytes ≡ 16) × FullBefore (next ∷ records)

-- data records that give the image's bytes, each once and in order, where only a run's last record may have fewer than 16 bytes
pub record IsCutOf (image : FinMap nat_cmp ℕ) (records : List Record) : Type 0 where
  pub each : AllByRecursion IsDataRecord records
  pub whole : placed 0 records ≡ entries image
  pub full : FullBefore records

-- ---- the text

-- what brings the sum of a record's bytes to 0 modulo 256
abbrev pub checksum_of : Record → ℕ
checksum_of r = (256 - sum (record_bytes r 0) % 256) % 256

-- a record's line: the colon, and the digit pairs of its bytes in upper case
abbrev pub line_of : Record → List ℕ
line_of r = code ":" ∷ encode_upper (record_bytes r (checksum_of r))

abbrev pub with_lf : List ℕ → List ℕ
with_lf line = line ++ code "\n" ∷ []

abbrev pub lines_text : List Record → List ℕ
lines_text records = flat_map (λ r. with_lf (line_of r)) records

-- the text of an image
abbrev pub hex_text : FinMap nat_cmp ℕ → List ℕ
hex_text image = lines_text (records_of image) ++ with_lf (codes ":00000001FF")

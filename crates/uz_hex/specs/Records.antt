-- The records of Intel HEX: how a line spells one, and which bytes records give.
-- Intel, Hexadecimal Object File Format Specification, revision A (1988).
use Rattle.std.specs.Prelude.{◌≡◌, ℕ, suc, ◌+◌, ◌*◌, ◌/◌, ◌%◌, ◌⊎◌, List, [], ◌∷◌, ◌++◌, length, sum, slice_index, Ok}
use Prim.Native.Char.{code}
use Rattle.hex.specs.Hex.{decode_of}
use Rattle.uz_hex.specs.declared.records.RecordType.{RecordType}
use Rattle.uz_hex.specs.declared.records.RecordType.TheVariants.{Data, EndOfFile, ExtendedSegment, StartSegment, ExtendedLinear}
use Rattle.uz_hex.specs.declared.records.RecordType.TheVariants.{StartLinear}

-- the load offset, the record type and the data bytes; the record length is their number
pub record Record : Type 0 where
  pub address : ℕ
  pub kind : RecordType
  pub bytes : List ℕ

abbrev pub code_of : RecordType → ℕ
code_of Data = 0
code_of EndOfFile = 1
code_of ExtendedSegment = 2
code_of StartSegment = 3
code_of ExtendedLinear = 4
code_of StartLinear = 5

-- the record length that a type demands
abbrev pub HasLength : RecordType → ℕ → Type 0
HasLength Data count = Unit {0}
HasLength EndOfFile count = count ≡ 0
HasLength ExtendedSegment count = count ≡ 2
HasLength StartSegment count = count ≡ 4
HasLength ExtendedLinear count = count ≡ 2
HasLength StartLinear count = count ≡ 4

-- record length, load offset, record type, data, checksum
abbrev pub record_bytes : Record → ℕ → List ℕ
record_bytes r checksum = length r.bytes ∷ r.address / 256 ∷ r.address % 256 ∷ code_of r.kind ∷ r.bytes ++ checksum ∷ []

-- the record mark `:`, and each byte as a pair of hexadecimal digits of either case
abbrev pub Encodes : List ℕ → List ℕ → Type 0
Encodes line bytes = (digits : List ℕ) × (line ≡ code ":" ∷ digits) × (decode_of digits ≡ Ok bytes)

-- a line is this record: with a checksum its bytes sum to 0 modulo 256, and its length is one that its type may have
pub record Spells (line : List ℕ) (r : Record) : Type 0 where
  pub checksum : ℕ
  pub encoded : Encodes line (record_bytes r checksum)
  pub sums : sum (record_bytes r checksum) % 256 ≡ 0
  pub fits : HasLength r.kind (length r.bytes)

-- the bytes at this address and those after it
abbrev pub numbered : ℕ → List ℕ → List (ℕ × ℕ)
numbered at [] = []
numbered at (byte ∷ bytes) = (at, byte) ∷ numbered (suc at) bytes

abbrev pub given_by : RecordType → ℕ → List ℕ → List (ℕ × ℕ)
given_by Data at bytes = numbered at bytes
given_by _ at bytes = []

-- what a record gives at a base: data bytes at base plus load offset plus index, without wrapping
abbrev pub given : ℕ → Record → List (ℕ × ℕ)
given base r = given_by r.kind (base + r.address) r.bytes

-- the number that two data bytes spell, high byte first
abbrev pub value_of : List ℕ → ℕ
value_of bytes = 256 * slice_index bytes 0 + slice_index bytes 1

abbrev pub base_by : RecordType → ℕ → ℕ → ℕ
base_by ExtendedSegment base value = 16 * value
base_by ExtendedLinear base value = 65536 * value
base_by _ base value = base

-- the base after a record
abbrev pub base_after : ℕ → Record → ℕ
base_after base r = base_by r.kind base (value_of r.bytes)

-- the base after records
abbrev pub base_of : ℕ → List Record → ℕ
base_of base [] = base
base_of base (r ∷ records) = base_of (base_after base r) records

-- all bytes that records give from a base on, each with its address
abbrev pub placed : ℕ → List Record → List (ℕ × ℕ)
placed base [] = []
placed base (r ∷ records) = given base r ++ placed (base_after base r) records

-- among these there is this byte at this address
abbrev pub HoldsByteAt : List (ℕ × ℕ) → ℕ → ℕ → Type 0
HoldsByteAt [] at byte = ⊥
HoldsByteAt (entry ∷ entries) at byte = ((entry.0 ≡ at) × (entry.1 ≡ byte)) ⊎ HoldsByteAt entries at byte

-- How long the text of an image can be.
use Rattle.std.proofs.Common.{◌≡◌, ℕ, suc, ◌+◌, ◌*◌, ◌≤◌, List, [], ◌∷◌, length, Option, sym, ap, ◌∙◌, arith, refl, length-append, codes}
use Rattle.std.specs.Prelude.{is_some}
use Rattle.std.specs.List.{AllByRecursion}
use Rattle.std.specs.Ordering.{nat_cmp}
use Rattle.std.specs.FinMap.{FinMap, len, len-entries}
use Rattle.std.proofs.lemmas.List.Sums.{count_by-le-length}
use Rattle.hex.specs.Hex.{upper_digits}
use Rattle.hex.proofs.HexLemmas.{length-encode_with}
use Rattle.uz_hex.specs.Cells.{present}
use Rattle.uz_hex.specs.Records.{Record, record_bytes, given, given_by, base_after, base_by, value_of, numbered, placed}
use Rattle.uz_hex.specs.Writing.{IsDataRecord, records_of, checksum_of, line_of, with_lf, lines_text, hex_text}
use Rattle.uz_hex.proofs.CellsLemmas.{len-present}
use Rattle.uz_hex.proofs.CutLaws.{records_cut}

numbered_length : (at : ℕ) (bytes : List ℕ) → length (numbered at bytes) ≡ length bytes
numbered_length at [] = refl
numbered_length at (b ∷ bytes) = ap suc (numbered_length (suc at) bytes)

line_length : (r : Record) → length (with_lf (line_of r)) ≡ 2 * length r.bytes + 12
line_length r =
    let digits = length-encode_with upper_digits (record_bytes r (checksum_of r)) in
    let bytes = length-append r.bytes (checksum_of r ∷ []) in
    let whole = length-append (line_of r) (10 ∷ []) in
    omega (arith, digits, bytes, whole)

given_length : (r : Record) → IsDataRecord r → length (given 0 r) ≡ length r.bytes
given_length r shape = ap (λ k. length (given_by k (0 + r.address) r.bytes)) shape.kind ∙ numbered_length (0 + r.address) r.bytes

-- a record of n bytes, at least one, has 2 n + 12 characters
lines_length : (records : List Record) → AllByRecursion IsDataRecord records → length (lines_text records) ≤ 14 * length (placed 0 records)
lines_length [] all = omega arith
lines_length (r ∷ records) all =
    let rest = lines_length records all.1 in
    let base : base_after 0 r ≡ 0 = ap (λ k. base_by k 0 (value_of r.bytes)) (all.0).kind in
    let same : length (placed (base_after 0 r) records) ≡ length (placed 0 records) = ap (λ b. length (placed b records)) base in
    let line = line_length r in
    let bytes = given_length r all.0 in
    let some = (all.0).some in
    let text = length-append (with_lf (line_of r)) (lines_text records) in
    let entries = length-append (given 0 r) (placed (base_after 0 r) records) in
    omega (arith, rest, same, line, bytes, some, text, entries)

pub text_length : (image : FinMap nat_cmp ℕ) → length (hex_text image) ≤ 14 * len image + 12
text_length image =
    let is_cut = records_cut image in
    let lines = lines_length (records_of image) is_cut.each in
    let size : length (placed 0 (records_of image)) ≡ len image = ap length is_cut.whole ∙ sym (len-entries image) in
    let text = length-append (lines_text (records_of image)) (with_lf (codes ":00000001FF")) in
    omega (arith, lines, size, text)

pub len_most : (cells : List (Option ℕ)) → length cells ≡ 65536 → len (present 0 cells) ≤ 65536
len_most cells h =
    let count = len-present cells in
    let most = count_by-le-length is_some cells in
    omega (arith, count, most, h)

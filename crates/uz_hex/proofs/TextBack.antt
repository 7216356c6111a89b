-- The text of an image is Intel HEX of that image.
use Rattle.std.proofs.Common.{◌≡◌, ℕ, zero, suc, ◌+◌, ◌-◌, ◌/◌, ◌%◌, ◌<◌, ◌≤◌, ◌==◌, true, false, cond, List, [], ◌∷◌, ◌++◌, length, take}
use Rattle.std.proofs.Common.{get_or, map, sum, codes, Some, inl, inr, refl, sym, ap, subst, ◌∙◌, arith, append_assoc, zero-add}
use Rattle.std.specs.Prelude.{slice_index, nat_le}
use Rattle.std.specs.List.{AllByRecursion, All, list_all, suffix_len}
use Rattle.std.specs.Str.Lines.{strip_carriage_return}
use Rattle.std.specs.Ordering.{nat_cmp}
use Rattle.std.specs.FinMap.{FinMap, entries}
use Rattle.std.proofs.lemmas.Bool.{cases_lt, and_parts}
use Rattle.std.proofs.lemmas.Bool.Decides.{nat_tests}
use Rattle.std.proofs.lemmas.List.{append-nil, take_all, get_or_past}
use Rattle.std.proofs.lemmas.List.Sums.{suffix_len-take_no, fold-append}
use Rattle.std.proofs.lemmas.List.Splits.{slice_split_at}
use Rattle.hex.specs.Hex.{encode_with, encode_upper, upper_digits, hex_digit_value, IsBytes}
use Rattle.hex.proofs.HexLemmas.{decode_of-encode_upper, IsDigits-upper_digits}
use Rattle.hex.proofs.OnLiterals.{hex_on_literals}
use Rattle.uz_hex.specs.Cells.{IsFlash}
use Rattle.uz_hex.specs.Records.{Record, code_of, HasLength, record_bytes, Spells, given, given_by, base_after, base_by, value_of, numbered}
use Rattle.uz_hex.specs.Records.{placed, HoldsByteAt}
use Rattle.uz_hex.specs.HexText.{trimmed, cleaned, lines_of, Spelled, Holds, IsHexOf}
use Rattle.uz_hex.specs.Writing.{IsDataRecord, records_of, checksum_of, line_of, with_lf, lines_text, hex_text}
use Rattle.uz_hex.specs.declared.records.RecordType.TheVariants.{Data, EndOfFile}
use Rattle.uz_hex.proofs.LineSteps.{parts_cons}
use Rattle.uz_hex.proofs.PlaceLaws.{gives_left, gives_right, numbered_at, agree_held}
use Rattle.uz_hex.proofs.CutLaws.{records_cut}
use Rattle.uz_hex.specs.Lines.{is_blank}

-- ---- bytes

bytes_cons : (b : ℕ) (rest : List ℕ) → b < 256 → IsBytes rest → IsBytes (b ∷ rest)
bytes_cons b rest h hs zero = h
bytes_cons b rest h hs (suc i) = hs i

bytes_push : (xs : List ℕ) (b : ℕ) → IsBytes xs → b < 256 → IsBytes (xs ++ b ∷ [])
bytes_push [] b hs h = bytes_cons b [] h (λ k. omega arith)
bytes_push (x ∷ xs) b hs h = bytes_cons x (xs ++ b ∷ []) (hs 0) (bytes_push xs b (λ k. hs (suc k)) h)

-- ---- lines without blanks and line ends

-- digits and the colon come after the blanks and the line ends
abbrev Solid : List ℕ → Type 0
Solid line = AllByRecursion (λ c. 48 ≤ c) line

digit_solid : (c v : ℕ) → hex_digit_value c ≡ Some v → 48 ≤ c
digit_solid c v h = grind (arith)

table_solid : (d : ℕ) → d < 16 → 48 ≤ slice_index upper_digits d
table_solid d h = digit_solid (slice_index upper_digits d) d (IsDigits-upper_digits d h)

solid_encoded : (xs : List ℕ) → IsBytes xs → Solid (encode_upper xs)
unfolding encode_with
solid_encoded [] h = tt
solid_encoded (b ∷ rest) h =
    let fits : b < 256 = h 0 in
    (table_solid (b / 16) (omega arith), (table_solid (b % 16) (omega arith), solid_encoded rest (λ k. h (suc k))))

solid_at : (line : List ℕ) (k d : ℕ) → Solid line → k < length line → 48 ≤ get_or line k d
solid_at [] k d s h = absurd (omega arith)
solid_at (c ∷ line) zero d s h = s.0
solid_at (c ∷ line) (suc k) d s h = solid_at line k d s.1 (omega arith)

not_lf : (line : List ℕ) → Solid line → All (λ c. (c == 10) ≡ false) line
not_lf line s k d h =
    let high = solid_at line k d s h in
    test_lf (get_or line k d) high
  where
    test_lf : (c : ℕ) → 48 ≤ c → (c == 10) ≡ false
    test_lf c h = grind (arith, nat_tests)

not_blank : (c : ℕ) → 48 ≤ c → is_blank c ≡ false
not_blank c h = grind (arith, nat_tests)

trimmed_solid : (c : ℕ) (line : List ℕ) → Solid (c ∷ line) → trimmed (c ∷ line) ≡ c ∷ line
trimmed_solid c line s =
    let n : ℕ = length (c ∷ line) in
    let last = not_blank (get_or (c ∷ line) (n - 1) 0) (solid_at (c ∷ line) (n - 1) 0 s (omega arith)) in
    let whole : take n (c ∷ line) ≡ c ∷ line = take_all n (c ∷ line) (omega arith) in
    let none : suffix_len is_blank (c ∷ line) ≡ 0 = ap (suffix_len is_blank) (sym whole) ∙ suffix_len-take_no is_blank (c ∷ line) n 0
    (omega arith) (omega arith) last in
    ap (λ k. take (n - k) (c ∷ line)) none ∙ take_all (n - 0) (c ∷ line) (omega arith)

stripped_solid : (c : ℕ) (line : List ℕ) → Solid (c ∷ line) → strip_carriage_return (c ∷ line) ≡ c ∷ line
stripped_solid c line s =
    let n : ℕ = length (c ∷ line) in
    not_cr (get_or (c ∷ line) (n - 1) 0) (solid_at (c ∷ line) (n - 1) 0 s (omega arith)) (take (n - 1) (c ∷ line)) (c ∷ line)
  where
    not_cr : (b : ℕ) → 48 ≤ b → (xs ys : List ℕ) → cond (b == 13) xs ys ≡ ys
    not_cr b h xs ys = grind (arith, nat_tests)

-- a solid line is the first line of what begins with it
first_line : (c : ℕ) (line rest : List ℕ) → Solid (c ∷ line) → lines_of (with_lf (c ∷ line) ++ rest) ≡ (c ∷ line) ∷ lines_of rest
first_line c line rest s =
    let text : with_lf (c ∷ line) ++ rest ≡ (c ∷ line) ++ 10 ∷ rest = append_assoc (c ∷ line) (10 ∷ []) rest in
    let split = slice_split_at (λ b. b == 10) (c ∷ line) 10 rest (not_lf (c ∷ line) s) refl in
    let parts = parts_cons rest in
    let clean : trimmed (strip_carriage_return (c ∷ line)) ≡ c ∷ line = ap trimmed (stripped_solid c line s) ∙ trimmed_solid c line s in
    ap lines_of text ∙ (ap cleaned split ∙ (ap (λ ps. cleaned ((c ∷ line) ∷ ps)) parts.2
    ∙ (ap (λ ps. trimmed (strip_carriage_return (c ∷ line)) ∷ cleaned ps) (sym parts.2) ∙ ap (λ l. l ∷ lines_of rest) clean)))

-- ---- records

sum_push : (xs : List ℕ) (c : ℕ) → sum (xs ++ c ∷ []) ≡ sum xs + c
sum_push xs c = fold-append ◌+◌ 0 xs (c ∷ [])

-- what the records of an image keep
record IsWritten (r : Record) : Type 0 where
  shape : IsDataRecord r
  low : r.address < 65536
  bytes : IsBytes r.bytes

checked : (s : ℕ) → (s + (256 - s % 256) % 256) % 256 ≡ 0
checked s = omega arith

abbrev front_of : Record → List ℕ
front_of r = length r.bytes ∷ r.address / 256 ∷ r.address % 256 ∷ code_of r.kind ∷ r.bytes

record_sums : (r : Record) → sum (record_bytes r (checksum_of r)) % 256 ≡ 0
record_sums r =
    let all : sum (record_bytes r (checksum_of r)) ≡ sum (front_of r) + checksum_of r = sum_push (front_of r) (checksum_of r) in
    let zero' : sum (record_bytes r 0) ≡ sum (front_of r) + 0 = sum_push (front_of r) 0 in
    let none : sum (record_bytes r 0) ≡ sum (front_of r) = omega (arith, zero') in
    let sum_is : checksum_of r ≡ (256 - sum (front_of r) % 256) % 256 = ap (λ s. (256 - s % 256) % 256) none in
    ap (λ s. s % 256) (all ∙ ap (λ c. sum (front_of r) + c) sum_is) ∙ checked (sum (front_of r))

written_bytes : (r : Record) (checksum : ℕ) → IsWritten r → checksum < 256 → IsBytes (record_bytes r checksum)
written_bytes r checksum w h =
    let low = w.low in
    let most = w.shape.most in
    let one : List ℕ = r.bytes ++ checksum ∷ [] in
    let two : List ℕ = code_of r.kind ∷ one in
    let three : List ℕ = r.address % 256 ∷ two in
    let four : List ℕ = r.address / 256 ∷ three in
    let small : code_of r.kind < 256 = subst (λ k. code_of k < 256) (sym w.shape.kind) (omega arith) in
    bytes_cons (length r.bytes) four (omega arith) (bytes_cons (r.address / 256) three (omega arith)
    (bytes_cons (r.address % 256) two (omega arith)
    (bytes_cons (code_of r.kind) one small (bytes_push r.bytes checksum w.bytes h))))

spells_written : (r : Record) → IsWritten r → Spells (line_of r) r
spells_written r w = record {
  checksum = checksum_of r;
  encoded = (
    encode_upper (record_bytes r (checksum_of r)),
    refl,
    decode_of-encode_upper (record_bytes r (checksum_of r))
        (written_bytes r (checksum_of r) w (omega arith)),
  );
  sums = record_sums r;
  fits = subst (λ k. HasLength k (length r.bytes)) (sym w.shape.kind) tt;
}

solid_line : (r : Record) → IsWritten r → Solid (line_of r)
solid_line r w = (omega arith, solid_encoded (record_bytes r (checksum_of r)) (written_bytes r (checksum_of r) w (omega arith)))

-- ---- an image's records are written so

numbered_given : (r : Record) → r.kind ≡ Data → numbered r.address r.bytes ≡ given 0 r
numbered_given r e = ap (λ at. numbered at r.bytes) (sym (zero-add r.address)) ∙ ap (λ k. given_by k (0 + r.address) r.bytes) (sym e)

base_stays : (r : Record) → r.kind ≡ Data → base_after 0 r ≡ 0
base_stays r e = ap (λ k. base_by k 0 (value_of r.bytes)) e

-- each byte that is given is one of the flash
abbrev FlashBytes : List (ℕ × ℕ) → Type 0
FlashBytes es = (at b : ℕ) → HoldsByteAt es at b → (at < 65536) × (b < 256)

written_one : (r : Record) (records : List Record) → IsDataRecord r → FlashBytes (placed 0 (r ∷ records)) → IsWritten r
written_one r records shape flash =
    let gives : (k : ℕ) → k < length r.bytes → HoldsByteAt (placed 0 (r ∷ records)) (r.address + k) (get_or r.bytes k 0) = λ k h.
    gives_left (given 0 r) (placed (base_after 0 r) records) (r.address + k) (get_or r.bytes k 0)
    (subst (λ es. HoldsByteAt es (r.address + k) (get_or r.bytes k 0)) (numbered_given r shape.kind)
    (numbered_at r.address r.bytes k (r.address + k) h refl)) in
    let some = shape.some in
    let first = flash (r.address + 0) (get_or r.bytes 0 0) (gives 0 (omega arith)) in
    record {
      shape = shape;
      low = let l = first.0 in omega arith;
      bytes = λ i. elim (cases_lt i (length r.bytes)) [
        | inl within ↦ (flash (r.address + i) (get_or r.bytes i 0) (gives i within)).1
        | inr past ↦ let none : get_or r.bytes i 0 ≡ 0 = get_or_past r.bytes i 0 past in omega (arith, none)
      ];
    }

written_rest : (r : Record) (records : List Record) → IsDataRecord r → FlashBytes (placed 0 (r ∷ records)) → FlashBytes (placed 0 records)
written_rest r records shape flash at b g = flash at b (gives_right (given 0 r) (placed (base_after 0 r) records) at b
    (subst (λ base. HoldsByteAt (placed base records) at b) (sym (base_stays r shape.kind)) g))

records_written : (records : List Record) → AllByRecursion IsDataRecord records → FlashBytes (placed 0 records) → AllByRecursion IsWritten
    records
records_written [] all flash = tt
records_written (r ∷ records) all flash = (
  written_one r records all.0 flash,
  records_written records all.1
      (written_rest r records all.0 flash),
)

spelled_written : (records : List Record) → AllByRecursion IsWritten records → Spelled (map line_of records) records
spelled_written [] all = tt
spelled_written (r ∷ records) all = (
  spells_written r all.0,
  (λ e. let k = all.0.shape.kind in cc (sym k ∙ e)),
  spelled_written records
      all.1,
)

lines_written : (records : List Record) (rest : List ℕ) → AllByRecursion IsWritten records → lines_of (lines_text records ++ rest) ≡ map
    line_of records ++ lines_of rest
lines_written [] rest all = refl
lines_written (r ∷ records) rest all =
    ap lines_of (append_assoc (with_lf (line_of r)) (lines_text records) rest)
    ∙ (first_line 58 (encode_upper (record_bytes r (checksum_of r))) (lines_text records ++ rest) (solid_line r all.0)
    ∙ ap (λ ls. line_of r ∷ ls) (lines_written records rest all.1))

-- ---- the end record

abbrev end_line : List ℕ
end_line = codes ":00000001FF"

abbrev end_record : Record
end_record = record { address = 0; kind = EndOfFile; bytes = [] }

end_spelled : Spells end_line end_record
unfolding hex_on_literals
end_spelled = record { checksum = 255; encoded = (codes "00000001FF", refl, refl); sums = refl; fits = refl }

solid_tested : (xs : List ℕ) → list_all (λ c. nat_le 48 c) xs ≡ true → Solid xs
solid_tested [] h = tt
solid_tested (c ∷ xs) h =
    let parts = and_parts (nat_le 48 c) (list_all (λ c. nat_le 48 c) xs) h in
    let t = parts.0 in
    (grind (arith, nat_tests), solid_tested xs parts.1)

end_lines : lines_of (with_lf end_line) ≡ end_line ∷ [] ∷ []
end_lines = ap lines_of (sym (append-nil (with_lf end_line))) ∙ first_line 58 (codes "00000001FF") [] (solid_tested end_line refl)

-- ---- the text

pub text_back : (image : FinMap nat_cmp ℕ) → IsFlash image → Holds image (entries image) → IsHexOf (hex_text image) image
text_back image flash holds =
    let records : List Record = records_of image in
    let is_cut = records_cut image in
    let holds_records = subst (Holds image) (sym is_cut.whole) holds in
    let bytes : FlashBytes (placed 0 records) = λ at b g. flash at b ((holds_records at b).1 g) in
    let all = records_written records is_cut.each bytes in
    record {
      before = map line_of records;
      last = end_line;
      after = [] ∷ [];
      parts = lines_written records (with_lf end_line) all ∙ ap (λ ls. map line_of records ++ ls) end_lines;
      records = records;
      sound = record {
        spelled = spelled_written records all;
        in_flash = λ at b g. (bytes at b g).0;
        agree = agree_held image (placed 0 records) holds_records;
      };
      end = end_record;
      ended = end_spelled;
      is_end = refl;
      holds = holds_records;
    }

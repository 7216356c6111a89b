-- What reading the bytes of a record says of the record.
use Rattle.std.proofs.Common.{◌≡◌, ℕ, ◌+◌, ◌*◌, ◌/◌, ◌%◌, ◌<◌, ◌≤◌, ◌==◌, true, cond, List, [], ◌∷◌, ◌++◌, length, length-take}
use Rattle.std.proofs.Common.{length-append, take, get_or, sum, Ok, Err, Some, None, ◌⊎◌, inl, inr, refl, sym, ap, subst, ◌∙◌, arith}
use Rattle.std.specs.Prelude.{slice_index}
use Rattle.std.proofs.lemmas.Bool.{cases_eq, cases_lt, eqb-true, eqb-false}
use Rattle.std.proofs.lemmas.Bool.Decides.{nat_tests}
use Rattle.std.proofs.lemmas.List.{take_all, take_more}
use Rattle.std.proofs.Math.Seq.{take-append_seam}
use Rattle.hex.proofs.HexLemmas.{decode_of-ok}
use Rattle.uz_hex.specs.Records.{Record, code_of, HasLength, record_bytes, Encodes, Spells}
use Rattle.uz_hex.specs.HexText.{IsLeast}
use Rattle.uz_hex.specs.Reading.{bytes_of, type_of, has_length, with_length, kind_of, address_of, data_of}
use Rattle.uz_hex.specs.declared.records.RecordType.{RecordType}
use Rattle.uz_hex.specs.declared.records.RecordType.TheVariants.{Data, EndOfFile, ExtendedSegment, StartSegment, ExtendedLinear}
use Rattle.uz_hex.specs.declared.records.RecordType.TheVariants.{StartLinear}
use Rattle.uz_hex.specs.declared.errors.HexWhy.{HexWhy}
use Rattle.uz_hex.specs.declared.errors.HexWhy.TheVariants as why
use Rattle.uz_hex.proofs.WhyLaws.{Clear, clear_more, is_least}
use Rattle.uz_hex.proofs.DigitLaws.{chosen, encodes_same, encoded_read, short_clear}

-- ---- types and lengths

type_of-code_of : (kind : RecordType) → type_of (code_of kind) ≡ Some kind
type_of-code_of Data = refl
type_of-code_of EndOfFile = refl
type_of-code_of ExtendedSegment = refl
type_of-code_of StartSegment = refl
type_of-code_of ExtendedLinear = refl
type_of-code_of StartLinear = refl

code_small : (kind : RecordType) → code_of kind ≤ 5
code_small Data = omega arith
code_small EndOfFile = omega arith
code_small ExtendedSegment = omega arith
code_small StartSegment = omega arith
code_small ExtendedLinear = omega arith
code_small StartLinear = omega arith

-- a code is above 5, or that of a type
types : (code : ℕ) → ((5 < code) × (type_of code ≡ None)) ⊎ ((kind : RecordType) × (code_of kind ≡ code) × (type_of code ≡ Some kind))
types code = elim (cases_lt 5 code) [
  | inl above ↦ inl (above, grind (arith, nat_tests))
  | inr within ↦ elim (cases_eq code 0) [
    | inl e ↦ inr (Data, sym e, grind (arith, nat_tests))
    | inr n0 ↦ elim (cases_eq code 1) [
      | inl e ↦ inr (EndOfFile, sym e, grind (arith, nat_tests))
      | inr n1 ↦ elim (cases_eq code 2) [
        | inl e ↦ inr (ExtendedSegment, sym e, grind (arith, nat_tests))
        | inr n2 ↦ elim (cases_eq code 3) [
          | inl e ↦ inr (StartSegment, sym e, grind (arith, nat_tests))
          | inr n3 ↦ elim (cases_eq code 4) [
            | inl e ↦ inr (ExtendedLinear, sym e, grind (arith, nat_tests))
            | inr n4 ↦ inr (StartLinear, omega arith, grind (arith, nat_tests))
          ]
        ]
      ]
    ]
  ]
]

length_fits : (kind : RecordType) (n : ℕ) → has_length kind n ≡ true → HasLength kind n
length_fits Data n h = tt
length_fits EndOfFile n h = eqb-true n 0 h
length_fits ExtendedSegment n h = eqb-true n 2 h
length_fits StartSegment n h = eqb-true n 4 h
length_fits ExtendedLinear n h = eqb-true n 2 h
length_fits StartLinear n h = eqb-true n 4 h

fits_length : (kind : RecordType) (n : ℕ) → HasLength kind n → has_length kind n ≡ true
fits_length Data n h = refl
fits_length EndOfFile n h = grind (arith, nat_tests)
fits_length ExtendedSegment n h = grind (arith, nat_tests)
fits_length StartSegment n h = grind (arith, nat_tests)
fits_length ExtendedLinear n h = grind (arith, nat_tests)
fits_length StartLinear n h = grind (arith, nat_tests)

-- ---- what `kind_of` says

pub kind_ok : (bytes : List ℕ) (kind : RecordType) → kind_of bytes ≡ Ok kind
    → (sum bytes % 256 ≡ 0) × (code_of kind ≡ slice_index bytes 3) × HasLength kind (slice_index bytes 0)
kind_ok bytes kind h =
    elim (chosen (sum bytes % 256 == 0) (with_length (slice_index bytes 0) (type_of (slice_index bytes 3))) (Err why.Sum) (Ok kind) h) [
      | inr bad ↦ cc bad.1
      | inl sums ↦ elim (types (slice_index bytes 3)) [
        | inl none ↦
            let e : with_length (slice_index bytes 0) (type_of (slice_index bytes 3)) ≡ Err why.Kind =
            ap (with_length (slice_index bytes 0)) none.1 in
            cc (sym e ∙ sums.1)
        | inr some ↦
            let e = ap (with_length (slice_index bytes 0)) some.2 in
            elim (chosen (has_length some.0 (slice_index bytes 0)) (Ok some.0) (Err why.Length) (Ok kind) (sym e ∙ sums.1)) [
              | inr long ↦ cc long.1
              | inl fits ↦
                  let same : some.0 ≡ kind = cc fits.1 in (
                    eqb-true (sum bytes % 256) 0 sums.0,
                    ap code_of (sym same) ∙ some.1,
                    subst (λ k. HasLength k (slice_index bytes 0)) same
                        (length_fits some.0 (slice_index bytes 0) fits.0),
                  )
            ]
      ]
    ]

-- one record's bytes sum to 0, and so on: what is clear
sum_clear : (base : ℕ) (earlier : List (ℕ × ℕ)) (line bytes : List ℕ) → Encodes line bytes → slice_index bytes 0 + 5 ≡ length bytes
    → sum bytes % 256 ≡ 0 → Clear base earlier line 4
sum_clear base earlier line bytes e counts sums = clear_more base earlier line 3 why.Sum refl (short_clear base earlier line bytes e counts)
    (λ s. s.2 (ap (λ xs. sum xs % 256) (encodes_same line s.0 bytes s.1 e) ∙ sums))

kind_clear : (base : ℕ) (earlier : List (ℕ × ℕ)) (line bytes : List ℕ) (kind : RecordType) → Encodes line bytes → slice_index bytes
    0 + 5 ≡ length bytes → sum bytes % 256 ≡ 0
    → code_of kind ≡ slice_index bytes 3 → Clear base earlier line 5
kind_clear base earlier line bytes kind e counts sums is = clear_more base earlier line 4 why.Kind refl
    (sum_clear base earlier line bytes e counts sums)
    (λ s. let same : slice_index s.0 3 ≡ slice_index bytes 3 = ap (λ (xs : List ℕ). slice_index xs 3) (encodes_same line s.0 bytes s.1 e) in
    let small = code_small kind in
    let high = s.2 in absurd (omega arith))

-- types of one code are one
same_code : (a b : RecordType) → code_of a ≡ code_of b → a ≡ b
same_code a b h =
    let e : Some a ≡ Some b = sym (type_of-code_of a) ∙ (ap type_of h ∙ type_of-code_of b) in
    cc e

pub length_clear : (base : ℕ) (earlier : List (ℕ × ℕ)) (line bytes : List ℕ) (kind : RecordType) → Encodes line bytes → slice_index bytes
    0 + 5 ≡ length bytes → sum bytes % 256 ≡ 0
    → code_of kind ≡ slice_index bytes 3 → HasLength kind (slice_index bytes 0) → Clear base earlier line 6
length_clear base earlier line bytes kind e counts sums is fits = clear_more base earlier line 5 why.Length refl
    (kind_clear base earlier line bytes kind e counts sums is)
    (λ s. let one = encodes_same line s.0 bytes s.2 e in
    let code : code_of s.1 ≡ code_of kind = s.3 ∙ (ap (λ (xs : List ℕ). slice_index xs 3) one ∙ sym is) in
    let same = same_code s.1 kind code in
    s.4 (subst (λ k. HasLength k (slice_index s.0 0)) (sym same)
    (subst (λ n. HasLength kind n) (sym (ap (λ (xs : List ℕ). slice_index xs 0) one)) fits)))

pub kind_err : (base : ℕ) (earlier : List (ℕ × ℕ)) (line bytes : List ℕ) (w : HexWhy) → Encodes line bytes → slice_index bytes
    0 + 5 ≡ length bytes → kind_of bytes ≡ Err w
    → IsLeast base earlier line w
kind_err base earlier line bytes w e counts h =
    elim (chosen (sum bytes % 256 == 0) (with_length (slice_index bytes 0) (type_of (slice_index bytes 3))) (Err why.Sum) (Err w) h) [
      | inr bad ↦
          let is : why.Sum ≡ w = cc bad.1 in
          subst (IsLeast base earlier line) is (is_least base earlier line 3 why.Sum refl (short_clear base earlier line bytes e counts)
          (bytes, e, eqb-false (sum bytes % 256) 0 bad.0))
      | inl good ↦
          let sums = eqb-true (sum bytes % 256) 0 good.0 in
          elim (types (slice_index bytes 3)) [
            | inl none ↦
                let k : with_length (slice_index bytes 0) (type_of (slice_index bytes 3)) ≡ Err why.Kind =
                ap (with_length (slice_index bytes 0)) none.1 in
                let is : why.Kind ≡ w = cc (sym k ∙ good.1) in
                subst (IsLeast base earlier line) is
                (is_least base earlier line 4 why.Kind refl (sum_clear base earlier line bytes e counts sums) (bytes, e, none.0))
            | inr some ↦
                let k = ap (with_length (slice_index bytes 0)) some.2 in
                elim (chosen (has_length some.0 (slice_index bytes 0)) (Ok some.0) (Err why.Length) (Err w) (sym k ∙ good.1)) [
                  | inl fits ↦ cc fits.1
                  | inr long ↦
                      let is : why.Length ≡ w = cc long.1 in
                      subst (IsLeast base earlier line) is
                      (is_least base earlier line 5 why.Length refl (kind_clear base earlier line bytes some.0 e counts sums some.1)
                      (bytes, some.0, e, some.1, λ f. cc (sym (fits_length some.0 (slice_index bytes 0) f) ∙ long.0)))
                ]
          ]
    ]

-- ---- records and their bytes

-- a list that is one longer than n is its first n and one more
one_more : (rest : List ℕ) (n : ℕ) → length rest ≡ n + 1 → take n rest ++ (get_or rest n 0 ∷ []) ≡ rest
one_more rest n h = sym (take_more rest n 0 (omega arith)) ∙ take_all (n + 1) rest (omega arith)

-- the record of some bytes
pub spelled_by : (line bytes : List ℕ) (kind : RecordType) → Encodes line bytes → slice_index bytes 0 + 5 ≡ length bytes
    → sum bytes % 256 ≡ 0
    → code_of kind ≡ slice_index bytes 3 → HasLength kind (slice_index bytes 0)
    → Spells line (record { address = address_of bytes; kind = kind; bytes = data_of bytes })
spelled_by line bytes kind e counts sums is fits = by_bytes bytes e counts sums is fits
  where
    by_bytes : (bytes : List ℕ) → Encodes line bytes → slice_index bytes 0 + 5 ≡ length bytes → sum bytes % 256 ≡ 0
        → code_of kind ≡ slice_index bytes 3 → HasLength kind (slice_index bytes 0)
        → Spells line (record { address = address_of bytes; kind = kind; bytes = data_of bytes })
    by_bytes [] e counts sums is fits = absurd (omega arith)
    by_bytes (a ∷ []) e counts sums is fits = absurd (omega arith)
    by_bytes (a ∷ b ∷ []) e counts sums is fits = absurd (omega arith)
    by_bytes (a ∷ b ∷ c ∷ []) e counts sums is fits = absurd (omega arith)
    by_bytes (a ∷ b ∷ c ∷ d ∷ rest) e counts sums is fits =
        let small = decode_of-ok e.0 (a ∷ b ∷ c ∷ d ∷ rest) e.2 in
        let fb : b < 256 = small.3 1 in
        let fc : c < 256 = small.3 2 in
        let len : length (take a rest) ≡ a = simp length-take (omega arith) in
        let high : (256 * b + c) / 256 ≡ b = omega arith in
        let low : (256 * b + c) % 256 ≡ c = omega arith in
        let tail : take a rest ++ (get_or rest a 0 ∷ []) ≡ rest = one_more rest a (omega arith) in
        let whole : record_bytes (record { address = 256 * b + c; kind = kind; bytes = take a rest }) (get_or rest a 0) ≡ a ∷ b ∷ c ∷ d
        ∷ rest = rw (len, high, low, is, tail) refl in
        record {
          checksum = get_or rest a 0;
          encoded = subst (Encodes line) (sym whole) e;
          sums = ap (λ xs. sum xs % 256) whole ∙ sums;
          fits = subst (HasLength kind) (sym len) fits;
        }

pub counts_record : (r : Record) (checksum : ℕ) → slice_index (record_bytes r checksum) 0 + 5 ≡ length (record_bytes r checksum)
counts_record r checksum = simp length-append (omega arith)

-- what is read of a line that spells a record
pub record ReadsAs (line bytes : List ℕ) (r : Record) : Type 0 where
  pub encoded : bytes_of line ≡ Ok bytes
  pub kind : kind_of bytes ≡ Ok r.kind
  pub address : address_of bytes ≡ r.address
  pub rest : data_of bytes ≡ r.bytes

test_zero : (n : ℕ) → n ≡ 0 → (n == 0) ≡ true
test_zero n h = grind (arith, nat_tests)

pub spells_read : (line : List ℕ) (r : Record) (s : Spells line r) → ReadsAs line (record_bytes r s.checksum) r
spells_read line r s =
    let bytes : List ℕ = record_bytes r s.checksum in
    let sums : (sum bytes % 256 == 0) ≡ true = test_zero (sum bytes % 256) s.sums in
    let fits : has_length r.kind (length r.bytes) ≡ true = fits_length r.kind (length r.bytes) s.fits in
    record {
      encoded = encoded_read line (record_bytes r s.checksum) s.encoded (counts_record r s.checksum);
      kind = ap (λ b. cond b (with_length (length r.bytes) (type_of (code_of r.kind))) (Err why.Sum)) sums
          ∙ (ap (with_length (length r.bytes)) (type_of-code_of r.kind) ∙ ap (λ b. cond b (Ok r.kind) (Err why.Length)) fits);
      address = omega arith;
      rest = take-append_seam r.bytes (s.checksum ∷ []);
    }

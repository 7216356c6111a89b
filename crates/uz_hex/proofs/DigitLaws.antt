-- What reading the digits of a line says of the line.
use Rattle.std.proofs.Common.{◌≡◌, ◌≢◌, ℕ, suc, ◌+◌, ◌*◌, ◌≤◌, ◌==◌, Bool, true, false, ◌&&◌, cond, List, [], ◌∷◌, length, take, Result, Ok}
use Rattle.std.proofs.Common.{Err, ◌⊎◌, inl, inr, refl, sym, ap, subst, ◌∙◌, arith}
use Rattle.std.specs.Prelude.{slice_index, Any}
use Rattle.std.specs.Result.{result_unwrap_or}
use Rattle.std.specs.List.{list_all}
use Rattle.std.proofs.lemmas.Bool.{and_parts, cases_eq, cases_lt, eqb-true, eqb-false}
use Rattle.std.proofs.lemmas.Bool.Decides.{nat_tests}
use Rattle.std.proofs.lemmas.List.Sums.{list_all-from_AllPass, AllPass-from_list_all}
use Rattle.std.proofs.lemmas.List.Folds.{list_all_at}
use Rattle.hex.specs.Hex.{decode_of, decode_pairs, pair_value, is_hex_digit}
use Rattle.hex.proofs.HexLemmas.{decode_of-ok, decode_of-same, decode_of-even, decode_of-digits}
use Rattle.hex.proofs.Pairs.{cons_byte, decode_pairs-ok_pair, decode_pairs-err_pair}
use Rattle.hex.specs.declared.error.FromHexError.{FromHexError}
use Rattle.uz_hex.specs.Records.{Encodes}
use Rattle.uz_hex.specs.HexText.{Stands, IsLeast}
use Rattle.uz_hex.specs.Reading.{counted, bytes_of, bytes_of_digits}
use Rattle.uz_hex.specs.declared.errors.HexWhy.{HexWhy}
use Rattle.uz_hex.specs.declared.errors.HexWhy.TheVariants as why
use Rattle.uz_hex.proofs.WhyLaws.{Clear, clear_none, clear_more, is_least}

-- a line behind a colon has one list of digits
digits_same : (a b : List ℕ) (line : List ℕ) → line ≡ 58 ∷ a → line ≡ 58 ∷ b → a ≡ b
digits_same a b line ea eb = cc

-- a line encodes one list of bytes
pub encodes_same : (line a b : List ℕ) → Encodes line a → Encodes line b → a ≡ b
encodes_same line a b ea eb =
    let same = digits_same ea.0 eb.0 line ea.1 eb.1 in
    decode_of-same eb.0 a b (ap decode_of (sym same) ∙ ea.2) eb.2

all_false_cons : (x : ℕ) (xs : List ℕ) (b : Bool) → is_hex_digit x ≡ b → (b && list_all is_hex_digit xs) ≡ false
    → (list_all is_hex_digit xs ≡ false → Any (λ c. is_hex_digit c ≡ false) xs) → Any (λ c. is_hex_digit c ≡ false) (x ∷ xs)
all_false_cons x xs true is h rest =
    let later = rest h in
    (suc later.0, later.1, omega arith, later.3, later.4)
all_false_cons x xs false is h rest = (0, x, omega arith, refl, is)

-- a list that fails a test has an element that does
all_false : (xs : List ℕ) → list_all is_hex_digit xs ≡ false → Any (λ c. is_hex_digit c ≡ false) xs
all_false [] h = cc h
all_false (x ∷ xs) h = all_false_cons x xs (is_hex_digit x) refl h (λ k. all_false xs k)

any_false : (xs : List ℕ) → Any (λ c. is_hex_digit c ≡ false) xs → list_all is_hex_digit xs ≡ false
any_false xs h = list_all_at is_hex_digit xs h.0 h.1 h.2 (subst (λ c. is_hex_digit c ≡ false) (sym h.3) h.4)

-- the first two digits spell the first byte
head_of : (v : ℕ) (r : Result (List ℕ) FromHexError) (bytes : List ℕ) → cons_byte v r ≡ Ok bytes → slice_index bytes 0 ≡ v
head_of v (Ok ys) bytes h =
    let e : v ∷ ys ≡ bytes = ap (λ (r : Result (List ℕ) FromHexError). result_unwrap_or r []) h in
    ap (λ (xs : List ℕ). slice_index xs 0) (sym e)
head_of v (Err e) bytes h = cc h

pair_by : (a b : ℕ) (rest : List ℕ) (r : Result ℕ FromHexError) → pair_value a b 0 ≡ r → list_all is_hex_digit (a ∷ b ∷ []) ≡ true
    → (count : ℕ) × (decode_of (a ∷ b ∷ []) ≡ Ok (count ∷ [])) × ((bytes : List ℕ) → decode_of (a ∷ b ∷ rest) ≡ Ok bytes → slice_index bytes
    0 ≡ count)
unfolding decode_pairs
pair_by a b rest (Ok v) is all = (
  v,
  decode_pairs-ok_pair 0 a b v [] is,
  λ bytes h.
      let ok = decode_of-ok (a ∷ b ∷ rest) bytes h in
      let whole = sym (decode_of-even (a ∷ b ∷ rest) ok.0) ∙ h in
      head_of v (decode_pairs 2 rest) bytes (sym (decode_pairs-ok_pair 0 a b v rest is) ∙ whole),
)
pair_by a b rest (Err e) is all =
    let good = decode_of-digits (a ∷ b ∷ []) refl (AllPass-from_list_all is_hex_digit (a ∷ b ∷ []) all) in
    let bad : decode_of (a ∷ b ∷ []) ≡ Err e = decode_pairs-err_pair 0 a b e [] is in
    cc (sym good.1 ∙ bad)

first_pair : (digits : List ℕ) → list_all is_hex_digit digits ≡ true → 2 ≤ length digits
    → (count : ℕ) × (decode_of (take 2 digits) ≡ Ok (count ∷ [])) × ((bytes : List ℕ) → decode_of digits ≡ Ok bytes → slice_index bytes
    0 ≡ count)
first_pair [] all h = absurd (omega arith)
first_pair (a ∷ []) all h = absurd (omega arith)
first_pair (a ∷ b ∷ rest) all h =
    let one = and_parts (is_hex_digit a) (is_hex_digit b && list_all is_hex_digit rest) all in
    let two = and_parts (is_hex_digit b) (list_all is_hex_digit rest) one.1 in
    let both : (is_hex_digit a && (is_hex_digit b && true)) ≡ true = rw (one.0, two.0) refl in
    pair_by a b rest (pair_value a b 0) refl both

-- ---- a line that isn't blank, up to its digits

no_colon : (base : ℕ) (earlier : List (ℕ × ℕ)) (mark : ℕ) (digits : List ℕ) → mark ≢ 58 → IsLeast base earlier (mark ∷ digits) why.NoColon
no_colon base earlier mark digits other = is_least base earlier (mark ∷ digits) 0 why.NoColon refl (clear_none base earlier (mark ∷ digits))
    (λ e. cc e, λ ds e. other (cc e))

colon_clear : (base : ℕ) (earlier : List (ℕ × ℕ)) (line digits : List ℕ) → line ≡ 58 ∷ digits → Clear base earlier line 1
colon_clear base earlier line digits e = clear_more base earlier line 0 why.NoColon refl (clear_none base earlier line) (λ s. s.1 digits e)

digits_clear : (base : ℕ) (earlier : List (ℕ × ℕ)) (line digits : List ℕ) → line ≡ 58 ∷ digits → list_all is_hex_digit digits ≡ true
    → Clear base earlier line 2
digits_clear base earlier line digits e all = clear_more base earlier line 1 why.BadDigit refl (colon_clear base earlier line digits e)
    (λ s. let same = digits_same digits s.0 line e s.1 in
    let bad = any_false s.0 s.2 in
    let good = ap (list_all is_hex_digit) (sym same) ∙ all in cc (sym good ∙ bad))

bad_digit : (base : ℕ) (earlier : List (ℕ × ℕ)) (line digits : List ℕ) → line ≡ 58 ∷ digits → list_all is_hex_digit digits ≡ false
    → IsLeast base earlier line why.BadDigit
bad_digit base earlier line digits e bad = is_least base earlier line 1 why.BadDigit refl (colon_clear base earlier line digits e)
    (digits, e, all_false digits bad)

-- its digits are those of as many bytes as the first says
pub short_clear : (base : ℕ) (earlier : List (ℕ × ℕ)) (line bytes : List ℕ) → Encodes line bytes → slice_index bytes 0 + 5 ≡ length bytes
    → Clear base earlier line 3
short_clear base earlier line bytes e counts =
    let ok = decode_of-ok e.0 bytes e.2 in
    let all = list_all-from_AllPass is_hex_digit e.0 ok.1 in
    let twice : length e.0 ≡ 2 * length bytes = ok.2 in
    let pair = first_pair e.0 all (omega arith) in
    let head = pair.2 bytes e.2 in
    clear_more base earlier line 2 why.Short refl (digits_clear base earlier line e.0 e.1 all) (λ s.
    let same = digits_same e.0 s.0 line e.1 s.1 in
    let len : length s.0 ≡ length e.0 = ap length (sym same) in
    elim s.2 [
      | inl few ↦ absurd (omega arith)
      | inr other ↦
          let first = decode_of-same (take 2 e.0) (pair.0 ∷ []) (other.0 ∷ []) pair.1 (ap (λ ds. decode_of (take 2 ds)) same ∙ other.1) in
          let count : pair.0 ≡ other.0 = ap (λ (xs : List ℕ). slice_index xs 0) first in
          other.2 (omega (arith, len, twice, head, count, counts))
    ])

counted_ok : (r : Result (List ℕ) FromHexError) (bytes : List ℕ) → counted r ≡ Ok bytes → (r ≡ Ok bytes)
    × (slice_index bytes 0 + 5 ≡ length bytes)
counted_ok (Err e) bytes h = cc h
counted_ok (Ok ys) bytes h = elim (cases_eq (slice_index ys 0 + 5) (length ys)) [
  | inl same ↦
      let t : counted (Ok ys) ≡ Ok ys = grind (arith, nat_tests) in
      let e : ys ≡ bytes = cc (sym t ∙ h) in
      (ap Ok e, subst (λ xs. slice_index xs 0 + 5 ≡ length xs) e same)
  | inr other ↦
      let t : counted (Ok ys) ≡ Err why.Short = grind (arith, nat_tests) in
      cc (sym t ∙ h)
]

counted_err : (r : Result (List ℕ) FromHexError) (w : HexWhy) → counted r ≡ Err w → w ≡ why.Short
counted_err (Err e) w h = cc h
counted_err (Ok ys) w h = elim (cases_eq (slice_index ys 0 + 5) (length ys)) [
  | inl same ↦
      let t : counted (Ok ys) ≡ Ok ys = grind (arith, nat_tests) in
      cc (sym t ∙ h)
  | inr other ↦
      let t : counted (Ok ys) ≡ Err why.Short = grind (arith, nat_tests) in
      cc (sym t ∙ h)
]

counted_is : (bytes : List ℕ) → slice_index bytes 0 + 5 ≡ length bytes → counted (Ok bytes) ≡ Ok bytes
counted_is bytes h = grind (arith, nat_tests)

short_stands : (base : ℕ) (earlier : List (ℕ × ℕ)) (line digits : List ℕ) → line ≡ 58 ∷ digits → list_all is_hex_digit digits ≡ true
    → counted (decode_of digits) ≡ Err why.Short → Stands base earlier line why.Short
short_stands base earlier line digits e all h = elim (cases_lt (length digits) 10) [
  | inl few ↦ (digits, e, inl few)
  | inr many ↦
      let pair = first_pair digits all (omega arith) in (
        digits,
        e,
        inr (
          pair.0,
          pair.1,
          λ len.
              let read = decode_of-digits digits (omega arith) (AllPass-from_list_all is_hex_digit digits all) in
              let ok = decode_of-ok digits read.0 read.1 in
              let twice : length digits ≡ 2 * length read.0 = ok.2 in
              let head = pair.2 read.0 read.1 in
              let counts : slice_index read.0 0 + 5 ≡ length read.0 = omega (arith, len, twice, head) in
              cc (sym (ap counted read.1 ∙ counted_is read.0 counts) ∙ h),
        ),
      )
]

-- ---- what `bytes_of` says

-- which way a test went
pub chosen : {A : Type 0} (b : Bool) (x y z : A) → cond b x y ≡ z → ((b ≡ true) × (x ≡ z)) ⊎ ((b ≡ false) × (y ≡ z))
chosen true x y z h = inl (refl, h)
chosen false x y z h = inr (refl, h)

pub bytes_ok : (mark : ℕ) (digits bytes : List ℕ) → bytes_of (mark ∷ digits) ≡ Ok bytes → Encodes (mark ∷ digits) bytes
    × (slice_index bytes 0 + 5 ≡ length bytes)
bytes_ok mark digits bytes h =
    elim (chosen (mark == 58) (bytes_of_digits digits) (Err why.NoColon) (Ok bytes) h) [
      | inr other ↦ cc other.1
      | inl colon ↦ elim (chosen (list_all is_hex_digit digits) (counted (decode_of digits)) (Err why.BadDigit) (Ok bytes) colon.1) [
        | inr bad ↦ cc bad.1
        | inl all ↦
            let mark_is : mark ≡ 58 = eqb-true mark 58 colon.0 in
            let read = counted_ok (decode_of digits) bytes all.1 in
            ((digits, ap (λ m. m ∷ digits) mark_is, read.0), read.1)
      ]
    ]

pub bytes_err : (base : ℕ) (earlier : List (ℕ × ℕ)) (mark : ℕ) (digits : List ℕ) (w : HexWhy) → bytes_of (mark ∷ digits) ≡ Err w
    → IsLeast base earlier (mark ∷ digits) w
bytes_err base earlier mark digits w h =
    elim (chosen (mark == 58) (bytes_of_digits digits) (Err why.NoColon) (Err w) h) [
      | inr other ↦
          let is : why.NoColon ≡ w = cc other.1 in
          subst (IsLeast base earlier (mark ∷ digits)) is (no_colon base earlier mark digits (eqb-false mark 58 other.0))
      | inl colon ↦
          let line : mark ∷ digits ≡ 58 ∷ digits = ap (λ m. m ∷ digits) (eqb-true mark 58 colon.0) in
          elim (chosen (list_all is_hex_digit digits) (counted (decode_of digits)) (Err why.BadDigit) (Err w) colon.1) [
            | inr bad ↦
                let is : why.BadDigit ≡ w = cc bad.1 in
                subst (IsLeast base earlier (mark ∷ digits)) is (bad_digit base earlier (mark ∷ digits) digits line bad.0)
            | inl all ↦
                let is : w ≡ why.Short = counted_err (decode_of digits) w all.1 in
                let stands = short_stands base earlier (mark ∷ digits) digits line all.0 (all.1 ∙ ap Err is) in
                subst (IsLeast base earlier (mark ∷ digits)) (sym is)
                (is_least base earlier (mark ∷ digits) 2 why.Short refl (digits_clear base earlier (mark ∷ digits) digits line all.0)
                stands)
          ]
    ]

-- a line that encodes as many bytes as its first says is read
pub encoded_read : (line bytes : List ℕ) → Encodes line bytes → slice_index bytes 0 + 5 ≡ length bytes → bytes_of line ≡ Ok bytes
encoded_read line bytes e counts =
    let ok = decode_of-ok e.0 bytes e.2 in
    let all = list_all-from_AllPass is_hex_digit e.0 ok.1 in
    let digits : bytes_of_digits e.0 ≡ Ok bytes = rw (all, e.2) (counted_is bytes counts) in
    ap bytes_of e.1 ∙ digits

-- One line more is cut off a text and read.
use Rattle.std.proofs.Common.{◌≡◌, ℕ, suc, ◌+◌, ◌-◌, ◌<◌, ◌≤◌, ◌==◌, Bool, true, false, cond, ltb, List, [], ◌∷◌, length, take, drop, Some}
use Rattle.std.proofs.Common.{None, inl, inr, Result, Ok, Err, refl, sym, ap, ◌∙◌, arith, not}
use Rattle.std.specs.List.{slice_split, onto_first, position, position_or_len}
use Rattle.std.specs.Str.Lines.{strip_carriage_return}
use Rattle.std.proofs.lemmas.Bool.{cases_lt}
use Rattle.std.proofs.lemmas.List.{drop-drop, take_all, length-drop}
use Rattle.std.proofs.lemmas.List.Splits.{slice_split_first}
use Rattle.std.proofs.lemmas.Bool.Decides.{nat_tests}
use Rattle.uz_hex.specs.HexText.{trimmed, cleaned, lines_of}
use Rattle.uz_hex.specs.Reading.{Flash, Fault, after_line, go_on, read_lines}
use Rattle.uz_hex.specs.declared.records.Progress.{Progress}
use Rattle.uz_hex.specs.declared.records.Progress.TheVariants.{More, Ended}
use Rattle.uz_hex.specs.declared.errors.HexWhy.{HexWhy}
use Rattle.uz_hex.specs.declared.errors.HexWhy.TheVariants as why

abbrev pub is_lf : ℕ → Bool
is_lf c = c == 10

-- parts that begin with one
abbrev pub StartsWithPart : List (List ℕ) → Type 0
StartsWithPart parts = (part : List ℕ) × (others : List (List ℕ)) × (parts ≡ part ∷ others)

parts_onto : (x : ℕ) (parts : List (List ℕ)) → StartsWithPart (onto_first x parts)
parts_onto x [] = (x ∷ [], [], refl)
parts_onto x (part ∷ parts) = (x ∷ part, parts, refl)

parts_cond : (b : Bool) (x : ℕ) (parts : List (List ℕ)) → StartsWithPart (cond b ([] ∷ parts) (onto_first x parts))
parts_cond true x parts = ([], parts, refl)
parts_cond false x parts = parts_onto x parts

-- there is always a part
pub parts_cons : (xs : List ℕ) → StartsWithPart (slice_split is_lf xs)
parts_cons [] = ([], [], refl)
parts_cons (x ∷ xs) = parts_cond (is_lf x) x (slice_split is_lf xs)

-- the place of the first LF, as a test and as an option
position_some : (place len n : ℕ) → cond (ltb place len) (Some place) None ≡ Some n → (place ≡ n) × (place < len)
position_some place len n h = elim (cases_lt place len) [
  | inl below ↦
      let t : cond (ltb place len) (Some place) None ≡ Some place = grind (arith, nat_tests) in
      (cc (sym t ∙ h), below)
  | inr past ↦
      let t : cond (ltb place len) (Some place) None ≡ None = grind (arith, nat_tests) in
      cc (sym t ∙ h)
]

position_none : (place len : ℕ) → cond (ltb place len) (Some place) None ≡ None → len ≤ place
position_none place len h = elim (cases_lt place len) [
  | inl below ↦
      let t : cond (ltb place len) (Some place) None ≡ Some place = grind (arith, nat_tests) in
      cc (sym t ∙ h)
  | inr past ↦ past
]

split_next : (xs : List ℕ) (n : ℕ) → position is_lf xs ≡ Some n → slice_split is_lf xs ≡ take n xs ∷ slice_split is_lf (drop (n + 1) xs)
split_next xs n h =
    let at = position_some (position_or_len is_lf xs) (length xs) n h in
    slice_split_first is_lf xs 0 at.1 ∙ ap (λ k. take k xs ∷ slice_split is_lf (drop (k + 1) xs)) at.0

split_by : (x : ℕ) (xs : List ℕ) (b : Bool) → (length xs ≤ position_or_len is_lf xs → slice_split is_lf xs ≡ xs ∷ [])
    → suc (length xs) ≤ cond (not b) (1 + position_or_len is_lf xs) 0 → cond b ([] ∷ slice_split is_lf xs)
    (onto_first x (slice_split is_lf xs)) ≡ (x ∷ xs) ∷ []
split_by x xs true rest h = absurd (omega arith)
split_by x xs false rest h = ap (onto_first x) (rest (omega arith))

split_rest : (xs : List ℕ) → length xs ≤ position_or_len is_lf xs → slice_split is_lf xs ≡ xs ∷ []
split_rest [] h = refl
split_rest (x ∷ xs) h = split_by x xs (is_lf x) (λ k. split_rest xs k) h

split_last : (xs : List ℕ) → position is_lf xs ≡ None → slice_split is_lf xs ≡ xs ∷ []
split_last xs h = split_rest xs (position_none (position_or_len is_lf xs) (length xs) h)

lines_next : (xs : List ℕ) (n : ℕ) → position is_lf xs ≡ Some n → lines_of xs ≡ trimmed (strip_carriage_return (take n xs)) ∷ lines_of
    (drop (n + 1) xs)
lines_next xs n h =
    let rest = parts_cons (drop (n + 1) xs) in
    ap cleaned (split_next xs n h)
    ∙ (ap (λ parts. cleaned (take n xs ∷ parts)) rest.2 ∙ ap (λ parts. trimmed (strip_carriage_return (take n xs)) ∷ cleaned parts)
    (sym rest.2))

lines_last : (xs : List ℕ) → position is_lf xs ≡ None → lines_of xs ≡ trimmed xs ∷ []
lines_last xs h = ap cleaned (split_last xs h)

-- the rest of a text as the code cuts it
abbrev rest_of : ℕ → List ℕ → List ℕ
rest_of start text = take (length text - start) (drop start text)

rest_of-drop : (start : ℕ) (text : List ℕ) → rest_of start text ≡ drop start text
rest_of-drop start text = take_all (length text - start) (drop start text) (simp length-drop (omega arith))

-- a line that ends in LF, as the code cuts it
abbrev line_in : ℕ → ℕ → List ℕ → List ℕ
line_in start n text = trimmed (strip_carriage_return (take (start + n - start) (drop start text)))

-- how the lines behind it are read
abbrev behind : ℕ → ℕ → ℕ → List ℕ → ℕ → Flash → Result Flash Fault
behind before start n text next held = read_lines (suc before) next held (lines_of (drop (start + n + 1) text))

abbrev no_end : ℕ → ℕ → Flash → Result Flash Fault
no_end before next held = Err (suc before, why.NoEnd)

-- the first line of the rest
lines_rest : (start n : ℕ) (text : List ℕ) → Some n ≡ position is_lf (rest_of start text)
    → lines_of (drop start text) ≡ line_in start n text ∷ lines_of (drop (start + n + 1) text)
lines_rest start n text h =
    let place : position is_lf (drop start text) ≡ Some n = ap (position is_lf) (sym (rest_of-drop start text)) ∙ sym h in
    let size : n ≡ start + n - start = omega arith in
    let end : start + (n + 1) ≡ start + n + 1 = omega arith in
    let rest : drop (n + 1) (drop start text) ≡ drop (start + n + 1) text = drop-drop (n + 1) start text ∙ ap (λ k. drop k text) end in
    lines_next (drop start text) n place
    ∙ (ap (λ k. trimmed (strip_carriage_return (take k (drop start text))) ∷ lines_of (drop (n + 1) (drop start text))) size
    ∙ ap (λ ys. line_in start n text ∷ lines_of ys) rest)

next_line : (before base start n : ℕ) (flash : Flash) (text line : List ℕ) (r : Result (Progress × Flash) HexWhy)
    → Some n ≡ position is_lf (rest_of start text) → line ≡ line_in start n text → after_line base flash line ≡ r
    → read_lines before base flash (lines_of (drop start text)) ≡ go_on (suc before) r (behind before start n text)
next_line before base start n flash text line r h cut is =
    ap (read_lines before base flash) (lines_rest start n text h)
    ∙ ap (λ a. go_on (suc before) a (behind before start n text)) (ap (after_line base flash) (sym cut) ∙ is)

-- it goes on
pub next_more : (before base start n next : ℕ) (flash held : Flash) (text line : List ℕ) (p : Progress)
    → Some n ≡ position is_lf (rest_of start text) → line ≡ line_in start n text → p ≡ More next → after_line base flash line ≡ Ok (p, held)
    → read_lines (before + 1) next held (lines_of (drop (start + n + 1) text)) ≡ read_lines before base flash (lines_of (drop start text))
next_more before base start n next flash held text line p h cut more is =
    let one : suc before ≡ before + 1 = omega arith in
    sym (next_line before base start n flash text line (Ok (More next, held)) h cut (is ∙ ap (λ q. Ok (q, held)) more)
    ∙ ap (λ k. read_lines k next held (lines_of (drop (start + n + 1) text))) one)

-- within the text
pub next_within : (start n : ℕ) (text : List ℕ) → start ≤ length text → Some n ≡ position is_lf (rest_of start text)
    → start + n + 1 ≤ length text
next_within start n text h place =
    let below = position_some (position_or_len is_lf (rest_of start text)) (length (rest_of start text)) n (sym place) in
    let len : length (rest_of start text) ≡ length text - start = ap length (rest_of-drop start text) ∙ length-drop start text in
    omega (arith, below.0, below.1, len)

pub next_ended : (before base start n : ℕ) (flash held : Flash) (text line : List ℕ) (p : Progress)
    → Some n ≡ position is_lf (rest_of start text) → line ≡ line_in start n text → p ≡ Ended → after_line base flash line ≡ Ok (p, held)
    → read_lines before base flash (lines_of (drop start text)) ≡ Ok held
next_ended before base start n flash held text line p h cut ended is =
    next_line before base start n flash text line (Ok (Ended, held)) h cut (is ∙ ap (λ q. Ok (q, held)) ended)

pub next_err : (before base start n : ℕ) (flash : Flash) (text line : List ℕ) (w : HexWhy)
    → Some n ≡ position is_lf (rest_of start text) → line ≡ line_in start n text → after_line base flash line ≡ Err w
    → read_lines before base flash (lines_of (drop start text)) ≡ Err (before + 1, w)
next_err before base start n flash text line w h cut is =
    let one : suc before ≡ before + 1 = omega arith in
    next_line before base start n flash text line (Err w) h cut is ∙ ap (λ k. Err (k, w)) one

-- what follows the last LF is the last line
last_line : (before base start : ℕ) (flash : Flash) (text line : List ℕ) (r : Result (Progress × Flash) HexWhy)
    → None ≡ position is_lf (rest_of start text) → line ≡ trimmed (rest_of start text) → after_line base flash line ≡ r
    → read_lines before base flash (lines_of (drop start text)) ≡ go_on (suc before) r (no_end before)
last_line before base start flash text line r h cut is =
    ap (λ ys. read_lines before base flash (lines_of ys)) (sym (rest_of-drop start text))
    ∙ (ap (read_lines before base flash) (lines_last (rest_of start text) (sym h))
    ∙ ap (λ a. go_on (suc before) a (no_end before)) (ap (after_line base flash) (sym cut) ∙ is))

pub last_told : (before base start : ℕ) (flash : Flash) (text : List ℕ) → None ≡ position is_lf (rest_of start text)
    → go_on (before + 1) (after_line base flash (trimmed (rest_of start text))) (λ next held. Err (before + 1, why.NoEnd))
    ≡ read_lines before base flash (lines_of (drop start text))
last_told before base start flash text h =
    let one : suc before ≡ before + 1 = omega arith in
    sym (last_line before base start flash text (trimmed (rest_of start text)) (after_line base flash (trimmed (rest_of start text))) h refl
    refl
    ∙ ap (λ k. go_on k (after_line base flash (trimmed (rest_of start text))) (λ next held. Err (k, why.NoEnd))) one)

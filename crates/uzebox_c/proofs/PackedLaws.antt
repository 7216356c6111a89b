-- Texts in one row of bytes.
use Rattle.std.proofs.Common.{◌≡◌, ℕ, zero, suc, ◌+◌, ◌<◌, ◌≤◌, ◌^◌, List, [], ◌∷◌, ◌++◌, length, take, drop, get_or, refl, sym, ap, ◌∙◌, subst, arith, append_assoc, length-append}
use Rattle.std.proofs.lemmas.List.{append-nil, take-append-drop, length-take-le}
use Rattle.std.proofs.lemmas.Nat.{le_bytes_8, from_le_bytes-to_le_bytes_8}
use Rattle.std.specs.Int.{w64, to_le_bytes, from_le_bytes}
use Rattle.std.proofs.lemmas.Bool.Decides.{nat_tests}
use Rattle.std.specs.Prelude.{◌==◌, Bool, false}
use Rattle.std.proofs.Math.Seq.{take-append_seam, drop-append_seam}
use Rattle.std.specs.List.{AllByRecursion}
use Rattle.std.specs.Str.{IsUtf8}
use Rattle.uzebox_c.specs.Packed.{AreFiles, AreWords, NamedFile, as_texts, field, packed}

pub length_field : (text rest : List ℕ) → length (field text ++ rest) ≡ 8 + length (text ++ rest)
unfolding field
length_field text rest = omega arith

-- what stands behind the length
pub behind : (text rest : List ℕ) → drop 8 (field text ++ rest) ≡ text ++ rest
unfolding field
behind text rest = refl

pub before : (text rest : List ℕ) → take 8 (field text ++ rest) ≡ to_le_bytes w64 (length text)
unfolding field
before text rest = refl

-- fewer than eight bytes begin with no text
pub too_few : (bytes text rest : List ℕ) → length bytes < 8 → bytes ≡ field text ++ rest → ⊥
too_few bytes text rest few e = omega (arith, ap length e, length_field text rest)

-- fewer bytes than the length says hold no text
pub too_short : (bytes text rest : List ℕ) (n : ℕ) → n ≡ from_le_bytes w64 (take 8 bytes) → length (drop 8 bytes) < n
    → n < 2 ^ 64 → bytes ≡ field text ++ rest → ⊥
too_short bytes text rest n is short fits e =
    let tail : length (drop 8 bytes) ≡ length text + length rest = ap (λ b. length (drop 8 b)) e ∙ ap length (behind text rest) ∙ length-append text rest in
    let small : length text < 2 ^ 64 = omega (arith, tail, short, fits) in
    let says : n ≡ length text = is ∙ ap (λ b. from_le_bytes w64 (take 8 b)) e ∙ ap (from_le_bytes w64) (before text rest)
    ∙ from_le_bytes-to_le_bytes_8 (length text) small in
    omega (arith, tail, says, short)

-- bytes at the front are bytes
small_front : (bs : List ℕ) → ((i : ℕ) → get_or bs i 0 < 256) → (n i : ℕ) → get_or (take n bs) i 0 < 256
small_front bs small zero i = omega arith
small_front [] small (suc n) i = omega arith
small_front (b ∷ bs) small (suc n) zero = small 0
small_front (b ∷ bs) small (suc n) (suc i) = small_front bs (λ k. small (suc k)) n i

-- a text that was cut off, put back
pub whole : (bytes text rest : List ℕ) (n : ℕ) → n ≡ from_le_bytes w64 (take 8 bytes) → 8 ≤ length bytes
    → ((i : ℕ) → get_or bytes i 0 < 256) → text ≡ take n (drop 8 bytes) → rest ≡ drop n (drop 8 bytes) → length text ≡ n
    → bytes ≡ field text ++ rest
unfolding field
whole bytes text rest n is eight small front back long =
    sym (append_assoc (to_le_bytes w64 (length text)) text rest
    ∙ ap (λ k. to_le_bytes w64 k ++ (text ++ rest)) long
    ∙ ap (λ h. h ++ (text ++ rest)) (le_bytes_8 (take 8 bytes) n (length-take-le 8 bytes eight) (small_front bytes small 8) is)
    ∙ ap (λ t. take 8 bytes ++ t) ((λ i. front i ++ back i) ∙ take-append-drop n (drop 8 bytes))
    ∙ take-append-drop 8 bytes)

-- a text that is put behind bytes
pub put_behind : (bytes mid new text : List ℕ) → mid ≡ bytes ++ to_le_bytes w64 (length text) → new ≡ mid ++ text → new ≡ bytes ++ field text
unfolding field
put_behind bytes mid new text first then = then ∙ ap (λ m. m ++ text) first ∙ append_assoc bytes (to_le_bytes w64 (length text)) text

-- texts in a row begin in one way alone
pub unique : (v x w y : List ℕ) → length w + length y < 2 ^ 64 → field v ++ x ≡ field w ++ y → (v ≡ w) × (x ≡ y)
unique v x w y fits e =
    let heads : to_le_bytes w64 (length v) ≡ to_le_bytes w64 (length w) = sym (before v x) ∙ ap (take 8) e ∙ before w y in
    let tails : v ++ x ≡ w ++ y = sym (behind v x) ∙ ap (drop 8) e ∙ behind w y in
    let total : length v + length x ≡ length w + length y = sym (length-append v x) ∙ ap length tails ∙ length-append w y in
    let small_v : length v < 2 ^ 64 = omega (arith, total, fits) in
    let small_w : length w < 2 ^ 64 = omega (arith, fits) in
    let same : length v ≡ length w = sym (from_le_bytes-to_le_bytes_8 (length v) small_v) ∙ ap (from_le_bytes w64) heads
    ∙ from_le_bytes-to_le_bytes_8 (length w) small_w in (
      sym (take-append_seam v x) ∙ (λ i. take (same i) (tails i)) ∙ take-append_seam w y,
      sym (drop-append_seam v x) ∙ (λ i. drop (same i) (tails i)) ∙ drop-append_seam w y,
    )

-- what begins with a text isn't empty, and is longer than what comes after it
pub longer : (bytes text rest : List ℕ) → bytes ≡ field text ++ rest → length rest < length bytes
longer bytes text rest e = omega (arith, ap length e, length_field text rest, length-append text rest)

pub packed-append : (xs ys : List (List ℕ)) → packed (xs ++ ys) ≡ packed xs ++ packed ys
packed-append [] ys = refl
packed-append (x ∷ xs) ys = ap (λ t. field x ++ t) (packed-append xs ys) ∙ sym (append_assoc (field x) (packed xs) (packed ys))

-- one more text is read
pub text_more : (bytes text rest more : List ℕ) (texts : List (List ℕ)) → rest ≡ field text ++ more → bytes ≡ packed texts ++ rest
    → bytes ≡ packed (texts ++ text ∷ []) ++ more
text_more bytes text rest more texts cut whole =
    whole ∙ ap (λ r. packed texts ++ r) cut ∙ sym (append_assoc (packed texts) (field text) more)
    ∙ ap (λ p. p ++ more) (ap (λ f. packed texts ++ f) (sym (append-nil (field text))) ∙ sym (packed-append texts (text ∷ [])))

pub all_more : (words : List (List ℕ)) (word : List ℕ) → AllByRecursion IsUtf8 words → IsUtf8 word → AllByRecursion IsUtf8 (words ++ word ∷ [])
all_more [] word all is = (is, tt)
all_more (w ∷ words) word all is = (all.0, all_more words word all.1 is)

-- words that are left begin with the word that is cut off
pub words_left : (rest word more : List ℕ) → rest ≡ field word ++ more → length word + length more < 2 ^ 64 → (all : List (List ℕ))
    → AreWords rest all → IsUtf8 word × ((some : List (List ℕ)) × AreWords more some)
words_left rest word more cut fits [] are = absurd (omega (arith, longer rest word more cut, ap length are.0))
words_left rest word more cut fits (v ∷ vs) are =
    let same = unique v (packed vs) word more fits (sym are.0 ∙ cut) in
    (subst IsUtf8 same.0 are.1.0, (vs, (sym same.1, are.1.1)))

-- where no text can be cut off there is no word
pub no_words : (rest : List ℕ) → 0 < length rest → ((text more : List ℕ) → rest ≡ field text ++ more → ⊥) → (all : List (List ℕ))
    → AreWords rest all → ⊥
no_words rest some none [] are = omega (arith, ap length are.0)
no_words rest some none (v ∷ vs) are = none v (packed vs) are.0

pub as_texts-append : (xs ys : List NamedFile) → as_texts (xs ++ ys) ≡ as_texts xs ++ as_texts ys
as_texts-append [] ys = refl
as_texts-append (x ∷ xs) ys = ap (λ t. x.0 ∷ x.1 ∷ t) (as_texts-append xs ys)

-- one more file is read
pub file_more : (bytes name text rest more : List ℕ) (files : List NamedFile) → rest ≡ field name ++ (field text ++ more)
    → bytes ≡ packed (as_texts files) ++ rest → bytes ≡ packed (as_texts (files ++ (name, text) ∷ [])) ++ more
file_more bytes name text rest more files cut whole =
    text_more bytes text (field text ++ more) more (as_texts files ++ name ∷ []) refl
    (text_more bytes name rest (field text ++ more) (as_texts files) cut whole)
    ∙ ap (λ t. packed t ++ more) (append_assoc (as_texts files) (name ∷ []) (text ∷ []) ∙ sym (as_texts-append files ((name, text) ∷ [])))

-- files that are left begin with the file that is cut off
pub files_left : (rest name text more : List ℕ) → rest ≡ field name ++ (field text ++ more)
    → length name + length (field text ++ more) < 2 ^ 64 → length text + length more < 2 ^ 64 → (all : List NamedFile)
    → AreFiles rest all → (some : List NamedFile) × AreFiles more some
files_left rest name text more cut name_fits text_fits [] are = absurd (omega (arith, longer rest name (field text ++ more) cut, ap length are))
files_left rest name text more cut name_fits text_fits (f ∷ fs) are =
    let first = unique f.0 (field f.1 ++ packed (as_texts fs)) name (field text ++ more) name_fits (sym are ∙ cut) in
    (fs, sym (unique f.1 (packed (as_texts fs)) text more text_fits first.1).1)

-- where no file can be cut off there is none
pub no_files : (rest : List ℕ) → 0 < length rest → ((name text more : List ℕ) → rest ≡ field name ++ (field text ++ more) → ⊥)
    → (all : List NamedFile) → AreFiles rest all → ⊥
no_files rest some none [] are = omega (arith, ap length are)
no_files rest some none (f ∷ fs) are = none f.0 f.1 (packed (as_texts fs)) are

pub not_empty : (n : ℕ) (b : Bool) → b ≡ (n == 0) → b ≡ false → 0 < n
not_empty n b is empty = grind (arith, nat_tests)

-- How a line is read: from left to right, each word as what is due at its place.
use Rattle.std.specs.Prelude.{ℕ, ℤ, pos, neg_ℤ, ◌+◌, ◌==◌, ◌&&◌, not, nat_le, nat_lt, Bool, true, false, List, [], ◌∷◌, bytes_eq, Option}
use Rattle.std.specs.Prelude.{Some, None, Result, Ok, Err, if◌then◌else◌, refl}
use Rattle.std.specs.Borrow.{Bor}
use Rattle.std.specs.Coded.{Coded, code_by, coded×, coded_ℕ, coded_bool, coded_list}
use Prim.Native.Char.{code}
use Rattle.uz_hex.specs.Numbers.{is_numeral, number_below, number_within}
use Rattle.uz_cert_lines.specs.declared.words.NumberBounds.{NumberBounds}
use Rattle.uz_cert_lines.specs.declared.why.CertWhy.{CertWhy}
use Rattle.uz_cert_lines.specs.declared.why.CertWhy.TheVariants as why

-- the words of a line that are still to come, and whether the line ends in LF
pub record Words : Type 0 where
  pub list : List (List ℕ)
  pub ended : Bool

abbrev pub words_code : Coded Words
words_code =
    code_by (List (List ℕ) × Bool) (coded× (coded_list (coded_list coded_ℕ)) coded_bool)
    (λ w. (w.list, w.ended)) (λ p. record { list = p.0; ended = p.1 }) (λ _. refl)

-- the words of a text, cut at each space
abbrev pub with_byte : ℕ → List (List ℕ) → List (List ℕ)
with_byte b [] = (b ∷ []) ∷ []
with_byte b (w ∷ ws) = (b ∷ w) ∷ ws

abbrev pub cut_words : List ℕ → List (List ℕ)
cut_words [] = [] ∷ []
cut_words (b ∷ bs) = if b == code " " then [] ∷ cut_words bs else with_byte b (cut_words bs)

abbrev pub words_left : Option (Bor (List ℕ)) → List (List ℕ)
words_left None = []
words_left (Some line) = cut_words line.now

-- an empty line has no words
abbrev pub words_of : List ℕ → List (List ℕ)
words_of [] = []
words_of (b ∷ bs) = cut_words (b ∷ bs)

abbrev pub first_word : List (List ℕ) → Option (List ℕ)
first_word [] = None
first_word (w ∷ ws) = Some w

abbrev pub other_words : List (List ℕ) → List (List ℕ)
other_words [] = []
other_words (w ∷ ws) = ws

abbrev pub rest_of : Words → Words
rest_of words = record { list = other_words words.list; ended = words.ended }

-- a number within the limits, which is to be outside a hole in them, and then to keep the order
abbrev pub asked : NumberBounds → ℕ → Result ℕ CertWhy
asked a n =
    if nat_le a.hole n && nat_lt n a.hole_end then Err why.Limit
    else (if nat_le a.least n && not (n == a.other) then Ok n else Err why.Order)

-- a word that is no number, or one outside the limits
abbrev pub number_or : NumberBounds → Bool → Option ℕ → Result ℕ CertWhy
number_or a numeral (Some n) = asked a n
number_or a true None = Err a.beyond
number_or a false None = Err why.Number

unfoldable pub number_of : NumberBounds → List ℕ → Result ℕ CertWhy
number_of a w = number_or a (is_numeral w) (number_within a.low a.limit w)

-- a number with a sign before it where it is below 0
abbrev pub signed_or : Bool → Option ℕ → Result ℤ CertWhy
signed_or numeral (Some n) = if n == 0 then Err why.Number else Ok (neg_ℤ (pos n))
signed_or true None = Err why.Limit
signed_or false None = Err why.Number

abbrev pub unsigned_or : Bool → Option ℕ → Result ℤ CertWhy
unsigned_or numeral (Some n) = Ok (pos n)
unsigned_or true None = Err why.Limit
unsigned_or false None = Err why.Number

unfoldable pub slope_of : ℕ → List ℕ → Result ℤ CertWhy
slope_of limit [] = Err why.Number
slope_of limit (c ∷ cs) =
    if c == code "-" then signed_or (is_numeral cs) (number_below limit cs)
    else unsigned_or (is_numeral (c ∷ cs)) (number_below limit (c ∷ cs))

unfoldable pub fixed_of : List ℕ → List ℕ → Result ℕ CertWhy
fixed_of wanted w = if bytes_eq w wanted then Ok 0 else Err why.Word

-- what a missing word is, in a line that ends in LF and in one that doesn't
abbrev pub missing : Bool → CertWhy
missing true = why.Word
missing false = why.NoEnd

abbrev pub first_as : {A : Type 0} → Bool → (List ℕ → Result A CertWhy) → List (List ℕ) → Result A CertWhy
first_as ended judge [] = Err (missing ended)
first_as ended judge (w ∷ ws) = judge w

abbrev pub next_as : {A : Type 0} → (List ℕ → Result A CertWhy) → Words → Result A CertWhy
next_as judge words = first_as words.ended judge words.list

-- the end of a line that ends in LF
abbrev pub end_of : Bool → List (List ℕ) → Result ℕ CertWhy
end_of true [] = Ok 0
end_of false [] = Err why.NoEnd
end_of ended (w ∷ ws) = Err why.Word

-- one of some words, by its place
abbrev pub choice_from : ℕ → List (List ℕ) → List ℕ → Result ℕ CertWhy
choice_from place [] w = Err why.Word
choice_from place (wanted ∷ others) w = if bytes_eq w wanted then Ok place else choice_from (place + 1) others w

unfoldable pub choice_of : List (List ℕ) → List ℕ → Result ℕ CertWhy
choice_of wanted w = choice_from 0 wanted w

-- How tokens lie in a text: each is its slice, by its kind, and only gaps stand before, between and after them.
use Rattle.std.specs.Prelude.{◌≡◌, ◌⊎◌, ℕ, ◌+◌, ◌<◌, ◌≤◌, ◌==◌, Bool, true, false, List, [], ◌∷◌, ◌++◌, length, take, drop, slice_index}
use Rattle.std.specs.Prelude.{count_by, pos, None, Some}
use Prim.Native.Char.{code}
use Rattle.std.specs.List.{slice_range}
use Rattle.avr_text.specs.declared.tokens.TokenKind.{TokenKind}
use Rattle.avr_text.specs.declared.tokens.TokenKind.TheVariants.{Name, Number, Mark, ShiftLeft, ShiftRight, LineEnd}
use Rattle.avr_text.specs.declared.tokens.Token.{Token}
use Rattle.avr_text.specs.declared.tokens.LexWhy.{LexWhy}
use Rattle.avr_text.specs.declared.tokens.LexWhy.TheVariants as lex_why
use Rattle.avr_text.specs.declared.tokens.LexError.{LexError}
use Rattle.uz_hex.specs.Lines.{is_blank}
use Rattle.avr_text.specs.Characters.{is_digit, is_word, is_mark, goes_on_line}
use Rattle.avr_text.specs.Numbers.{number_of}
use Rattle.avr_text.specs.Tokens.{text_of}

-- each byte passes a test
abbrev pub Each : (ℕ → Bool) → List ℕ → Type 0
Each test [] = Unit {0}
Each test (b ∷ bs) = (test b ≡ true) × Each test bs

-- no byte is left, or the first one fails a test
abbrev pub Stops : (ℕ → Bool) → List ℕ → Type 0
Stops test [] = Unit {0}
Stops test (b ∷ bs) = test b ≡ false

-- What means nothing, before other bytes: blanks, a CR right before LF, and a comment from ; up to the line's end.
pub data IsGap : List ℕ → List ℕ → Type 0 where
  gap_none : {after : List ℕ} → IsGap [] after
  gap_blank : {b : ℕ} {gap after : List ℕ} → is_blank b ≡ true → IsGap gap after → IsGap (b ∷ gap) after
  gap_return : {gap after : List ℕ} (rest : List ℕ) → gap ++ after ≡ code "\n" ∷ rest → IsGap gap after → IsGap (code "\r" ∷ gap) after
  gap_comment : {gap after : List ℕ} (comment : List ℕ) → Each goes_on_line comment → Stops goes_on_line (gap ++ after) → IsGap gap after
      → IsGap (code ";" ∷ (comment ++ gap)) after

-- a longest word: letters, digits and _, with none after them
pub record IsWord (word after : List ℕ) : Type 0 where
  pub some : 0 < length word
  pub letters : Each is_word word
  pub longest : Stops is_word after

-- bytes are a token of a kind, before other bytes: a digit begins a number, and no name
abbrev pub IsSpelling : TokenKind → List ℕ → List ℕ → Type 0
IsSpelling Name word after = IsWord word after × (is_digit (slice_index word 0) ≡ false)
IsSpelling (Number n) word after = IsWord word after × (is_digit (slice_index word 0) ≡ true) × (m : ℕ) × (number_of word ≡ Some m)
    × (n ≡ pos m)
IsSpelling (Mark b) word after = (is_mark b ≡ true) × (word ≡ b ∷ [])
IsSpelling ShiftLeft word after = word ≡ code "<" ∷ code "<" ∷ []
IsSpelling ShiftRight word after = word ≡ code ">" ∷ code ">" ∷ []
IsSpelling LineEnd word after = word ≡ code "\n" ∷ []

-- the line of a byte: 1, and one more for each LF before it
abbrev pub line_of : List ℕ → ℕ → ℕ
line_of text at = 1 + count_by (λ b. b == code "\n") (take at text)

-- a token is the next one after a byte's place
pub record IsNext (text : List ℕ) (at : ℕ) (token : Token) : Type 0 where
  pub order : at ≤ token.from
  pub some : token.from < token.to
  pub within : token.to ≤ length text
  pub gap : IsGap (slice_range text at token.from) (drop token.from text)
  pub spelled : IsSpelling token.kind (text_of text token) (drop token.to text)
  pub line : token.line ≡ line_of text token.from

-- tokens in order and gaps are all of a text from a place on, up to an end
abbrev pub SpelledTo : List ℕ → ℕ → ℕ → List Token → Type 0
SpelledTo text end at [] = (at ≤ end) × IsGap (slice_range text at end) (drop end text)
SpelledTo text end at (token ∷ tokens) = IsNext text at token × SpelledTo text end token.to tokens

-- tokens and gaps are the whole text
abbrev pub IsSpelled : List ℕ → List Token → Type 0
IsSpelled text tokens = SpelledTo text (length text) 0 tokens

-- no gap that has a byte begins here, and no token
pub record NothingBegins (bytes : List ℕ) : Type 0 where
  pub no_gap : (gap after : List ℕ) → bytes ≡ gap ++ after → IsGap gap after → gap ≡ []
  pub no_token : (kind : TokenKind) (word after : List ℕ) → bytes ≡ word ++ after → ¬ IsSpelling kind word after

-- why bytes can't be cut: no word is there and nothing else begins, or a longest word that a digit begins is no number
abbrev pub FaultAt : LexWhy → List ℕ → Type 0
FaultAt lex_why.Byte bytes = Stops is_word bytes × NothingBegins bytes
FaultAt lex_why.Number bytes = (word after : List ℕ) × (bytes ≡ word ++ after) × IsWord word after × (is_digit (slice_index word 0) ≡ true)
    × (number_of word ≡ None)
FaultAt lex_why.Memory bytes = ⊥

-- a fault of a text from a place on: tokens and gaps are all before it
pub record HasFault (text : List ℕ) (at : ℕ) (fault : LexError) : Type 0 where
  pub place : ℕ
  pub tokens : List Token
  pub within : place < length text
  pub before : SpelledTo text place at tokens
  pub line : fault.line ≡ line_of text place
  pub why : FaultAt fault.why (drop place text)

-- the first fault of a text, unless memory ran out: then the line is 0
abbrev pub IsFaultOf : List ℕ → LexError → Type 0
IsFaultOf text fault = ((fault.why ≡ lex_why.Memory) × (fault.line ≡ 0)) ⊎ HasFault text 0 fault

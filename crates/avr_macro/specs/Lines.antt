-- The lines of a file, and the blanks and words at the front of a line.
use Rattle.std.specs.Prelude.{ℕ, ◌==◌, Bool, true, List, [], ◌∷◌, ◌++◌, reverse, if◌then◌else◌}
use Rattle.std.specs.Str.Lines.{strip_carriage_return}
use Prim.Native.Char.{code}
use Rattle.uz_hex.specs.Lines.{is_blank}
use Rattle.avr_text.specs.Characters.{is_word}

-- a last line may lack its LF; where nothing stands after the last LF, no line does
abbrev pub last_line : List ℕ → List (List ℕ)
last_line [] = []
last_line (b ∷ bs) = (b ∷ bs) ∷ []

-- the lines of a text whose first line began before it
abbrev pub lines_from : List ℕ → List ℕ → List (List ℕ)
lines_from begun [] = last_line begun
lines_from begun (b ∷ bs) = if b == code "\n" then strip_carriage_return begun ∷ lines_from [] bs else lines_from (begun ++ b ∷ []) bs

-- lines end in LF or CRLF, and are told without their ends
abbrev pub lines_of : List ℕ → List (List ℕ)
lines_of text = lines_from [] text

-- what comes after the blanks at the front
abbrev pub after_blanks : List ℕ → List ℕ
after_blanks [] = []
after_blanks (b ∷ bs) = if is_blank b then after_blanks bs else b ∷ bs

-- without the blanks at both ends
abbrev pub trimmed : List ℕ → List ℕ
trimmed text = reverse (after_blanks (reverse (after_blanks text)))

-- the letters, digits and _ at the front, and what comes after them
abbrev pub word_of : List ℕ → List ℕ
word_of [] = []
word_of (b ∷ bs) = if is_word b then b ∷ word_of bs else []

abbrev pub after_word : List ℕ → List ℕ
after_word [] = []
after_word (b ∷ bs) = if is_word b then after_word bs else b ∷ bs

-- nothing but blanks and a comment
abbrev pub begins_comment : List ℕ → Bool
begins_comment [] = true
begins_comment (b ∷ bs) = b == code ";"

abbrev pub is_bare : List ℕ → Bool
is_bare text = begins_comment (after_blanks text)

-- The lines of a text, which end in LF or CRLF, and blanks.
use Rattle.std.specs.Prelude.{ℕ, ◌+◌, Bool, ◌||◌, ◌==◌, if◌then◌else◌, nat_lt, List, [], ◌∷◌, length}
use Rattle.std.specs.Prelude.{slice_index_or}
use Rattle.std.specs.List.{slice_split}
use Rattle.std.specs.Str.Lines.{strip_carriage_return}
use Prim.Native.Char.{code}

-- a space or a tab
abbrev pub is_blank : ℕ → Bool
is_blank b = b == code " " || b == code "\t"

-- a CR belongs to a line's end only where LF follows; the last line has no LF
abbrev pub lines_of_pieces : List (List ℕ) → List (List ℕ)
lines_of_pieces [] = []
lines_of_pieces (last ∷ []) = last ∷ []
lines_of_pieces (piece ∷ next ∷ more) = strip_carriage_return piece ∷ lines_of_pieces (next ∷ more)

abbrev pub lines_of : List ℕ → List (List ℕ)
lines_of text = lines_of_pieces (slice_split (λ byte. byte == code "\n") text)

-- the line at a place among the pieces of a text
abbrev pub line_at : List (List ℕ) → ℕ → List ℕ
line_at pieces at =
    if nat_lt (at + 1) (length pieces)
    then strip_carriage_return (slice_index_or pieces at [])
    else slice_index_or pieces at []

-- What a line is, by the words at its front.
use Rattle.std.specs.Prelude.{ℕ, ◌==◌, ◌&&◌, ◌||◌, Bool, true, List, [], ◌∷◌, codes, Option, Some, None, slice_index, if◌then◌else◌}
use Prim.Native.Char.{code}
use Rattle.uz_hex.specs.Lines.{is_blank}
use Rattle.avr_text.specs.Characters.{begins_name}
use Rattle.avr_text.specs.Words.{is_word_named}
use Rattle.avr_macro.specs.declared.directives.Word.{Word}
use Rattle.avr_macro.specs.declared.directives.Word.TheVariants.{Macro, EndMacro, Repeat, EndRepeat, If, Else, EndIf, Include, Constant}
use Rattle.avr_macro.specs.declared.directives.Word.TheVariants.{Other}
use Rattle.avr_macro.specs.Lines.{after_blanks, word_of, after_word, is_bare}

-- the directives of macros and blocks, in either case
abbrev pub named_word : List ℕ → Word
named_word word =
    if is_word_named word (codes "macro") then Macro
    else if is_word_named word (codes "endm") then EndMacro
    else if is_word_named word (codes "rept") then Repeat
    else if is_word_named word (codes "endr") then EndRepeat
    else if is_word_named word (codes "if") then If
    else if is_word_named word (codes "else") then Else
    else if is_word_named word (codes "endif") then EndIf
    else if is_word_named word (codes "include") then Include
    else if is_word_named word (codes "equ") then Constant
    else Other

-- a directive is `.` and its name, which blanks may part
abbrev pub dot_word : List ℕ → Word
dot_word [] = Other
dot_word (b ∷ bs) = if b == code "." then named_word (word_of (after_blanks bs)) else Other

abbrev pub after_dot : List ℕ → List ℕ
after_dot [] = []
after_dot (b ∷ bs) = after_word (after_blanks bs)

-- which directive a line is
unfoldable pub directive_of : List ℕ → Word
directive_of line = dot_word (after_blanks line)

-- what comes after a directive's name
unfoldable pub operands_of : List ℕ → List ℕ
operands_of line = after_dot (after_blanks line)

-- a line has a first word where a blank, a comment or the line's end comes after it
abbrev pub ends_word : List ℕ → Bool
ends_word [] = true
ends_word (b ∷ bs) = is_blank b || b == code ";"

abbrev pub first_word : List ℕ → Option (List ℕ)
first_word line = if ends_word (after_word (after_blanks line)) then Some (word_of (after_blanks line)) else None

-- what comes after the first word
abbrev pub after_first_word : List ℕ → List ℕ
after_first_word line = after_word (after_blanks line)

-- the one name after `.macro`
abbrev pub macro_name_at : List ℕ → Option (List ℕ)
macro_name_at text = if begins_name (slice_index text 0) && is_bare (after_word text) then Some (word_of text) else None

abbrev pub macro_name : List ℕ → Option (List ℕ)
macro_name operands = macro_name_at (after_blanks operands)

-- a line that closes a block, or parts it, has no further words
unfoldable pub closes_well : List ℕ → Bool
closes_well line = is_bare (operands_of line)

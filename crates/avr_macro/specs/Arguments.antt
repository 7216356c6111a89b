-- The arguments of a call, and the body of a macro with them in their places.
use Rattle.std.specs.Prelude.{ℕ, ◌-◌, ◌==◌, ◌&&◌, nat_le, not, Bool, true, false, List, [], ◌∷◌, ◌++◌, map, decimal, slice_index_or}
use Rattle.std.specs.Prelude.{if◌then◌else◌}
use Rattle.std.specs.List.{slice_split}
use Prim.Native.Char.{code}
use Rattle.avr_text.specs.Characters.{is_digit}
use Rattle.avr_macro.specs.Lines.{after_blanks, trimmed}

-- arguments go up to the comment, and stand apart by commas
abbrev pub before_comment : List ℕ → List ℕ
before_comment [] = []
before_comment (b ∷ bs) = if b == code ";" then [] else b ∷ before_comment bs

abbrev pub is_comma : ℕ → Bool
is_comma b = b == code ","

abbrev pub is_empty : List ℕ → Bool
is_empty [] = true
is_empty (b ∷ bs) = false

-- blanks alone are no argument
unfoldable pub arguments_of : List ℕ → List (List ℕ)
arguments_of text =
    if is_empty (after_blanks (before_comment text)) then [] else map trimmed (slice_split is_comma (before_comment text))

-- `@` and a digit name an argument: those from a number on are lacking
abbrev pub lacks_from : ℕ → Bool → List ℕ → Bool
lacks_from count named [] = false
lacks_from count named (b ∷ bs) =
    if named && (is_digit b && nat_le count (b - code "0")) then true else lacks_from count (not named && b == code "@") bs

-- a line names an argument that a call with so many hasn't
abbrev pub lacks_argument : ℕ → List ℕ → Bool
lacks_argument count line = lacks_from count false line

abbrev pub any_lacks : ℕ → List (List ℕ) → Bool
any_lacks count [] = false
any_lacks count (line ∷ lines) = if lacks_argument count line then true else any_lacks count lines

-- the argument of a number
abbrev pub argument : List (List ℕ) → ℕ → List ℕ
argument arguments k = slice_index_or arguments k []

-- what `@` and the byte after it stand for: `@@` is the number of the call, and before another byte than a digit it stays
abbrev pub at_named : List (List ℕ) → ℕ → ℕ → List ℕ
at_named arguments call b =
    if b == code "@" then decimal call else if is_digit b then argument arguments (b - code "0") else code "@" ∷ b ∷ []

-- what a byte puts, after a `@` that waits for it or not
abbrev pub put_byte : List (List ℕ) → ℕ → Bool → ℕ → List ℕ
put_byte arguments call named b =
    if named then at_named arguments call b else if b == code "@" then [] else b ∷ []

abbrev pub put_end : Bool → List ℕ
put_end named = if named then code "@" ∷ [] else []

abbrev pub replaced_from : List (List ℕ) → ℕ → Bool → List ℕ → List ℕ
replaced_from arguments call named [] = put_end named
replaced_from arguments call named (b ∷ bs) =
    put_byte arguments call named b ++ replaced_from arguments call (not named && b == code "@") bs

-- a line of a body in a call
abbrev pub replaced : List (List ℕ) → ℕ → List ℕ → List ℕ
replaced arguments call line = replaced_from arguments call false line

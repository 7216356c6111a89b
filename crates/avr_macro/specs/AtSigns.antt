-- The `@` in lines of a macro, which arguments and the number of a call replace.
use Rattle.std.specs.Prelude.{◌≡◌, ℕ, ◌+◌, ◌-◌, ◌==◌, ◌&&◌, ◌||◌, max, not, Bool, true, false, ⊤, List, [], ◌∷◌, map, Option, Some, None}
use Rattle.std.specs.Prelude.{if◌then◌else◌}
use Prim.Native.Char.{code}
use Rattle.uz_hex.specs.Lines.{is_blank}
use Rattle.avr_text.specs.Characters.{is_digit}
use Rattle.avr_macro.specs.declared.arguments.Substitution.{Substitution}
use Rattle.avr_macro.specs.Arguments.{replaced}
use Rattle.avr_macro.specs.Directives.{directive_of}
use Rattle.avr_macro.specs.Lines.{after_blanks, after_word}

-- a line without `@`: no call changes it
abbrev pub is_plain : List ℕ → Bool
is_plain [] = true
is_plain (b ∷ bs) = if b == code "@" then false else is_plain bs

abbrev pub are_plain : List (List ℕ) → Bool
are_plain [] = true
are_plain (line ∷ lines) = if is_plain line then are_plain lines else false

-- no `@` stands at the front
abbrev pub lacks_at : List ℕ → Bool
lacks_at [] = true
lacks_at (b ∷ bs) = not (b == code "@")

-- A line is of the same directive in each call where `@` neither begins it nor comes right after a directive's name.
abbrev pub is_steady_front : List ℕ → Bool
is_steady_front [] = true
is_steady_front (b ∷ bs) = if b == code "." then lacks_at (after_word (after_blanks bs)) else not (b == code "@")

unfoldable pub is_steady : List ℕ → Bool
is_steady line = is_steady_front (after_blanks line)

abbrev pub are_steady : List (List ℕ) → Bool
are_steady [] = true
are_steady (line ∷ lines) = if is_steady line then are_steady lines else false

-- No call changes a line where each `@` stands before another byte than a digit and a `@`, or at the end.
abbrev pub is_settled_from : Bool → List ℕ → Bool
is_settled_from named [] = true
is_settled_from named (b ∷ bs) =
    if named && (is_digit b || b == code "@") then false else is_settled_from (not named && b == code "@") bs

abbrev pub is_settled : List ℕ → Bool
is_settled line = is_settled_from false line

abbrev pub are_settled : List (List ℕ) → Bool
are_settled [] = true
are_settled (line ∷ lines) = if is_settled line then are_settled lines else false

-- a `.` comes first, but for blanks and arguments
abbrev pub opens_dot : Bool → List ℕ → Bool
opens_dot named [] = false
opens_dot named (b ∷ bs) =
    if named then (if is_digit b then opens_dot false bs else false)
    else if is_blank b then opens_dot false bs
    else if b == code "@" then opens_dot true bs
    else b == code "."

-- A line is of the same directive in each call no argument of which begins with `.`, where `@` doesn't come right after
-- a directive's name, and no `.` comes after arguments that begin the line.
abbrev pub is_quiet_front : List ℕ → Bool
is_quiet_front [] = true
is_quiet_front (b ∷ bs) = if b == code "." then lacks_at (after_word (after_blanks bs)) else not (opens_dot false (b ∷ bs))

unfoldable pub is_quiet : List ℕ → Bool
is_quiet line = is_quiet_front (after_blanks line)

abbrev pub are_quiet : List (List ℕ) → Bool
are_quiet [] = true
are_quiet (line ∷ lines) = if is_quiet line then are_quiet lines else false

-- an argument begins with `.`
abbrev pub begins_dot : List ℕ → Bool
begins_dot [] = false
begins_dot (b ∷ bs) = b == code "."

abbrev pub any_dot : List (List ℕ) → Bool
any_dot [] = false
any_dot (argument ∷ arguments) = if begins_dot (after_blanks argument) then true else any_dot arguments

-- each line stays of its directive where it is changed
abbrev pub KeepsDirectives : (List ℕ → List ℕ) → List (List ℕ) → Type 0
KeepsDirectives change [] = ⊤
KeepsDirectives change (line ∷ lines) = (directive_of (change line) ≡ directive_of line) × KeepsDirectives change lines

-- how many arguments a byte needs: as many as end with the one that it names
abbrev pub digit_needs : Bool → ℕ → ℕ
digit_needs named b = if named && is_digit b then b - code "0" + 1 else 0

abbrev pub needed_from : Bool → List ℕ → ℕ
needed_from named [] = 0
needed_from named (b ∷ bs) = max (digit_needs named b) (needed_from (not named && b == code "@") bs)

-- how many arguments a line needs, and some lines
abbrev pub needed_in : List ℕ → ℕ
needed_in line = needed_from false line

abbrev pub needed_by : List (List ℕ) → ℕ
needed_by [] = 0
needed_by (line ∷ lines) = max (needed_in line) (needed_by lines)

-- a line in a call, or as it is
abbrev pub line_in : Option Substitution → List ℕ → List ℕ
line_in None line = line
line_in (Some s) line = replaced s.arguments s.call line

-- the arguments of a call have no `@`
abbrev pub puts_plain : Option Substitution → Bool
puts_plain None = false
puts_plain (Some s) = are_plain s.arguments

-- lines in a call, or as they are
abbrev pub filled : Option Substitution → List (List ℕ) → List (List ℕ)
filled None lines = lines
filled (Some s) lines = map (replaced s.arguments s.call) lines

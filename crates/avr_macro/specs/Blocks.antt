-- Where a block ends.
use Rattle.std.specs.Prelude.{ℕ, ◌+◌, ◌-◌, ◌==◌, ◌&&◌, Bool, true, false, List, [], ◌∷◌, Option, Some, None, if◌then◌else◌}
use Rattle.avr_macro.specs.declared.directives.Word.{Word}
use Rattle.avr_macro.specs.declared.directives.Word.TheVariants.{Macro, EndMacro, Repeat, EndRepeat, If, Else, EndIf, Include, Constant}
use Rattle.avr_macro.specs.declared.directives.Word.TheVariants.{Other}
use Rattle.avr_macro.specs.Directives.{directive_of}

-- two words are one
abbrev pub same_word : Word → Word → Bool
same_word Macro Macro = true
same_word EndMacro EndMacro = true
same_word Repeat Repeat = true
same_word EndRepeat EndRepeat = true
same_word If If = true
same_word Else Else = true
same_word EndIf EndIf = true
same_word Include Include = true
same_word Constant Constant = true
same_word Other Other = true
same_word a b = false

abbrev pub is_zero : ℕ → Bool
is_zero n = n == 0

abbrev pub one_more : Option ℕ → Option ℕ
one_more None = None
one_more (Some n) = Some (n + 1)

-- Blocks of one kind nest. How many lines stand before the first line of a word that lies in no further block of
-- the kind: such a block opens with one word and closes with another.
abbrev pub line_depth : Word → Word → Word → ℕ → ℕ
line_depth word opening closing depth =
    if same_word word opening then depth + 1 else if same_word word closing then depth - 1 else depth

unfoldable pub lines_before : Word → Word → Word → ℕ → List (List ℕ) → Option ℕ
lines_before wanted opening closing depth [] = None
lines_before wanted opening closing depth (line ∷ lines) =
    if is_zero depth && same_word (directive_of line) wanted then Some 0
    else one_more (lines_before wanted opening closing (line_depth (directive_of line) opening closing depth) lines)

-- how many lines stand before the end of a macro, of a repeated block and of a conditional one
abbrev pub macro_end : List (List ℕ) → Option ℕ
macro_end lines = lines_before EndMacro Macro EndMacro 0 lines

abbrev pub repeat_end : List (List ℕ) → Option ℕ
repeat_end lines = lines_before EndRepeat Repeat EndRepeat 0 lines

abbrev pub if_end : List (List ℕ) → Option ℕ
if_end lines = lines_before EndIf If EndIf 0 lines

-- how many lines of a conditional block stand before its `.else`
abbrev pub if_else : List (List ℕ) → Option ℕ
if_else lines = lines_before Else If EndIf 0 lines

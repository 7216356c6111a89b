-- The lines of a source, and what a line holds.
use Rattle.std.specs.Prelude.{ℕ, ◌+◌, ◌==◌, not, Bool, true, false, List, [], ◌∷◌, take_while, drop, Option, Some, None, Result, Ok, Err}
use Rattle.std.specs.Prelude.{if◌then◌else◌}
use Rattle.std.specs.List.{slice_split}
use Prim.Native.Char.{code}
use Rattle.avr_text.specs.declared.tokens.LexError.{LexError}
use Rattle.avr_text.specs.declared.tokens.Token.{Token}
use Rattle.avr_text.specs.declared.tokens.TokenKind.{TokenKind}
use Rattle.avr_text.specs.declared.tokens.TokenKind.TheVariants.{Name, LineEnd}
use Rattle.avr_text.specs.Reading.{is_mark_of}
use Rattle.avr_text.specs.Tokens.{text_of, tokens_of}
use Rattle.avr_asm.specs.declared.directives.Directive.{Directive}
use Rattle.avr_text.specs.declared.errors.AsmWhy.TheVariants.{Lex}
use Rattle.avr_asm.specs.declared.lines.Action.{Action}
use Rattle.avr_asm.specs.declared.lines.Action.TheVariants as action
use Rattle.avr_text.specs.declared.mnemonics.Mnemonic.{Mnemonic}
use Rattle.avr_asm.specs.Directives.{directive_of}
use Rattle.avr_text.specs.Faults.{OrFault}
use Rattle.avr_text.specs.Mnemonics.{mnemonic_of}

-- a line goes to its LF, which a last line may lack
abbrev pub onto_first : ℕ → List (List ℕ) → List (List ℕ)
onto_first b [] = (b ∷ []) ∷ []
onto_first b (line ∷ lines) = (b ∷ line) ∷ lines

abbrev pub goes_on : ℕ → Bool
goes_on b = not (b == code "\n")

abbrev pub lines_of : List ℕ → List (List ℕ)
lines_of [] = []
lines_of (b ∷ bs) = if goes_on b then onto_first b (lines_of bs) else (b ∷ []) ∷ lines_of bs

-- how many bytes the first line has
abbrev pub first_len : List ℕ → ℕ
first_len [] = 0
first_len (b ∷ bs) = if goes_on b then 1 + first_len bs else 1

-- the tokens of a line, without the line's end
abbrev pub is_end : TokenKind → Bool
is_end LineEnd = true
is_end other = false

abbrev pub is_content : Token → Bool
is_content token = not (is_end token.kind)

abbrev pub content : Result (List Token) LexError → OrFault (List Token)
content (Ok tokens) = Ok (take_while is_content tokens)
content (Err fault) = Err Lex

-- the tokens that a line holds
unfoldable pub content_of : List ℕ → OrFault (List Token)
content_of line = content (tokens_of line)

-- `name:` at the front is a label
abbrev pub is_name : TokenKind → Bool
is_name Name = true
is_name other = false

abbrev pub is_colon : TokenKind → Bool
is_colon = is_mark_of (code ":")

abbrev pub is_dot : TokenKind → Bool
is_dot = is_mark_of (code ".")

abbrev pub is_equals : TokenKind → Bool
is_equals = is_mark_of (code "=")

abbrev pub label_if : Bool → List ℕ → Option (List ℕ)
label_if true word = Some word
label_if false word = None

abbrev pub begins_with_label : List Token → Bool
begins_with_label (t ∷ u ∷ rest) = if is_name t.kind then is_colon u.kind else false
begins_with_label other = false

abbrev pub first_text : List ℕ → List Token → List ℕ
first_text line [] = []
first_text line (t ∷ ts) = text_of line t

abbrev pub label_of : List ℕ → List Token → Option (List ℕ)
label_of line tokens = label_if (begins_with_label tokens) (first_text line tokens)

-- what comes after the label
abbrev pub body_of : List Token → List Token
body_of tokens = if begins_with_label tokens then drop 2 tokens else tokens

abbrev pub instruction_or_unknown : Option Mnemonic → Action
instruction_or_unknown None = action.Unknown
instruction_or_unknown (Some mnemonic) = action.Instruction mnemonic

abbrev pub directive_or_none : Option Directive → Action
directive_or_none None = action.NoDirective
directive_or_none (Some directive) = action.Directive directive

abbrev pub dot_action : List ℕ → List Token → Action
dot_action line [] = action.NoDirective
dot_action line (t ∷ ts) = if is_name t.kind then directive_or_none (directive_of (text_of line t)) else action.NoDirective

-- an instruction begins with its name, a directive with `.` and its name
abbrev pub action_of : List ℕ → List Token → Action
action_of line [] = action.Empty
action_of line (t ∷ ts) =
    if is_name t.kind then instruction_or_unknown (mnemonic_of (text_of line t))
    else if is_dot t.kind then dot_action line ts
    else action.Unknown

-- the tokens after the name
abbrev pub arguments_of : Action → List Token → List Token
arguments_of (action.Instruction mnemonic) body = drop 1 body
arguments_of (action.Directive directive) body = drop 2 body
arguments_of other body = []

-- the parts between the commas, and none where there is nothing
abbrev pub is_comma : Token → Bool
is_comma token = is_mark_of (code ",") token.kind

abbrev pub parts_of : List Token → List (List Token)
parts_of [] = []
parts_of (t ∷ ts) = slice_split is_comma (t ∷ ts)

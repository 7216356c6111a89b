-- The expressions of directives, over the predefined names and the constants.
use Rattle.std.specs.Prelude.{ℕ, ℤ, List, ◌∷◌, Option, Some, None, Ok, Err, if◌then◌else◌}
use Rattle.avr_text.specs.declared.tokens.Token.{Token}
use Rattle.avr_text.specs.Arithmetic.{ValueOrWhy}
use Rattle.avr_text.specs.Names.{NameMap}
use Rattle.avr_text.specs.Reading.{value_of}
use Rattle.avr_text.specs.Tokens.{Cut, text_of, tokens_of}
use Rattle.avr_asm.specs.Lines.{is_name, is_equals}

abbrev pub if_valued : ValueOrWhy → Option ℤ
if_valued (Ok x) = Some x
if_valued (Err why) = None

-- the value of tokens, in which `.` means nothing
abbrev pub tokens_value : List ℕ → NameMap → List Token → Option ℤ
tokens_value text constants tokens = if_valued (value_of text tokens constants None)

-- the tokens of a text, where it can be cut
abbrev pub cut_tokens : Cut → Option (List Token)
cut_tokens (Ok tokens) = Some tokens
cut_tokens (Err fault) = None

abbrev pub cut_value : List ℕ → NameMap → Option (List Token) → Option ℤ
cut_value text constants (Some tokens) = tokens_value text constants tokens
cut_value text constants None = None

-- the value of a text, where it is an expression that has one
unfoldable pub text_value : NameMap → List ℕ → Option ℤ
text_value constants text = cut_value text constants (cut_tokens (tokens_of text))

-- a name and its value
abbrev pub Setting : Type 0
Setting = List ℕ × ℤ

abbrev pub set_to : List ℕ → Option ℤ → Option Setting
set_to name None = None
set_to name (Some x) = Some (name, x)

-- `NAME = E`
abbrev pub tokens_setting : List ℕ → NameMap → List Token → Option Setting
tokens_setting text constants (name ∷ equals ∷ tokens) =
    if is_name name.kind then (if is_equals equals.kind then set_to (text_of text name) (tokens_value text constants tokens) else None)
    else None
tokens_setting text constants other = None

abbrev pub cut_setting : List ℕ → NameMap → Option (List Token) → Option Setting
cut_setting text constants (Some tokens) = tokens_setting text constants tokens
cut_setting text constants None = None

-- the name and value that an `.equ` sets, by what comes after its word, where its expression has a value
unfoldable pub setting_of : NameMap → List ℕ → Option Setting
setting_of constants operands = cut_setting operands constants (cut_tokens (tokens_of operands))

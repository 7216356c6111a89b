-- Reading an expression from left to right: what waits, and what each token does.
--
-- Two stacks of the trade in one: operators wait with their left operand until one comes that binds no tighter, and
-- parentheses until they are closed. The signs before an operand are named by the places of their tokens.
use Rattle.std.specs.Prelude.{ℕ, ◌+◌, ◌-◌, ◌==◌, ◌||◌, nat_le, Bool, false, ℤ, List, [], ◌∷◌, length, Option, Some, None, Ok, Err}
use Rattle.std.specs.Prelude.{if◌then◌else◌}
use Prim.Native.Char.{code}
use Rattle.std.specs.List.{slice_range}
use Rattle.std.specs.FinMap as map
use Rattle.avr_text.specs.declared.operators.Binary.{Binary}
use Rattle.avr_text.specs.declared.operators.Bracket.{Bracket}
use Rattle.avr_text.specs.declared.operators.Bracket.TheVariants.{Plain}
use Rattle.avr_text.specs.declared.operator_stack.Entry.{Entry}
use Rattle.avr_text.specs.declared.operator_stack.Entry.TheVariants.{Waiting, Open}
use Rattle.avr_text.specs.declared.reader.Operand.{Operand}
use Rattle.avr_text.specs.declared.reader.Operand.TheVariants.{Value, Sign, Word, Nothing}
use Rattle.avr_text.specs.declared.reader.Operand.TheVariants as operand
use Rattle.avr_text.specs.declared.reader.Mode.{Mode}
use Rattle.avr_text.specs.declared.reader.Mode.TheVariants as mode
use Rattle.avr_text.specs.declared.reader.Reader.{Reader}
use Rattle.avr_text.specs.declared.tokens.TokenKind.{TokenKind}
use Rattle.avr_text.specs.declared.tokens.TokenKind.TheVariants.{Name, Number, Mark}
use Rattle.avr_text.specs.declared.tokens.Token.{Token}
use Rattle.avr_text.specs.declared.values.ValueWhy.TheVariants.{Form}
use Rattle.avr_text.specs.Arithmetic.{ValueOrWhy}
use Rattle.avr_text.specs.Names.{NameMap, known}
use Rattle.avr_text.specs.Operators.{level_of, combined, binary_of, is_sign, sign_applied, bracket_applied}
use Rattle.avr_text.specs.Tokens.{text_of}
use Rattle.avr_text.specs.Words.{bracket_word}

-- signs before an operand: the last one is applied first
abbrev pub signed : List Token → ValueOrWhy → ValueOrWhy
signed [] value = value
signed (t ∷ ts) value = sign_applied t.kind (signed ts value)

-- the operators that bind at least as tightly as a level take their right operand
abbrev pub reduced : ℕ → ValueOrWhy → List Entry → ValueOrWhy × List Entry
reduced level value [] = (value, [])
reduced level value (Open bracket from at ∷ entries) = (value, Open bracket from at ∷ entries)
reduced level value (Waiting left operator ∷ entries) =
    if nat_le level (level_of operator) then reduced level (combined operator left value) entries
    else (value, Waiting left operator ∷ entries)

abbrev pub word_or_value : Option Bracket → ValueOrWhy → Operand
word_or_value None value = Value value
word_or_value (Some bracket) value = Word bracket

abbrev pub name_operand : List ℕ → NameMap → Operand
name_operand word symbols = word_or_value (bracket_word word) (known (map.get symbols word))

-- `.`, where it means something
abbrev pub dot_operand : Option ℤ → Operand
dot_operand None = Nothing
dot_operand (Some x) = Value (Ok x)

abbrev pub mark_operand : ℕ → Option ℤ → Operand
mark_operand b dot =
    if b == code "(" then operand.Parenthesis else if b == code "." then dot_operand dot else if is_sign (Mark b) then Sign else Nothing

-- what a token is where an operand may begin
abbrev pub kind_operand : List ℕ → TokenKind → NameMap → Option ℤ → Operand
kind_operand word (Number n) symbols dot = Value (Ok n)
kind_operand word Name symbols dot = name_operand word symbols
kind_operand word (Mark b) symbols dot = mark_operand b dot
kind_operand word other symbols dot = Nothing

abbrev pub operand_of : List ℕ → Token → NameMap → Option ℤ → Operand
operand_of text token symbols dot = kind_operand (text_of text token) token.kind symbols dot

-- what may come next
abbrev pub in_mode : Mode → Reader → Reader
in_mode next s = record { stack = s.stack; depth = s.depth; mode = next }

-- the state before the first token
abbrev pub beginning : Reader
beginning = record { stack = []; depth = 0; mode = mode.Operand 0 }

-- a parenthesis is opened, at most 32 deep
abbrev pub opened : Bracket → ℕ → ℕ → ℕ → Reader → Reader
opened bracket from at next s =
    if nat_le 32 s.depth || length s.stack == 256 then in_mode mode.Refused s
    else record { stack = Open bracket from at ∷ s.stack; depth = s.depth + 1; mode = mode.Operand next }

-- the parenthesis at the top is closed
abbrev pub closed_at : List Token → ValueOrWhy → List Entry → Reader → Reader
closed_at tokens value [] s = record { stack = []; depth = s.depth; mode = mode.Refused }
closed_at tokens value (Waiting left operator ∷ entries) s = record { stack = entries; depth = s.depth; mode = mode.Refused }
closed_at tokens value (Open bracket from at ∷ entries) s =
    record {
      stack = entries;
      depth = s.depth - 1;
      mode = mode.Operator (signed (slice_range tokens from at) (bracket_applied bracket value));
    }

abbrev pub closed : List Token → ValueOrWhy → Reader → Reader
closed tokens value s = closed_at tokens (reduced 0 value s.stack).0 (reduced 0 value s.stack).1 s

-- a token where an operand may begin
abbrev pub operand_step : Operand → List Token → ℕ → ℕ → Reader → Reader
operand_step (Value value) tokens from at s = in_mode (mode.Operator (signed (slice_range tokens from at) value)) s
operand_step Sign tokens from at s = in_mode (mode.Operand from) s
operand_step (Word bracket) tokens from at s = in_mode (mode.Parenthesis bracket from at) s
operand_step operand.Parenthesis tokens from at s = opened Plain from at (at + 1) s
operand_step Nothing tokens from at s = in_mode mode.Refused s

-- an operator waits for its right operand
abbrev pub waits : Binary → ValueOrWhy → ℕ → List Entry → Reader → Reader
waits operator left next entries s =
    if length entries == 256 then record { stack = entries; depth = s.depth; mode = mode.Refused }
    else record { stack = Waiting left operator ∷ entries; depth = s.depth; mode = mode.Operand next }

abbrev pub waiting : Binary → ValueOrWhy → ℕ → Reader → Reader
waiting operator value next s = waits operator (reduced (level_of operator) value s.stack).0 next
    (reduced (level_of operator) value s.stack).1 s

abbrev pub is_mark_of : ℕ → TokenKind → Bool
is_mark_of b (Mark c) = c == b
is_mark_of b other = false

abbrev pub operator_or_none : Option Binary → ValueOrWhy → ℕ → Reader → Reader
operator_or_none None value next s = in_mode mode.Refused s
operator_or_none (Some operator) value next s = waiting operator value next s

-- a token after an operand
abbrev pub operator_step : TokenKind → List Token → ℕ → ValueOrWhy → Reader → Reader
operator_step kind tokens at value s = if is_mark_of (code ")") kind then closed tokens value s else operator_or_none (binary_of kind) value
    (at + 1) s

-- the token after lo8 or hi8
abbrev pub bracket_step : TokenKind → Bracket → ℕ → ℕ → ℕ → Reader → Reader
bracket_step kind bracket from at next s = if is_mark_of (code "(") kind then opened bracket from at next s else in_mode mode.Refused s

abbrev pub step_in : Mode → List ℕ → List Token → NameMap → Option ℤ → ℕ → Token → Reader → Reader
step_in (mode.Operand from) text tokens symbols dot at token s = operand_step (operand_of text token symbols dot) tokens from at s
step_in (mode.Parenthesis bracket from word) text tokens symbols dot at token s = bracket_step token.kind bracket from word (at + 1) s
step_in (mode.Operator value) text tokens symbols dot at token s = operator_step token.kind tokens at value s
step_in mode.Refused text tokens symbols dot at token s = s

-- the token at a place
abbrev pub step : List ℕ → List Token → NameMap → Option ℤ → ℕ → Token → Reader → Reader
step text tokens symbols dot at token s = step_in s.mode text tokens symbols dot at token s

-- the tokens from a place on
abbrev pub run : List ℕ → List Token → NameMap → Option ℤ → ℕ → List Token → Reader → Reader
run text tokens symbols dot at [] s = s
run text tokens symbols dot at (t ∷ ts) s = run text tokens symbols dot (at + 1) ts (step text tokens symbols dot at t s)

-- nothing may be left waiting
abbrev pub emptied : ValueOrWhy × List Entry → ValueOrWhy
emptied r = if length r.1 == 0 then r.0 else Err Form

abbrev pub finished_in : Mode → List Entry → ValueOrWhy
finished_in (mode.Operator value) entries = emptied (reduced 0 value entries)
finished_in other entries = Err Form

abbrev pub finished : Reader → ValueOrWhy
finished s = finished_in s.mode s.stack

-- the value of an expression, or why it has none
abbrev pub value_of : List ℕ → List Token → NameMap → Option ℤ → ValueOrWhy
value_of text tokens symbols dot = finished (run text tokens symbols dot 0 tokens beginning)

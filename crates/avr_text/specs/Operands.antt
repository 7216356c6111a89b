-- The operands of a line: what their tokens mean, and which numbers they give an instruction.
use Rattle.std.specs.Prelude.{ℕ, ◌+◌, ◌-◌, ◌*◌, ◌==◌, ◌&&◌, ◌||◌, nat_le, nat_lt, Bool, false, ℤ, pos, negsuc, ◌-ℤ◌, int_le, List, [], ◌∷◌}
use Rattle.std.specs.Prelude.{map, All, Option, Some, None, Ok, Err, if◌then◌else◌}
use Rattle.std.specs.Borrow.{Bor}
use Rattle.std.specs.Int.{int_rem_euclid, int_shr}
use Prim.Native.Char.{code}
use Rattle.avr_text.specs.declared.tokens.Token.{Token}
use Rattle.avr_text.specs.declared.tokens.TokenKind.{TokenKind}
use Rattle.avr_text.specs.declared.tokens.TokenKind.TheVariants.{Name}
use Rattle.avr_text.specs.Names.{NameMap}
use Rattle.avr_text.specs.Reading.{value_of}
use Rattle.avr_text.specs.Arithmetic as text
use Rattle.avr_text.specs.Tokens.{Lies, text_of}
use Rattle.avr_text.specs.declared.errors.AsmWhy.TheVariants.{Operand, Range}
use Rattle.avr_text.specs.declared.operands.Operands as source
use Rattle.avr_text.specs.declared.operands.OperandForm.{OperandForm}
use Rattle.avr_text.specs.declared.operands.OperandForm.TheVariants.{Register, UpperRegister, MiddleRegister, Pair, UpperPair, Byte}
use Rattle.avr_text.specs.declared.operands.OperandForm.TheVariants.{SixBits}
use Rattle.avr_text.specs.declared.operands.OperandForm.TheVariants.{FiveBits, ThreeBits, Word, Relative7, Relative12, Absolute}
use Rattle.avr_text.specs.Faults.{OrFault, least, why_of}

-- each token lies in a line of a length
abbrev pub AllLie : ℕ → List Token → Type 0
AllLie len tokens = All (Lies len) tokens

-- a decimal digit
abbrev pub is_digit : ℕ → Bool
is_digit b = nat_le (code "0") b && nat_le b (code "9")

-- r or R
abbrev pub is_r : ℕ → Bool
is_r b = b == code "r" || b == code "R"

abbrev pub below_32 : ℕ → Option ℕ
below_32 n = if nat_lt n 32 then Some n else None

-- the register that a word names: r0 to r31, in either case
abbrev pub register_of : List ℕ → Option ℕ
register_of (r ∷ ones ∷ []) = if is_r r && is_digit ones then Some (ones - code "0") else None
register_of (r ∷ tens ∷ ones ∷ []) =
    if is_r r && (nat_le (code "1") tens && nat_le tens (code "3")) && is_digit ones then below_32
    ((tens - code "0") * 10 + (ones - code "0")) else None
register_of other = None

-- the name that an operand is, and nothing besides
abbrev pub name_if : TokenKind → List ℕ → Option (List ℕ)
name_if Name word = Some word
name_if other word = None

abbrev pub name_of : List ℕ → List Token → Option (List ℕ)
name_of line (token ∷ []) = name_if token.kind (text_of line token)
name_of line other = None

abbrev pub or_operand : Option ℕ → OrFault ℤ
or_operand None = Err Operand
or_operand (Some n) = Ok (pos n)

abbrev pub register_named : Option (List ℕ) → OrFault ℤ
register_named None = Err Operand
register_named (Some word) = or_operand (register_of word)

-- the number of the register that an operand is: what has to be a register and isn't one is Operand
abbrev pub register : List ℕ → List Token → OrFault ℤ
register line tokens = register_named (name_of line tokens)

-- a value from low to high
abbrev pub within : ℤ → ℤ → OrFault ℤ → OrFault ℤ
within low high (Err why) = Err why
within low high (Ok x) = if int_le low x && int_le x high then Ok x else Err Range

abbrev pub is_zero : ℤ → Bool
is_zero (pos n) = n == 0
is_zero other = false

-- half of a value that is even
abbrev pub half : OrFault ℤ → OrFault ℤ
half (Err why) = Err why
half (Ok x) = if is_zero (int_rem_euclid x (pos 2)) then Ok (int_shr x 1) else Err Range

abbrev pub line_fault : text.ValueOrWhy → OrFault ℤ
line_fault (Ok x) = Ok x
line_fault (Err why) = Err (why_of why)

-- the value of an expression
abbrev pub expression : List ℕ → NameMap → Option ℤ → List Token → OrFault ℤ
expression line symbols dot tokens = line_fault (value_of line tokens symbols dot)

abbrev pub number : ℤ → ℤ → List ℕ → NameMap → List Token → OrFault ℤ
number low high line symbols tokens = within low high (expression line symbols None tokens)

-- the distance of a target from the following instruction
abbrev pub distance : ℤ → ℤ → ℤ → OrFault ℤ → OrFault ℤ
distance low high next (Err why) = Err why
distance low high next (Ok target) = half (within low high (Ok (target -ℤ next)))

-- the target of a jump that is relative: `.` is the byte address of the following instruction
abbrev pub relative : ℤ → ℤ → List ℕ → NameMap → ℕ → List Token → OrFault ℤ
relative low high line symbols next tokens = distance low high (pos next) (expression line symbols (Some (pos next)) tokens)

-- the number that an operand gives an instruction
abbrev pub operand : OperandForm → List ℕ → NameMap → ℕ → List Token → OrFault ℤ
operand Register line symbols next tokens = register line tokens
operand UpperRegister line symbols next tokens = within (pos 16) (pos 31) (register line tokens)
operand MiddleRegister line symbols next tokens = within (pos 16) (pos 23) (register line tokens)
operand Pair line symbols next tokens = half (register line tokens)
operand UpperPair line symbols next tokens = half (within (pos 24) (pos 31) (register line tokens))
operand Byte line symbols next tokens = number (negsuc 127) (pos 255) line symbols tokens
operand SixBits line symbols next tokens = number (pos 0) (pos 63) line symbols tokens
operand FiveBits line symbols next tokens = number (pos 0) (pos 31) line symbols tokens
operand ThreeBits line symbols next tokens = number (pos 0) (pos 7) line symbols tokens
operand Word line symbols next tokens = number (pos 0) (pos 65535) line symbols tokens
operand Relative7 line symbols next tokens = relative (negsuc 127) (pos 126) line symbols next tokens
operand Relative12 line symbols next tokens = relative (negsuc 4095) (pos 4094) line symbols next tokens
operand Absolute line symbols next tokens = half (number (pos 0) (pos 65535) line symbols tokens)

-- two values, or the lesser of two faults
abbrev pub both : {X Y : Type 0} → OrFault X → OrFault Y → OrFault (X × Y)
both (Ok x) (Ok y) = Ok (x, y)
both (Ok x) (Err why) = Err why
both (Err why) (Ok y) = Err why
both (Err why) (Err other) = Err (least why other)

-- The operands of a line, with what they are read by: the line, the values of names, and the byte address of the
-- instruction that follows one of a word.
pub record Operands : Type 0 where
  pub line : List ℕ
  pub symbols : NameMap
  pub next : ℕ
  pub parts : List (List Token)

-- one operand's number
abbrev pub one_value : OperandForm → Operands → List (List Token) → OrFault ℤ
one_value form o (first ∷ []) = operand form o.line o.symbols o.next first
one_value form o other = Err Operand

-- two operands, where there are two
abbrev pub pair_of : List (List Token) → Option (List Token × List Token)
pair_of (first ∷ second ∷ []) = Some (first, second)
pair_of other = None

-- their numbers
abbrev pub two_values : OperandForm → OperandForm → Operands → Option (List Token × List Token) → OrFault (ℤ × ℤ)
two_values form other o None = Err Operand
two_values form other o (Some p) = both (operand form o.line o.symbols o.next p.0) (operand other o.line o.symbols o.next p.1)

-- as the program keeps them
abbrev pub seen : source.Operands → Operands
seen o = record { line = o.line.now; symbols = o.symbols.now; next = o.next; parts = map (λ p. p.now) o.parts.now }

-- each token of each operand lies in the line
abbrev pub EachLies : ℕ → List (Bor (List Token)) → Type 0
EachLies len parts = All (λ p. AllLie len p.now) parts

-- The operators of expressions: how tightly they bind, and what they do.
use Rattle.std.specs.Prelude.{ℕ, ◌==◌, ◌||◌, Bool, false, ℤ, Option, Some, None, Ok, Err, if◌then◌else◌}
use Prim.Native.Char.{code}
use Rattle.avr_text.specs.declared.operators.Binary.{Binary}
use Rattle.avr_text.specs.declared.operators.Binary.TheVariants.{Or, Xor, And, Add, Subtract, Multiply, Divide, Remainder}
use Rattle.avr_text.specs.declared.operators.Binary.TheVariants as binary
use Rattle.avr_text.specs.declared.operators.Bracket.{Bracket}
use Rattle.avr_text.specs.declared.operators.Bracket.TheVariants.{Plain, Low, High}
use Rattle.avr_text.specs.declared.tokens.TokenKind.{TokenKind}
use Rattle.avr_text.specs.declared.tokens.TokenKind.TheVariants.{Mark, ShiftLeft, ShiftRight}
use Rattle.avr_text.specs.Arithmetic.{ValueOrWhy, sum_of, difference_of, product_of, quotient_of, remainder_of, shifted_left, shifted_right}
use Rattle.avr_text.specs.Arithmetic.{or_of, xor_of, and_of, negated_of, complement_of, low_of, high_of}

-- from the loosest: | ^ & then << >> then + - then * / %
abbrev pub level_of : Binary → ℕ
level_of Or = 1
level_of Xor = 2
level_of And = 3
level_of binary.ShiftLeft = 4
level_of binary.ShiftRight = 4
level_of Add = 5
level_of Subtract = 5
level_of Multiply = 6
level_of Divide = 6
level_of Remainder = 6

abbrev pub applied_to : Binary → ℤ → ℤ → ValueOrWhy
applied_to Or x y = Ok (or_of x y)
applied_to Xor x y = Ok (xor_of x y)
applied_to And x y = Ok (and_of x y)
applied_to binary.ShiftLeft x y = shifted_left x y
applied_to binary.ShiftRight x y = shifted_right x y
applied_to Add x y = sum_of x y
applied_to Subtract x y = difference_of x y
applied_to Multiply x y = product_of x y
applied_to Divide x y = quotient_of x y
applied_to Remainder x y = remainder_of x y

-- the left operand's fault goes before the right one's, and both before the operator's own
abbrev pub combined : Binary → ValueOrWhy → ValueOrWhy → ValueOrWhy
combined operator (Err why) right = Err why
combined operator (Ok x) (Err why) = Err why
combined operator (Ok x) (Ok y) = applied_to operator x y

-- the operator that a mark is between operands
abbrev pub binary_mark : ℕ → Option Binary
binary_mark b =
    if b == code "|" then Some Or
    else if b == code "^" then Some Xor
    else if b == code "&" then Some And
    else if b == code "+" then Some Add
    else if b == code "-" then Some Subtract
    else if b == code "*" then Some Multiply
    else if b == code "/" then Some Divide
    else if b == code "%" then Some Remainder
    else None

abbrev pub binary_of : TokenKind → Option Binary
binary_of ShiftLeft = Some binary.ShiftLeft
binary_of ShiftRight = Some binary.ShiftRight
binary_of (Mark b) = binary_mark b
binary_of other = None

-- - and ~ before an operand
abbrev pub is_sign : TokenKind → Bool
is_sign (Mark b) = b == code "-" || b == code "~"
is_sign other = false

abbrev pub sign_value : TokenKind → ℤ → ValueOrWhy
sign_value (Mark b) x = if b == code "-" then negated_of x else if b == code "~" then Ok (complement_of x) else Ok x
sign_value other x = Ok x

abbrev pub sign_applied : TokenKind → ValueOrWhy → ValueOrWhy
sign_applied kind (Err why) = Err why
sign_applied kind (Ok x) = sign_value kind x

-- what parentheses do, and lo8 and hi8 with theirs
abbrev pub bracket_value : Bracket → ℤ → ValueOrWhy
bracket_value Plain x = Ok x
bracket_value Low x = Ok (low_of x)
bracket_value High x = Ok (high_of x)

abbrev pub bracket_applied : Bracket → ValueOrWhy → ValueOrWhy
bracket_applied bracket (Err why) = Err why
bracket_applied bracket (Ok x) = bracket_value bracket x

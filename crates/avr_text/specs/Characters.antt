-- The kinds of bytes of a source text, by their ASCII codes.
use Rattle.std.specs.Prelude.{ℕ, ◌==◌, ◌&&◌, ◌||◌, not, nat_le, Bool}
use Prim.Native.Char.{code}

-- from 0 to 9
abbrev pub is_digit : ℕ → Bool
is_digit b = nat_le (code "0") b && nat_le b (code "9")

-- a letter of either case, or _
abbrev pub begins_name : ℕ → Bool
begins_name b = (nat_le (code "A") b && nat_le b (code "Z")) || ((nat_le (code "a") b && nat_le b (code "z")) || b == code "_")

-- a letter, a digit or _
abbrev pub is_word : ℕ → Bool
is_word b = begins_name b || is_digit b

-- : , = . + - * / % ( ) | ^ & ~
abbrev pub is_mark : ℕ → Bool
is_mark b =
    b == code ":" || (b == code ","
    || (b == code "=" || (b == code "." || (b == code "+" || (b == code "-" || (b == code "*" || (b == code "/"
    || (b == code "%" || (b == code "("
    || (b == code ")" || (b == code "|" || (b == code "^" || (b == code "&" || b == code "~")))))))))))))

-- no line's end, which is LF
abbrev pub goes_on_line : ℕ → Bool
goes_on_line b = not (b == code "\n")

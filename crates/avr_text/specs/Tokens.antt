-- The tokens of a text, and its first fault.
use Rattle.std.specs.Prelude.{◌≡◌, ℕ, zero, suc, ◌+◌, ◌-◌, ◌≤◌, ◌⊎◌, List, [], ◌∷◌, Result, Ok, Err, Vec}
use Rattle.std.specs.declared.alloc.Global.{Global}
use Rattle.std.specs.List.{slice_range}
use Rattle.avr_text.specs.declared.pieces.Piece.{Piece}
use Rattle.avr_text.specs.declared.pieces.Piece.TheVariants.{Gap, Fault}
use Rattle.avr_text.specs.declared.pieces.Piece.TheVariants as piece
use Rattle.avr_text.specs.declared.tokens.TokenKind.{TokenKind}
use Rattle.avr_text.specs.declared.tokens.TokenKind.TheVariants.{LineEnd}
use Rattle.avr_text.specs.declared.tokens.Token.{Token}
use Rattle.avr_text.specs.declared.tokens.LexWhy.TheVariants.{Memory}
use Rattle.avr_text.specs.declared.tokens.LexError.{LexError}
use Rattle.avr_text.specs.Pieces.{piece_at}

-- the tokens of a text, or its first fault
abbrev pub Cut : Type 0
Cut = Result (List Token) LexError

abbrev pub with_first : Token → Cut → Cut
with_first token (Ok tokens) = Ok (token ∷ tokens)
with_first token (Err fault) = Err fault

-- the line after a token
abbrev pub line_after : TokenKind → ℕ → ℕ
line_after LineEnd line = line + 1
line_after other line = line

-- A piece stands at a byte in a line, and the rest after it is cut by a function of the bytes left to skip and the line.
abbrev pub after_piece : Piece → ℕ → ℕ → (ℕ → ℕ → Cut) → Cut
after_piece (Gap n) at line rest = rest (n - 1) line
after_piece (piece.Token kind n) at line rest =
    with_first (record { kind = kind; line = line; from = at; to = at + n }) (rest (n - 1) (line_after kind line))
after_piece (Fault why) at line rest = Err (record { line = line; why = why })

-- The pieces of a text from a byte on, which is in a line. The bytes to skip are those of a piece that began before.
unfoldable pub cut_from : ℕ → ℕ → ℕ → List ℕ → Cut
cut_from skip at line [] = Ok []
cut_from (suc skip) at line (b ∷ bs) = cut_from skip (at + 1) line bs
cut_from zero at line (b ∷ bs) = after_piece (piece_at (b ∷ bs)) at line (λ skip next. cut_from skip (at + 1) next bs)

-- the tokens of a text
unfoldable pub tokens_of : List ℕ → Cut
tokens_of text = cut_from 0 0 1 text

-- what came is the cut, unless memory ran out
abbrev pub GivesTokens : Result (Vec Token Global) LexError → Cut → Type 0
GivesTokens (Ok v) cut = cut ≡ Ok v.items
GivesTokens (Err e) cut = (e.why ≡ Memory) ⊎ (cut ≡ Err e)

-- the token lies in a text of a length
abbrev pub Lies : ℕ → Token → Type 0
Lies len token = (token.from ≤ token.to) × (token.to ≤ len)

-- its text
abbrev pub text_of : List ℕ → Token → List ℕ
text_of text token = slice_range text token.from token.to

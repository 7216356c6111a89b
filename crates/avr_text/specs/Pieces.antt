-- The piece that stands at the front of a text: blanks and comments, a token, or a fault.
use Rattle.std.specs.Prelude.{ℕ, ◌+◌, ◌==◌, ◌&&◌, List, length, drop, take_while, slice_index, pos, Option, Some, None, if◌then◌else◌}
use Prim.Native.Char.{code}
use Rattle.std.specs.List.{prefix_len}
use Rattle.avr_text.specs.declared.pieces.Piece.{Piece}
use Rattle.avr_text.specs.declared.pieces.Piece.TheVariants as piece
use Rattle.avr_text.specs.declared.tokens.TokenKind.TheVariants as token
use Rattle.avr_text.specs.declared.tokens.LexWhy.TheVariants as lex_why
use Rattle.uz_hex.specs.Lines.{is_blank}
use Rattle.avr_text.specs.Characters.{is_digit, is_word, is_mark, goes_on_line}
use Rattle.avr_text.specs.Numbers.{number_of}

-- the byte after the first, and 0 at the end
abbrev pub second : List ℕ → ℕ
second text = slice_index text 1

abbrev pub number_piece : ℕ → Option ℕ → Piece
number_piece len None = piece.Fault lex_why.Number
number_piece len (Some n) = piece.Token (token.Number (pos n)) len

-- a word: a number where a digit begins it, else a name
abbrev pub word_piece : List ℕ → Piece
word_piece word = if is_digit (slice_index word 0) then number_piece (length word) (number_of word) else piece.Token token.Name
    (length word)

-- what no word is: a mark, a shift, blanks, a comment, the line's end. A CR is a blank right before the line's end alone
abbrev pub other_piece : List ℕ → Piece
other_piece text =
    let b = slice_index text 0 in
    if is_blank b then piece.Gap 1
    else if b == code "\n" then piece.Token token.LineEnd 1
    else if is_mark b then piece.Token (token.Mark b) 1
    else if b == code ";" then piece.Gap (1 + prefix_len goes_on_line (drop 1 text))
    else if b == code "\r" && second text == code "\n" then piece.Gap 1
    else if b == code "<" && second text == code "<" then piece.Token token.ShiftLeft 2
    else if b == code ">" && second text == code ">" then piece.Token token.ShiftRight 2
    else piece.Fault lex_why.Byte

-- the piece at the front of a text that has a byte: the longest word, the whole comment
abbrev pub piece_at : List ℕ → Piece
piece_at text =
    if is_word (slice_index text 0) then word_piece (take_while is_word text)
    else other_piece text

-- how many bytes a piece has: a fault is at one
abbrev pub piece_len : Piece → ℕ
piece_len (piece.Gap n) = n
piece_len (piece.Token kind n) = n
piece_len (piece.Fault why) = 1

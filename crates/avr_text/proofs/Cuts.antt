-- One more piece of a text.
use Rattle.std.proofs.Common.{◌≡◌, ℕ, zero, suc, ◌+◌, ◌-◌, ◌<◌, ◌≤◌, List, [], ◌∷◌, ◌++◌, length, drop, refl, sym, ◌∙◌, ap, append_assoc}
use Rattle.std.proofs.Common.{append-nil, drop-cons, drop-drop, arith, Ok, Err}
use Rattle.std.proofs.lemmas.List.{drop_all}
use Rattle.avr_text.specs.declared.pieces.Piece.TheVariants.{Gap, Fault}
use Rattle.avr_text.specs.declared.pieces.Piece.TheVariants as piece
use Rattle.avr_text.specs.declared.tokens.TokenKind.{TokenKind}
use Rattle.avr_text.specs.declared.tokens.TokenKind.TheVariants.{LineEnd, Name, Number, Mark, ShiftLeft, ShiftRight}
use Rattle.avr_text.specs.declared.tokens.Token.{Token}
use Rattle.avr_text.specs.declared.tokens.LexWhy.{LexWhy}
use Rattle.avr_text.specs.Pieces.{piece_at}
use Rattle.avr_text.specs.Tokens.{Cut, with_first, line_after, after_piece, cut_from}

-- tokens in front of what comes
abbrev pub with_front : List Token → Cut → Cut
with_front front (Ok tokens) = Ok (front ++ tokens)
with_front front (Err fault) = Err fault

pub with_front_more : (front : List Token) (t : Token) (c : Cut) → with_front (front ++ t ∷ []) c ≡ with_front front (with_first t c)
with_front_more front t (Err e) = refl
with_front_more front t (Ok ts) = ap (λ xs. Ok xs) (append_assoc front (t ∷ []) ts)

pub with_front_none : (c : Cut) → with_front [] c ≡ c
with_front_none (Err e) = refl
with_front_none (Ok ts) = refl

-- bytes are skipped
skipped : (skip at line : ℕ) (bs : List ℕ) → cut_from skip at line bs ≡ cut_from 0 (at + skip) line (drop skip bs)
unfolding cut_from
skipped zero at line bs = let e : at + 0 ≡ at = omega arith in ap (λ n. cut_from 0 n line bs) (sym e)
skipped (suc skip) at line [] = refl
skipped (suc skip) at line (b ∷ bs) = let e : at + 1 + skip ≡ at + suc skip = omega arith in cc (skipped skip (at + 1) line bs)

-- the piece at a byte of a text, and what comes after it
piece_there : (text : List ℕ) (at line : ℕ) → at < length text → cut_from 0 at line (drop at text) ≡ after_piece (piece_at (drop at text))
    at line (λ skip next. cut_from skip (at + 1) next (drop (suc at) text))
unfolding cut_from
piece_there text at line h = rw (drop-cons text at 0 h) refl

past : (text : List ℕ) (at n line : ℕ) → 0 < n → cut_from (n - 1) (at + 1) line (drop (suc at) text) ≡ cut_from 0 (at + n) line
    (drop (at + n) text)
past text at n line h =
    let e : at + 1 + (n - 1) ≡ at + n = omega arith in
    let d : suc at + (n - 1) ≡ at + n = omega arith in
    skipped (n - 1) (at + 1) line (drop (suc at) text) ∙ ap (λ k. cut_from 0 k line (drop (n - 1) (drop (suc at) text))) e
    ∙ ap (cut_from 0 (at + n) line) (drop-drop (n - 1) (suc at) text ∙ ap (λ k. drop k text) d)

pub cut_gap : (text : List ℕ) (at line n : ℕ) → at < length text → 0 < n → piece_at (drop at text) ≡ Gap n → cut_from 0 at line
    (drop at text) ≡ cut_from 0 (at + n) line (drop (at + n) text)
cut_gap text at line n h some e = cc (piece_there text at line h, past text at n line some)

pub cut_token : (text : List ℕ) (at line : ℕ) (k : TokenKind) (n : ℕ) → at < length text → 0 < n → piece_at (drop at text) ≡ piece.Token k n
    → cut_from 0 at line (drop at text) ≡ with_first (record { kind = k; line = line; from = at; to = at + n })
    (cut_from 0 (at + n) (line_after k line) (drop (at + n) text))
cut_token text at line k n h some e = cc (piece_there text at line h, past text at n (line_after k line) some)

pub cut_fault : (text : List ℕ) (at line : ℕ) (why : LexWhy) → at < length text → piece_at (drop at text) ≡ Fault why → cut_from 0 at line
    (drop at text) ≡ Err (record { line = line; why = why })
cut_fault text at line why h e = cc (piece_there text at line h)

-- no byte is left
pub cut_end : (text : List ℕ) (at line : ℕ) → length text ≤ at → cut_from 0 at line (drop at text) ≡ Ok []
unfolding cut_from
cut_end text at line h = ap (cut_from 0 at line) (drop_all at text h)

pub line_after-≤ : (k : TokenKind) (line : ℕ) → line_after k line ≤ line + 1
line_after-≤ k line = elim k as (λ k. line_after k line ≤ line + 1) [
  | LineEnd ↦ omega arith
  | Name ↦ omega arith
  | Number n ↦ omega arith
  | Mark b ↦ omega arith
  | ShiftLeft ↦ omega arith
  | ShiftRight ↦ omega arith
]

end_front : (front : List Token) (c : Cut) → c ≡ Ok [] → with_front front c ≡ Ok front
end_front front c e = ap (with_front front) e ∙ ap (λ xs. Ok xs) (append-nil front)

pub whole : (front : List Token) (text : List ℕ) (at line : ℕ) → length text ≤ at → with_front front (cut_from 0 at line (drop at text))
    ≡ Ok front
whole front text at line h = end_front front _ (cut_end text at line h)

-- a token is cut off, whatever the tokens and the line after it are called
pub token_more : (text : List ℕ) (at line : ℕ) (k : TokenKind) (n : ℕ) (front more : List Token) (next : ℕ) → at < length text → 0 < n
    → piece_at (drop at text) ≡ piece.Token k n
    → more ≡ front ++ record { kind = k; line = line; from = at; to = at + n } ∷ [] → next ≡ line_after k line
    → with_front more (cut_from 0 (at + n) next (drop (at + n) text)) ≡ with_front front (cut_from 0 at line (drop at text))
token_more text at line k n front more next h some e is_more is_next =
    ap (λ xs. with_front xs (cut_from 0 (at + n) next (drop (at + n) text))) is_more
    ∙ ap (λ l. with_front (front ++ record { kind = k; line = line; from = at; to = at + n } ∷ [])
    (cut_from 0 (at + n) l (drop (at + n) text))) is_next ∙ with_front_more _ _ _
    ∙ ap (with_front front) (sym (cut_token _ _ _ _ _ h some e))

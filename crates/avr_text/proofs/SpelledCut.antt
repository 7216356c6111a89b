-- A text that tokens and gaps spell is cut into these tokens.
use Rattle.std.proofs.Common.{◌≡◌, ℕ, suc, ◌+◌, ◌-◌, ◌<◌, ◌≤◌, Bool, true, false, cond, List, [], ◌∷◌, ◌++◌, length, drop, refl, sym, ◌∙◌}
use Rattle.std.proofs.Common.{ap, subst, append_assoc, length-append, Vec, Global, arith, Result, Ok, Err, ◌==◌}
use Rattle.std.proofs.lemmas.Bool.Decides.{nat_tests}
use Rattle.std.proofs.lemmas.List.{length-drop, length-take}
use Rattle.std.proofs.lemmas.List.Sums.{take_while-cons}
use Rattle.std.proofs.lemmas.List.Folds.{drop_split}
use Rattle.std.specs.List.{prefix_len, take_while, slice_range}
use Rattle.avr_text.specs.declared.pieces.Piece.{Piece}
use Rattle.avr_text.specs.declared.pieces.Piece.TheVariants as piece
use Rattle.avr_text.specs.declared.tokens.TokenKind.{TokenKind}
use Rattle.avr_text.specs.declared.tokens.TokenKind.TheVariants.{Name, Number, Mark, ShiftLeft, ShiftRight, LineEnd}
use Rattle.avr_text.specs.declared.tokens.Token.{Token}
use Rattle.avr_text.specs.declared.tokens.LexError.{LexError}
use Rattle.uz_hex.specs.Lines.{is_blank}
use Rattle.avr_text.specs.Characters.{is_word, is_mark, goes_on_line}
use Rattle.avr_text.specs.Numbers.{number_of}
use Rattle.avr_text.specs.Pieces.{number_piece, word_piece, piece_at}
use Rattle.avr_text.specs.Tokens.{Cut, with_first, line_after, cut_from, tokens_of, text_of, GivesTokens}
use Rattle.avr_text.specs.Spans.{Each, Stops, IsGap, gap_none, gap_blank, gap_return, gap_comment, IsWord, IsSpelling, line_of, SpelledTo}
use Rattle.avr_text.specs.Spans.{IsSpelled}
use Rattle.avr_text.proofs.Cuts.{with_front, with_front_none, cut_gap, cut_token, whole}
use Rattle.avr_text.proofs.PiecesFound.{ends, ends_append, quiet_byte, quiet, word_is_quiet, line_is_quiet, blank_is_quiet, same_line}
use Rattle.avr_text.proofs.SpansFound.{past_bytes, line_past}

while_exact : (test : ℕ → Bool) (front after : List ℕ) → Each test front → Stops test after → take_while test (front ++ after) ≡ front
while_exact test [] [] h s = refl
while_exact test [] (c ∷ cs) h s = take_while-cons test c cs ∙ ap (λ t. cond t (c ∷ take_while test cs) []) s
while_exact test (b ∷ bs) after h s = cc (take_while-cons test b (bs ++ after), h.0, while_exact test bs after h.1 s)

prefix_exact : (test : ℕ → Bool) (front after : List ℕ) → Each test front → Stops test after → prefix_len test (front ++ after) ≡ length
    front
prefix_exact test [] [] h s = refl
prefix_exact test [] (c ∷ cs) h s = ap (λ t. cond t (1 + prefix_len test cs) 0) s
prefix_exact test (b ∷ bs) after h s = grind (arith, nat_tests, prefix_exact test bs after h.1 s)

-- the pieces of a gap
blank_piece : (b : ℕ) (us : List ℕ) → is_blank b ≡ true → piece_at (b ∷ us) ≡ piece.Gap 1
blank_piece b us h = grind (arith, nat_tests)

return_piece : (us rest : List ℕ) → us ≡ 10 ∷ rest → piece_at (13 ∷ us) ≡ piece.Gap 1
return_piece us rest e = subst (λ vs. piece_at (13 ∷ vs) ≡ piece.Gap 1) (sym e) refl

comment_piece : (us : List ℕ) → piece_at (59 ∷ us) ≡ piece.Gap (1 + prefix_len goes_on_line us)
comment_piece us = refl

-- the pieces of tokens
pub word_first : (word after : List ℕ) (p : Piece) → IsWord word after → word_piece word ≡ p → piece_at (word ++ after) ≡ p
word_first [] after p w e = absurd (let some : 0 < 0 = w.some in omega arith)
word_first (b ∷ bs) after p w e = grind (arith, nat_tests, while_exact is_word (b ∷ bs) after w.letters w.longest)

mark_not_word : (b : ℕ) → is_mark b ≡ true → is_word b ≡ false
mark_not_word b h = grind (arith, nat_tests)

mark_not_blank : (b : ℕ) → is_mark b ≡ true → is_blank b ≡ false
mark_not_blank b h = grind (arith, nat_tests)

mark_not_end : (b : ℕ) → is_mark b ≡ true → (b == 10) ≡ false
mark_not_end b h = grind (arith, nat_tests)

mark_piece : (b : ℕ) (us : List ℕ) → is_mark b ≡ true → piece_at (b ∷ us) ≡ piece.Token (Mark b) 1
mark_piece b us h = grind (arith, nat_tests, mark_not_word b h, mark_not_blank b h, mark_not_end b h)

piece_of : (kind : TokenKind) (word after : List ℕ) → IsSpelling kind word after → piece_at (word ++ after) ≡ piece.Token kind (length word)
piece_of Name word after h = word_first word after (piece.Token Name (length word)) h.0
    (ap (λ d. cond d (number_piece (length word) (number_of word)) (piece.Token Name (length word))) h.1)
piece_of (Number n) word after h = grind (arith, nat_tests, word_first word after (piece.Token (Number n) (length word)) h.0)
piece_of (Mark b) word after h = subst (λ w. piece_at (w ++ after) ≡ piece.Token (Mark b) (length w)) (sym h.1) (mark_piece b after h.0)
piece_of ShiftLeft word after h = subst (λ w. piece_at (w ++ after) ≡ piece.Token ShiftLeft (length w)) (sym h) refl
piece_of ShiftRight word after h = subst (λ w. piece_at (w ++ after) ≡ piece.Token ShiftRight (length w)) (sym h) refl
piece_of LineEnd word after h = subst (λ w. piece_at (w ++ after) ≡ piece.Token LineEnd (length w)) (sym h) refl

spelled_line : (kind : TokenKind) (word after : List ℕ) (line : ℕ) → IsSpelling kind word after → line_after kind line ≡ line + ends word
spelled_line (Mark b) word after line h = same_line line (ends word) (ap ends h.1 ∙ quiet_byte b [] (mark_not_end b h.0) refl)
spelled_line ShiftLeft word after line h = same_line _ _ (ap ends h ∙ quiet_byte 60 (60 ∷ []) refl (quiet_byte 60 [] refl refl))
spelled_line ShiftRight word after line h = same_line _ _ (ap ends h ∙ quiet_byte 62 (62 ∷ []) refl (quiet_byte 62 [] refl refl))
spelled_line LineEnd word after line h = let one : ends word ≡ 1 = ap ends h in omega arith
spelled_line other word after line h = same_line line (ends word) (quiet is_word word_is_quiet word h.0.letters)

gap_quiet : (gap after : List ℕ) → IsGap gap after → ends gap ≡ 0
gap_quiet _ after gap_none = refl
gap_quiet _ after (gap_blank {b = b} {gap = gap} h g) = quiet_byte b gap (blank_is_quiet b h) (gap_quiet gap after g)
gap_quiet _ after (gap_return {gap = gap} rest e g) = quiet_byte 13 gap refl (gap_quiet gap after g)
gap_quiet _ after (gap_comment {gap = gap} comment h s g) =
    quiet_byte 59 (comment ++ gap) refl (let a = quiet goes_on_line line_is_quiet comment h in let b = gap_quiet gap after g in
    let c = ends_append comment gap in let e : ends (comment ++ gap) ≡ 0 = omega arith in e)

first_front : (t : Token) (ts : List Token) (c : Cut) → with_first t (with_front ts c) ≡ with_front (t ∷ ts) c
first_front t ts (Ok more) = refl
first_front t ts (Err fault) = refl

module _ (text : List ℕ) where
  piece_gone : (at line : ℕ) (word after : List ℕ) → drop at text ≡ word ++ after → 0 < length word → piece_at (word ++ after) ≡ piece.Gap
      (length word) → cut_from 0 at line (drop at text) ≡ cut_from 0 (at + length word) line (drop (at + length word) text)
  piece_gone at line word after e some p = cut_gap text at line (length word) (there at word after e some) some (ap piece_at e ∙ p)
    where
      there : (at : ℕ) (word after : List ℕ) → drop at text ≡ word ++ after → 0 < length word → at < length text
      there at [] after e some = absurd (omega arith)
      there at (b ∷ bs) after e some = let n = length-drop at text in let m : length (drop at text) ≡ suc (length (bs ++ after)) =
          ap length e in omega arith

  gap_gone : (at line : ℕ) (gap after : List ℕ) → IsGap gap after → drop at text ≡ gap ++ after → cut_from 0 at line
      (drop at text) ≡ cut_from 0 (at + length gap) line (drop (at + length gap) text)
  gap_gone at line _ after gap_none e = let n : at ≡ at + 0 = omega arith in ap (λ m. cut_from 0 m line (drop m text)) n
  gap_gone at line _ after (gap_blank {b = b} {gap = gap} h g) e =
      let n : at + 1 + length gap ≡ at + suc (length gap) = omega arith in
      piece_gone at line (b ∷ []) (gap ++ after) e (omega arith) (blank_piece b (gap ++ after) h)
      ∙ gap_gone (at + 1) line gap after g (past_bytes text at (b ∷ []) (gap ++ after) e)
      ∙ ap (λ m. cut_from 0 m line (drop m text)) n
  gap_gone at line _ after (gap_return {gap = gap} rest r g) e =
      let n : at + 1 + length gap ≡ at + suc (length gap) = omega arith in
      piece_gone at line (13 ∷ []) (gap ++ after) e (omega arith) (return_piece (gap ++ after) rest r)
      ∙ gap_gone (at + 1) line gap after g (past_bytes text at (13 ∷ []) (gap ++ after) e)
      ∙ ap (λ m. cut_from 0 m line (drop m text)) n
  gap_gone at line _ after (gap_comment {gap = gap} comment h s g) e =
      let joins : (59 ∷ (comment ++ gap)) ++ after ≡ (59 ∷ comment) ++ (gap ++ after) = ap (λ us. 59 ∷ us)
      (append_assoc comment gap after) in
      let k : 1 + prefix_len goes_on_line (comment ++ (gap ++ after)) ≡ length (59 ∷ comment) =
      (let x = prefix_exact goes_on_line comment (gap ++ after) h s in omega arith) in
      let n : at + length (59 ∷ comment) + length gap ≡ at + length (59 ∷ (comment ++ gap)) = (let x = length-append comment gap in
      omega arith) in
      piece_gone at line (59 ∷ comment) (gap ++ after) (e ∙ joins) (omega arith) (comment_piece (comment ++ (gap ++ after))
      ∙ ap (λ m. piece.Gap m) k)
      ∙ gap_gone (at + length (59 ∷ comment)) line gap after g (past_bytes text at (59 ∷ comment) (gap ++ after) (e ∙ joins))
      ∙ ap (λ m. cut_from 0 m line (drop m text)) n

  slice_ends : (at end : ℕ) → at ≤ end → end ≤ length text → at + length (slice_range text at end) ≡ end
  slice_ends at end le within = omega (arith, length-take (end - at) (drop at text), length-drop at text)

  gap_crossed : (at end line : ℕ) → at ≤ end → end ≤ length text → IsGap (slice_range text at end) (drop end text) → line ≡ line_of text at
      → (cut_from 0 at line (drop at text) ≡ cut_from 0 end line (drop end text)) × (line ≡ line_of text end)
  gap_crossed at end line le within g is =
      let parts = drop_split text at end le in
      let n = slice_ends _ _ le within in
      let q = gap_quiet _ _ g in (
        gap_gone _ _ _ _ g parts ∙ ap (λ m. cut_from 0 m line (drop m text)) n,
        is ∙ same_line _ _ q ∙ sym (line_past text at (slice_range text at end) (drop end text) parts) ∙ ap (line_of text) n,
      )

  -- tokens and gaps up to an end are cut off, and the rest is cut from there
  pub spelled_to : (end : ℕ) → end ≤ length text → (ts : List Token) (at line : ℕ) → line ≡ line_of text at → SpelledTo text end at ts
      → cut_from 0 at line (drop at text) ≡ with_front ts (cut_from 0 end (line_of text end) (drop end text))
  spelled_to end fits [] at line is h =
      let crossed = gap_crossed at end line h.0 fits h.1 is in
      crossed.0 ∙ ap (λ l. cut_from 0 end l (drop end text)) crossed.1
      ∙ sym (with_front_none (cut_from 0 end (line_of text end) (drop end text)))
  spelled_to end fits (t ∷ ts) at line is h =
      let next = h.0 in
      let some = next.some in
      let within = next.within in
      let crossed = gap_crossed at t.from line next.order (omega arith) next.gap is in
      let n : t.from + (t.to - t.from) ≡ t.to = omega arith in
      let len : length (text_of text t) ≡ t.to - t.from = (let x = slice_ends t.from t.to (omega arith) within in omega arith) in
      let parts : drop t.from text ≡ text_of text t ++ drop t.to text = drop_split text t.from t.to (omega arith) in
      let front : piece_at (drop t.from text) ≡ piece.Token t.kind (t.to - t.from) = ap piece_at parts ∙ piece_of t.kind (text_of text t)
      (drop t.to text) next.spelled ∙ ap (λ k. piece.Token t.kind k) len in
      let line_is : line ≡ t.line = crossed.1 ∙ sym next.line in
      let past : line_after t.kind line ≡ line_of text t.to =
      spelled_line t.kind (text_of text t) (drop t.to text) line next.spelled ∙ ap (λ l. l + ends (text_of text t)) crossed.1
      ∙ sym (line_past text t.from (text_of text t) (drop t.to text) parts) ∙ ap (line_of text) (ap (λ k. t.from + k) len ∙ n) in
      let rest = cut_from 0 end (line_of text end) (drop end text) in
      crossed.0
      ∙ cut_token text t.from line t.kind (t.to - t.from) (omega arith) (omega arith) front
      ∙ ap (λ m. with_first (record { kind = t.kind; line = line; from = t.from; to = m })
      (cut_from 0 m (line_after t.kind line) (drop m text))) n
      ∙ ap (with_first (record { kind = t.kind; line = line; from = t.from; to = t.to }))
      (spelled_to end fits ts t.to (line_after t.kind line) past h.1)
      ∙ ap (λ l. with_first (record { kind = t.kind; line = l; from = t.from; to = t.to }) (with_front ts rest)) line_is
      ∙ first_front t ts rest

  pub all_cut : (ts : List Token) → IsSpelled text ts → tokens_of text ≡ Ok ts
  unfolding tokens_of
  all_cut ts h = spelled_to _ (omega arith) _ _ _ refl h ∙ whole _ _ _ _ (omega arith)

-- no other tokens are given
pub given_only : (text : List ℕ) (r : Result (Vec Token Global) LexError) → GivesTokens r (tokens_of text) → (ts : List Token)
    → IsSpelled text ts → GivesTokens r (Ok ts)
given_only text r g ts h = subst (GivesTokens r) (all_cut text ts h) g

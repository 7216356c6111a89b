-- The tokens that a text is cut into are its slices, with gaps between them, and so is all that stands before a fault.
use Rattle.std.proofs.Common.{◌≡◌, inl, inr, ℕ, zero, suc, ◌+◌, ◌-◌, ◌<◌, ◌≤◌, List, [], ◌∷◌, ◌++◌, length, take, drop, refl, sym, ◌∙◌, ap}
use Rattle.std.proofs.Common.{subst, drop-drop, length-append, Vec, Global, arith, Result, Ok, Err, IfOk, IfErr}
use Rattle.std.proofs.Math.Seq.{drop-append_seam, take-append_seam, take-append-add, take-add}
use Rattle.std.proofs.lemmas.Bool.{cases_lt}
use Rattle.std.proofs.lemmas.List.{length-drop}
use Rattle.std.proofs.lemmas.List.Folds.{drop_split}
use Rattle.std.specs.List.{slice_range}
use Rattle.avr_text.specs.declared.pieces.Piece.{Piece}
use Rattle.avr_text.specs.declared.pieces.Piece.TheVariants as piece
use Rattle.avr_text.specs.declared.tokens.TokenKind.{TokenKind}
use Rattle.avr_text.specs.declared.tokens.Token.{Token}
use Rattle.avr_text.specs.declared.tokens.LexError.{LexError}
use Rattle.avr_text.specs.declared.tokens.LexWhy.{LexWhy}
use Rattle.avr_text.specs.declared.tokens.LexWhy.TheVariants.{Memory}
use Rattle.avr_text.specs.Pieces.{piece_at}
use Rattle.avr_text.specs.Tokens.{Cut, with_first, line_after, cut_from, tokens_of, GivesTokens}
use Rattle.avr_text.specs.Spans.{IsGap, gap_none, IsSpelling, line_of, IsNext, SpelledTo, IsSpelled, HasFault, IsFaultOf}
use Rattle.avr_text.proofs.Cuts.{cut_gap, cut_token, cut_fault, cut_end}
use Rattle.avr_text.proofs.PiecesFound.{ends, ends_append, PieceSays, piece_says}
use Rattle.std.proofs.lemmas.Bool.Decides.{nat_tests}

module _ (text : List ℕ) where
  pub past_bytes : (at : ℕ) (word after : List ℕ) → drop at text ≡ word ++ after → drop (at + length word) text ≡ after
  past_bytes at word after e = sym (drop-drop (length word) at text) ∙ ap (drop (length word)) e ∙ drop-append_seam word after

  word_there : (at : ℕ) (word after : List ℕ) → drop at text ≡ word ++ after → take (length word) (drop at text) ≡ word
  word_there at word after e = ap (take (length word)) e ∙ take-append_seam word after

  word_slice : (at : ℕ) (word after : List ℕ) → drop at text ≡ word ++ after → slice_range text at (at + length word) ≡ word
  word_slice at word after e = let n : at + length word - at ≡ length word = omega arith in cc (word_there at word after e)

  word_within : (at : ℕ) (word after : List ℕ) → drop at text ≡ word ++ after → 0 < length word → at + length word ≤ length text
  word_within at word after e some =
      let n = length-drop at text in
      let m : length (drop at text) ≡ length word + length after = ap length e ∙ length-append word after in
      omega arith

  pub line_past : (at : ℕ) (word after : List ℕ) → drop at text ≡ word ++ after → line_of text (at + length word) ≡ line_of text at + ends
      word
  line_past at word after e =
      let n : ends (take (at + length word) text) ≡ ends (take at text) + ends word =
      ap ends (take-add at (length word) text ∙ ap (λ w. take at text ++ w) (word_there at word after e)) ∙ ends_append (take at text)
      word in
      omega (arith, n)

  none_between : (at : ℕ) → slice_range text at at ≡ []
  none_between at = let e : at - at ≡ 0 = omega arith in ap (λ n. take n (drop at text)) e

  gap_before : (at end : ℕ) (word after : List ℕ) → drop at text ≡ word ++ after → at + length word ≤ end
      → ((gap rest : List ℕ) → gap ++ rest ≡ after → IsGap gap rest → IsGap (word ++ gap) rest)
      → IsGap (slice_range text (at + length word) end) (drop end text) → IsGap (slice_range text at end) (drop end text)
  gap_before at end word after e le more g = grind (arith, nat_tests, drop_split, past_bytes at word after e, take-append-add word after)

  gap_then : (end at : ℕ) (word after : List ℕ) → drop at text ≡ word ++ after → ((gap rest : List ℕ) → gap ++ rest ≡ after → IsGap gap rest
      → IsGap (word ++ gap) rest)
      → (ts : List Token) → SpelledTo text end (at + length word) ts → SpelledTo text end at ts
  gap_then end at word after e more [] h = let le = h.0 in (omega arith, gap_before at end word after e h.0 more h.1)
  gap_then end at word after e more (t ∷ ts) h =
      let le = h.0.order in (
        record {
          order = omega arith;
          some = h.0.some;
          within = h.0.within;
          gap = gap_before at t.from word after e h.0.order more h.0.gap;
          spelled = h.0.spelled;
          line = h.0.line;
        },
        h.1,
      )

  -- what a cut from a place on says
  abbrev pub CutSays : ℕ → Cut → Type 0
  CutSays at (Ok ts) = SpelledTo text (length text) at ts
  CutSays at (Err e) = HasFault text at e

  gap_cut : (at : ℕ) (word after : List ℕ) → drop at text ≡ word ++ after → ((gap rest : List ℕ) → gap ++ rest ≡ after → IsGap gap rest
      → IsGap (word ++ gap) rest)
      → (c : Cut) → CutSays (at + length word) c → CutSays at c
  gap_cut at word after e more (Ok ts) h = gap_then (length text) at word after e more ts h
  gap_cut at word after e more (Err fault) h =
      record {
        place = h.place;
        tokens = h.tokens;
        within = h.within;
        before = gap_then h.place at word after e more h.tokens h.before;
        line = h.line;
        why = h.why;
      }

  next_token : (at line : ℕ) (kind : TokenKind) (word after : List ℕ) → drop at text ≡ word ++ after → 0 < length word → IsSpelling kind
      word after → line ≡ line_of text at
      → IsNext text at (record { kind = kind; line = line; from = at; to = at + length word })
  next_token at line kind word after e some spelled is = record {
    order = omega arith;
    some = omega arith;
    within = word_within at word after e some;
    gap = subst (λ g. IsGap g (drop at text)) (sym (none_between at)) gap_none;
    spelled = subst (λ w. IsSpelling kind w (drop (at + length word) text)) (sym (word_slice at word after e))
        (subst (IsSpelling kind word) (sym (past_bytes at word after e)) spelled);
    line = is;
  }

  token_cut : (at line : ℕ) (kind : TokenKind) (word after : List ℕ) → drop at text ≡ word ++ after → 0 < length word → IsSpelling kind word
      after → line ≡ line_of text at
      → (c : Cut) → CutSays (at + length word) c
      → CutSays at (with_first (record { kind = kind; line = line; from = at; to = at + length word }) c)
  token_cut at line kind word after e some spelled is (Ok ts) h = (next_token at line kind word after e some spelled is, h)
  token_cut at line kind word after e some spelled is (Err fault) h = record {
    place = h.place;
    tokens = record { kind = kind; line = line; from = at; to = at + length word } ∷ h.tokens;
    within = h.within;
    before = (next_token at line kind word after e some spelled is, h.before);
    line = h.line;
    why = h.why;
  }

  ended : (at line : ℕ) → length text ≤ at → at ≤ length text → CutSays at (cut_from 0 at line (drop at text))
  ended at line h le =
      let n : length text - at ≡ 0 = omega arith in
      subst (CutSays at) (sym (cut_end _ _ _ h)) (
        le,
        subst (λ g. IsGap g (drop (length text) text)) (sym (ap (λ k. take k (drop at text)) n)) gap_none,
      )

  -- what comes after the piece at a place
  abbrev Later : ℕ → Type 0
  Later at = (m line : ℕ) → at < m → m ≤ length text → line ≡ line_of text m → CutSays m (cut_from 0 m line (drop m text))

  piece_cut : (at line : ℕ) (p : Piece) → at < length text → line ≡ line_of text at → Later at → piece_at (drop at text) ≡ p
      → PieceSays p (drop at text) → CutSays at (cut_from 0 at line (drop at text))
  piece_cut at line (piece.Gap n) h is later e says =
      let some : 0 < length says.word = omega (arith, says.some, says.len) in
      let place : at + length says.word ≡ at + n = ap (λ k. at + k) says.len in
      let past : line ≡ line_of text (at + length says.word) = is ∙ sym (line_past _ _ _ says.parts
      ∙ (let q = says.quiet in omega arith)) in
      subst (CutSays at) (ap (λ m. cut_from 0 m line (drop m text)) place ∙ sym (cut_gap _ _ _ _ h says.some e))
      (gap_cut _ _ _ says.parts says.more _ (later (at + length says.word) line (omega arith) (word_within _ _ _ says.parts some) past))
  piece_cut at line (piece.Token kind n) h is later e says =
      let some : 0 < length says.word = omega (arith, says.some, says.len) in
      let place : at + length says.word ≡ at + n = ap (λ k. at + k) says.len in
      let past : line_after kind line ≡ line_of text (at + length says.word) = says.line line ∙ ap (λ l. l + ends says.word) is
      ∙ sym (line_past _ _ _ says.parts) in
      subst (CutSays at) (ap (λ m. with_first (record { kind = kind; line = line; from = at; to = m })
      (cut_from 0 m (line_after kind line) (drop m text))) place ∙ sym (cut_token _ _ _ _ _ h says.some e))
      (token_cut _ _ _ _ _ says.parts some says.spelled is _
      (later (at + length says.word) (line_after kind line) (omega arith) (word_within _ _ _ says.parts some) past))
  piece_cut at line (piece.Fault why) h is later e says =
      subst (CutSays at) (sym (cut_fault text at line why h e)) (record {
        place = at;
        tokens = [];
        within = h;
        before = (omega arith, subst (λ g. IsGap g (drop at text)) (sym (none_between at)) gap_none);
        line = is;
        why = says;
      })

  pub says_there : (at : ℕ) (bs : List ℕ) → drop at text ≡ bs → at < length text → PieceSays (piece_at (drop at text)) (drop at text)
  says_there at [] e h = absurd (let n = length-drop at text in let m : length (drop at text) ≡ 0 = ap length e in omega arith)
  says_there at (b ∷ us) e h = subst (λ bs. PieceSays (piece_at bs) bs) (sym e) (piece_says b us)

  spans : (fuel at line : ℕ) → at ≤ length text → length text ≤ at + fuel → line ≡ line_of text at
      → CutSays at (cut_from 0 at line (drop at text))
  spans zero at line le h is = ended at line (omega arith) le
  spans (suc fuel) at line le h is = elim (cases_lt at (length text)) [
    | inl lt ↦ piece_cut _ _ _ lt is (λ m l a b c. spans fuel m l b (omega arith) c) refl (says_there _ _ refl lt)
    | inr ge ↦ ended _ _ ge le
  ]

  pub cut_says : CutSays 0 (tokens_of text)
  unfolding tokens_of
  cut_says = spans (length text) 0 1 (omega arith) (omega arith) refl

-- what comes of a cut
pub given_spelled : (text : List ℕ) (r : Result (Vec Token Global) LexError) → GivesTokens r (tokens_of text)
    → IfOk r (λ v. IsSpelled text v.items)
given_spelled text (Ok v) e = subst (CutSays text 0) e (cut_says text)
given_spelled text (Err fault) g = tt

pub given_fault : (text : List ℕ) (r : Result (Vec Token Global) LexError) → IfErr r (λ e. e.why ≡ Memory → e.line ≡ 0) → GivesTokens r
    (tokens_of text) → IfErr r (IsFaultOf text)
given_fault text (Ok v) m e = tt
given_fault text (Err fault) m (inl e) = inl (e, m e)
given_fault text (Err fault) m (inr e) = inr (subst (CutSays text 0) e (cut_says text))

-- no piece is a fault for want of memory
pub not_memory : (text : List ℕ) (at : ℕ) (why : LexWhy) → at < length text → piece_at (drop at text) ≡ piece.Fault why → ¬ (why ≡ Memory)
not_memory text at why h e m = subst (λ p. PieceSays p (drop at text)) (e ∙ ap (λ w. piece.Fault w) m)
    (says_there text at (drop at text) refl h)

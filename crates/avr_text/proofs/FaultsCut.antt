-- A text with a fault is refused with that fault, and what a cut gives is what the text spells.
use Rattle.std.proofs.Common.{◌≡◌, ℕ, ◌<◌, true, cond, List, [], ◌∷◌, ◌++◌, length, drop, refl, sym, ◌∙◌, ap, subst, append-nil, Vec}
use Rattle.std.proofs.Common.{Global, arith, ◌↔◌, Result, Ok, Err}
use Rattle.std.proofs.lemmas.List.{length-drop}
use Rattle.avr_text.specs.declared.pieces.Piece.{Piece}
use Rattle.avr_text.specs.declared.pieces.Piece.TheVariants as piece
use Rattle.avr_text.specs.declared.tokens.TokenKind.TheVariants.{Name}
use Rattle.avr_text.specs.declared.tokens.Token.{Token}
use Rattle.avr_text.specs.declared.tokens.LexError.{LexError}
use Rattle.avr_text.specs.declared.tokens.LexWhy.{LexWhy}
use Rattle.avr_text.specs.declared.tokens.LexWhy.TheVariants as lex_why
use Rattle.avr_text.specs.Characters.{is_word}
use Rattle.avr_text.specs.Numbers.{number_of}
use Rattle.avr_text.specs.Pieces.{number_piece, piece_at}
use Rattle.avr_text.specs.Tokens.{tokens_of, GivesTokens}
use Rattle.avr_text.specs.Spans.{Stops, IsGap, gap_none, IsWord, IsSpelled, NothingBegins, FaultAt, HasFault}
use Rattle.avr_text.proofs.Cuts.{with_front, cut_fault}
use Rattle.avr_text.proofs.PiecesFound.{PieceSays, piece_says}
use Rattle.avr_text.proofs.SpansFound.{CutSays, cut_says}
use Rattle.avr_text.proofs.SpelledCut.{word_first, spelled_to, all_cut}

-- a word stands where none begins
no_word : (word after : List ℕ) → IsWord word after → Stops is_word (word ++ after) → ⊥
no_word [] after w stops = let some : 0 < 0 = w.some in omega arith
no_word (b ∷ bs) after w stops = let letter : is_word b ≡ true = w.letters.0 in cc

-- where nothing begins, the piece is a fault of its byte
nothing : (bytes : List ℕ) (p : Piece) → Stops is_word bytes → NothingBegins bytes → PieceSays p bytes → p ≡ piece.Fault lex_why.Byte
nothing bytes (piece.Gap n) stops none says =
    let gap = subst (λ w. IsGap w says.after) (append-nil says.word) (says.more [] says.after refl gap_none) in
    let empty : length says.word ≡ 0 = ap length (none.no_gap says.word says.after says.parts gap) in
    absurd (omega (arith, empty, says.len, says.some))
nothing bytes (piece.Token kind n) stops none says = absurd (none.no_token kind says.word says.after says.parts says.spelled)
nothing bytes (piece.Fault lex_why.Byte) stops none says = refl
nothing bytes (piece.Fault lex_why.Number) stops none says = absurd (no_word says.0 says.1 says.3 (subst (Stops is_word) says.2 stops))
nothing bytes (piece.Fault lex_why.Memory) stops none says = absurd says

fault_piece : (bytes : List ℕ) (why : LexWhy) → 0 < length bytes → FaultAt why bytes → piece_at bytes ≡ piece.Fault why
fault_piece [] why some fault = absurd (omega arith)
fault_piece (b ∷ us) lex_why.Byte some fault = nothing (b ∷ us) (piece_at (b ∷ us)) fault.0 fault.1 (piece_says b us)
fault_piece (b ∷ us) lex_why.Number some fault =
    let word = fault.0 in
    let after = fault.1 in
    ap piece_at fault.2 ∙ word_first _ _ _ fault.3
    (ap (λ d. cond d (number_piece (length word) (number_of word)) (piece.Token Name (length word))) fault.4
    ∙ ap (number_piece (length word)) fault.5)
fault_piece (b ∷ us) lex_why.Memory some fault = absurd fault

module _ (text : List ℕ) where
  fault_cut : (fault : LexError) → HasFault text 0 fault → tokens_of text ≡ Err fault
  unfolding tokens_of
  fault_cut fault h =
      let some : 0 < length (drop h.place text) = omega (arith, length-drop h.place text, h.within) in
      spelled_to _ _ (omega (arith, h.within)) _ _ _ refl h.before ∙ ap (with_front h.tokens) (cut_fault _ _ _ _ h.within
      (fault_piece _ _ some h.why)) ∙ ap (λ l. Err (record { line = l; why = fault.why })) (sym h.line)

  -- what the cut gives
  pub cut_spelled : (tokens : List Token) → (tokens_of text ≡ Ok tokens) ↔ IsSpelled text tokens
  cut_spelled tokens = (λ e. subst (CutSays text 0) e (cut_says text), all_cut text tokens)

  pub cut_faulty : (fault : LexError) → (tokens_of text ≡ Err fault) ↔ HasFault text 0 fault
  cut_faulty fault = (λ e. subst (CutSays text 0) e (cut_says text), fault_cut fault)

-- no other fault is given
pub given_faulty : (text : List ℕ) (r : Result (Vec Token Global) LexError) → GivesTokens r (tokens_of text) → (fault : LexError)
    → HasFault text 0 fault → GivesTokens r (Err fault)
given_faulty text r g fault h = subst (GivesTokens r) (fault_cut text fault h) g

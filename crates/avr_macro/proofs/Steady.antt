-- Lines that are of the same directive in each call.
use Rattle.std.proofs.Common.{◌≡◌, ℕ, Bool, true, false, cond, List, [], ◌∷◌, ◌++◌, refl, ◌∙◌, ap, arith, ◌==◌, not}
use Rattle.std.proofs.lemmas.Bool.Decides.{nat_tests}
use Rattle.uz_hex.specs.Lines.{is_blank}
use Rattle.avr_text.specs.Characters.{is_word}
use Rattle.avr_macro.specs.declared.directives.Word.TheVariants.{Other}
use Rattle.avr_macro.specs.Arguments.{replaced, replaced_from}
use Rattle.avr_macro.specs.AtSigns.{KeepsDirectives, are_steady, is_steady, is_steady_front, lacks_at}
use Rattle.avr_macro.specs.Directives.{directive_of, dot_word, named_word}
use Rattle.avr_macro.specs.Lines.{after_blanks, after_word, word_of}

module _ (arguments : List (List ℕ)) (call : ℕ) where
  abbrev filled_in : List ℕ → List ℕ
  filled_in line = replaced_from arguments call false line

  -- a byte that is no `@` stays
  byte_stays : (b : ℕ) (bs : List ℕ) → (b == 64) ≡ false → filled_in (b ∷ bs) ≡ b ∷ filled_in bs
  byte_stays b bs e = ap (λ t. cond t [] (b ∷ []) ++ replaced_from arguments call t bs) e

  not_at : (t : Bool) → not t ≡ true → t ≡ false
  not_at true e = absurd cc
  not_at false e = refl

  no_at : (P : ℕ → Bool) → P 64 ≡ false → (b : ℕ) → P b ≡ true → (b == 64) ≡ false
  no_at P none b e = grind (arith, nat_tests)

  -- blanks at the front stay
  blanks_stay : (line : List ℕ) → lacks_at (after_blanks line) ≡ true → after_blanks (filled_in line) ≡ filled_in (after_blanks line)
  blanks_stay [] e = refl
  blanks_stay (b ∷ bs) e = by_test (is_blank b) refl e (blanks_stay bs)
    where
      by_test : (t : Bool) → is_blank b ≡ t → lacks_at (cond t (after_blanks bs) (b ∷ bs)) ≡ true
          → (lacks_at (after_blanks bs) ≡ true → after_blanks (filled_in bs) ≡ filled_in (after_blanks bs))
          → after_blanks (filled_in (b ∷ bs)) ≡ filled_in (cond t (after_blanks bs) (b ∷ bs))
      by_test true f e rest = cc (byte_stays b bs (no_at is_blank refl b f), rest e)
      by_test false f e rest = cc (byte_stays b bs (not_at (b == 64) e))

  -- a word at the front stays
  word_stays : (line : List ℕ) → lacks_at (after_word line) ≡ true → word_of (filled_in line) ≡ word_of line
  word_stays [] e = refl
  word_stays (b ∷ bs) e = by_test (is_word b) refl e (word_stays bs)
    where
      by_test : (t : Bool) → is_word b ≡ t → lacks_at (cond t (after_word bs) (b ∷ bs)) ≡ true
          → (lacks_at (after_word bs) ≡ true → word_of (filled_in bs) ≡ word_of bs)
          → word_of (filled_in (b ∷ bs)) ≡ cond t (b ∷ word_of bs) []
      by_test true f e rest = cc (byte_stays b bs (no_at is_word refl b f), rest e)
      by_test false f e rest = cc (byte_stays b bs (not_at (b == 64) e))

  -- where none comes after the word at the front, none stands at the front
  lacks_before : (text : List ℕ) → lacks_at (after_word text) ≡ true → lacks_at text ≡ true
  lacks_before [] e = refl
  lacks_before (b ∷ bs) e = grind (arith, nat_tests, no_at is_word refl b)

  -- the front without blanks
  front_stays : (text : List ℕ) → is_steady_front text ≡ true → dot_word (filled_in text) ≡ dot_word text
  front_stays [] e = refl
  front_stays (b ∷ bs) e = by_test (b == 46) refl e
    where
      dot_stays : (b == 46) ≡ true → (b == 64) ≡ false
      dot_stays f = no_at (λ n. n == 46) refl _ f

      by_test : (t : Bool) → (b == 46) ≡ t → cond t (lacks_at (after_word (after_blanks bs))) (not (b == 64)) ≡ true
          → dot_word (filled_in (b ∷ bs)) ≡ cond t (named_word (word_of (after_blanks bs))) Other
      by_test true f e =
          cc (byte_stays b bs (dot_stays f), blanks_stay bs (lacks_before (after_blanks bs) e), word_stays (after_blanks bs) e)
      by_test false f e =
          ap dot_word (byte_stays _ _ (not_at _ e)) ∙ ap (λ t. cond t (named_word (word_of (after_blanks (filled_in bs)))) Other) f

  front_lacks : (text : List ℕ) → is_steady_front text ≡ true → lacks_at text ≡ true
  front_lacks [] e = refl
  front_lacks (b ∷ bs) e = grind (arith, nat_tests, no_at)

  pub directive_stays : (line : List ℕ) → is_steady line ≡ true → directive_of (replaced arguments call line) ≡ directive_of line
  unfolding is_steady directive_of
  directive_stays line e = cc (blanks_stay line (front_lacks (after_blanks line) e), front_stays (after_blanks line) e)

  pub steady_kept : (lines : List (List ℕ)) → are_steady lines ≡ true → KeepsDirectives (replaced arguments call) lines
  steady_kept [] e = tt
  steady_kept (line ∷ lines) e = grind (arith, nat_tests, steady_kept lines, directive_stays line)

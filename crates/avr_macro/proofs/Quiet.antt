-- Lines at whose front an argument may stand are of the same directive in each call no argument of which begins with `.`.
use Rattle.std.proofs.Common.{◌≡◌, ℕ, zero, suc, ◌+◌, ◌-◌, ◌/◌, ◌%◌, ◌<◌, Bool, true, false, cond, List, [], ◌∷◌, ◌++◌, get_or}
use Rattle.std.proofs.Common.{decimal, refl, sym, ◌∙◌, ap, arith}
use Rattle.std.specs.Prelude.{◌==◌, not}
use Rattle.std.specs.Fmt.{digit_glyph, digits, digits_onto}
use Rattle.std.proofs.lemmas.Bool.Decides.{nat_tests}
use Rattle.uz_hex.specs.Lines.{is_blank}
use Rattle.avr_text.specs.Characters.{is_digit}
use Rattle.avr_macro.specs.declared.directives.Word.TheVariants.{Other}
use Rattle.avr_macro.specs.Arguments.{replaced, replaced_from}
use Rattle.avr_macro.specs.AtSigns.{KeepsDirectives, any_dot, are_quiet, begins_dot, is_quiet, is_quiet_front, is_steady}
use Rattle.avr_macro.specs.AtSigns.{is_steady_front, lacks_at, opens_dot}
use Rattle.avr_macro.specs.Directives.{directive_of, dot_word, named_word}
use Rattle.avr_macro.specs.Lines.{after_blanks, after_word, word_of}
use Rattle.avr_macro.proofs.Steady.{directive_stays}

abbrev Texts : Type 0
Texts = List (List ℕ)

-- a `.` stands at the front, but for blanks
abbrev has_dot : List ℕ → Bool
has_dot text = begins_dot (after_blanks text)

-- ---- a number begins with no blank and no `.`

by_first : (b : ℕ) (bs : List ℕ) → is_blank b ≡ false → (b == 46) ≡ false → has_dot (b ∷ bs) ≡ false
by_first b bs e f = ap (λ t. begins_dot (cond t (after_blanks bs) (b ∷ bs))) e ∙ f

digit_first : (d : ℕ) (bs : List ℕ) → d < 10 → has_dot (digit_glyph false d ∷ bs) ≡ false
digit_first d bs h = grind (arith, nat_tests, by_first)

onto_first : (k n : ℕ) (acc rest : List ℕ) → has_dot (acc ++ rest) ≡ false → has_dot (digits_onto k 10 false n acc ++ rest) ≡ false
onto_first zero n acc rest e = e
onto_first (suc k) n acc rest e =
    by_test (n / 10 == 0) more (onto_first k (n / 10) (digit_glyph false (n % 10) ∷ acc) rest more)
  where
    more : has_dot (digit_glyph false (n % 10) ∷ (acc ++ rest)) ≡ false
    more = digit_first (n % 10) (acc ++ rest) (omega arith)

    by_test : (t : Bool) → has_dot (digit_glyph false (n % 10) ∷ (acc ++ rest)) ≡ false
        → has_dot (digits_onto k 10 false (n / 10) (digit_glyph false (n % 10) ∷ acc) ++ rest) ≡ false
        → has_dot (cond t (digit_glyph false (n % 10) ∷ acc) (digits_onto k 10 false (n / 10) (digit_glyph false (n % 10) ∷ acc)) ++ rest)
        ≡ false
    by_test true here later = here
    by_test false here later = later

number_first : (n : ℕ) (rest : List ℕ) → has_dot (decimal n ++ rest) ≡ false
unfolding digits
number_first n rest = by_test (n / 10 == 0) here (onto_first 63 (n / 10) (digit_glyph false (n % 10) ∷ []) rest here)
  where
    here : has_dot (digit_glyph false (n % 10) ∷ rest) ≡ false
    here = digit_first (n % 10) rest (omega arith)

    by_test : (t : Bool) → has_dot (digit_glyph false (n % 10) ∷ rest) ≡ false
        → has_dot (digits_onto 63 10 false (n / 10) (digit_glyph false (n % 10) ∷ []) ++ rest) ≡ false
        → has_dot (cond t (digit_glyph false (n % 10) ∷ []) (digits_onto 63 10 false (n / 10) (digit_glyph false (n % 10) ∷ [])) ++ rest)
        ≡ false
    by_test true here later = here
    by_test false here later = later

-- ---- the front of a line

-- an argument and what comes after it
after_argument : (a rest : List ℕ) → has_dot a ≡ false → has_dot rest ≡ false → has_dot (a ++ rest) ≡ false
after_argument [] rest e f = f
after_argument (b ∷ bs) rest e f = by_test (is_blank b) e (λ h. after_argument bs rest h f)
  where
    by_test : (t : Bool) → begins_dot (cond t (after_blanks bs) (b ∷ bs)) ≡ false → (has_dot bs ≡ false → has_dot (bs ++ rest) ≡ false)
        → begins_dot (cond t (after_blanks (bs ++ rest)) (b ∷ (bs ++ rest))) ≡ false
    by_test true e more = more e
    by_test false e more = e

argument_first : (arguments : Texts) (k : ℕ) → any_dot arguments ≡ false → has_dot (get_or arguments k []) ≡ false
argument_first [] k e = refl
argument_first (a ∷ more) k e = grind (arith, nat_tests, argument_first more)

-- blanks at the front don't count
after_some_blanks : (line : List ℕ) → opens_dot false line ≡ opens_dot false (after_blanks line)
after_some_blanks [] = refl
after_some_blanks (b ∷ bs) = grind (arith, nat_tests, after_some_blanks bs)

no_directive : (text : List ℕ) → begins_dot text ≡ false → dot_word text ≡ Other
no_directive [] e = refl
no_directive (b ∷ bs) e = ap (λ t. cond t (named_word (word_of (after_blanks bs))) Other) e

module _ (arguments : Texts) (call : ℕ) (quiet : any_dot arguments ≡ false) where
  front_lacks : (named : Bool) (line : List ℕ) → opens_dot named line ≡ false → has_dot (replaced_from arguments call named line) ≡ false
  front_lacks true [] e = refl
  front_lacks false [] e = refl
  front_lacks true (b ∷ bs) e = by_tests (b == 64) (is_digit b) e (front_lacks false bs)
    where
      by_tests : (t d : Bool) → cond d (opens_dot false bs) false ≡ false
          → (opens_dot false bs ≡ false → has_dot (replaced_from arguments call false bs) ≡ false)
          → has_dot (cond t (decimal call) (cond d (get_or arguments (b - 48) []) (64 ∷ b ∷ [])) ++ replaced_from arguments call false bs)
          ≡ false
      by_tests true d e rest = number_first call (replaced_from arguments call false bs)
      by_tests false true e rest =
          after_argument (get_or arguments (b - 48) []) (replaced_from arguments call false bs)
          (argument_first arguments (b - 48) quiet) (rest e)
      by_tests false false e rest = refl
  front_lacks false (b ∷ bs) e =
      by_tests (is_blank b) (b == 64) refl refl e (front_lacks false bs) (front_lacks true bs)
    where
      by_tests : (w t : Bool) → is_blank b ≡ w → (b == 64) ≡ t
          → cond w (opens_dot false bs) (cond t (opens_dot true bs) (b == 46)) ≡ false
          → (opens_dot false bs ≡ false → has_dot (replaced_from arguments call false bs) ≡ false)
          → (opens_dot true bs ≡ false → has_dot (replaced_from arguments call true bs) ≡ false)
          → has_dot (cond t [] (b ∷ []) ++ replaced_from arguments call t bs) ≡ false
      by_tests true true f g e rest named =
          let same : b ≡ 64 = grind (arith, nat_tests) in
          let both : true ≡ false = sym f ∙ ap is_blank same in
          absurd cc
      by_tests true false f g e rest named = cc (rest e)
      by_tests false true f g e rest named = named e
      by_tests false false f g e rest named = by_first b (replaced_from arguments call false bs) f e

  front_stays : (line text : List ℕ) → after_blanks line ≡ text → is_quiet_front text ≡ true
      → directive_of (replaced arguments call line) ≡ dot_word text
  unfolding directive_of is_steady
  front_stays line [] is e =
      no_directive (after_blanks (replaced arguments call line))
      (front_lacks false line (after_some_blanks line ∙ ap (opens_dot false) is))
  front_stays line (b ∷ bs) is e = by_test (b == 46) refl e
    where
      not_opened : (t : Bool) → not t ≡ true → t ≡ false
      not_opened true e = absurd cc
      not_opened false e = refl

      by_test : (t : Bool) → (b == 46) ≡ t
          → cond t (lacks_at (after_word (after_blanks bs))) (not (opens_dot false (b ∷ bs))) ≡ true
          → directive_of (replaced arguments call line) ≡ dot_word (b ∷ bs)
      by_test true f e =
          directive_stays arguments call line
          (ap is_steady_front is ∙ ap (λ t. cond t (lacks_at (after_word (after_blanks bs))) (not (b == 64))) f ∙ e)
          ∙ ap dot_word is
      by_test false f e =
          no_directive (after_blanks (replaced arguments call line))
          (front_lacks false line (after_some_blanks line ∙ ap (opens_dot false) is ∙ not_opened (opens_dot false (b ∷ bs)) e))
          ∙ sym (no_directive (b ∷ bs) f)

  directive_quiet : (line : List ℕ) → is_quiet line ≡ true → directive_of (replaced arguments call line) ≡ directive_of line
  unfolding is_quiet directive_of
  directive_quiet line e = front_stays line (after_blanks line) refl e

  pub quiet_kept : (lines : Texts) → are_quiet lines ≡ true → KeepsDirectives (replaced arguments call) lines
  quiet_kept [] e = tt
  quiet_kept (line ∷ lines) e = grind (arith, nat_tests, quiet_kept lines, directive_quiet line)

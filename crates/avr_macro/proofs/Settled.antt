-- Lines that no call changes: each `@` stands before another byte than a digit and a `@`, or at the end.
use Rattle.std.proofs.Common.{◌≡◌, ℕ, zero, suc, ◌+◌, ◌-◌, ◌/◌, ◌%◌, ◌<◌, Bool, true, false, cond, List, [], ◌∷◌, ◌++◌, map, get_or, take}
use Rattle.std.proofs.Common.{drop, decimal, refl, ◌∙◌, ap, arith, ◌==◌, ◌&&◌, not}
use Rattle.std.specs.Fmt.{digit_glyph, digits, digits_onto}
use Rattle.std.specs.List.{slice_range}
use Rattle.std.proofs.lemmas.Bool.Decides.{nat_tests}
use Rattle.avr_text.specs.Characters.{is_digit}
use Rattle.avr_macro.specs.Arguments.{any_lacks, lacks_from, replaced, replaced_from}
use Rattle.avr_macro.specs.AtSigns.{are_plain, are_settled, is_plain, is_settled, is_settled_from}

abbrev Texts : Type 0
Texts = List (List ℕ)

-- ---- numbers have no `@`

glyph_no_at : (d : ℕ) → d < 10 → (digit_glyph false d == 64) ≡ false
glyph_no_at d h = grind (arith, nat_tests)

onto_plain : (k n : ℕ) (acc : List ℕ) → is_plain acc ≡ true → is_plain (digits_onto k 10 false n acc) ≡ true
onto_plain zero n acc e = e
onto_plain (suc k) n acc e =
    grind (arith, nat_tests, onto_plain k (n / 10) (digit_glyph false (n % 10) ∷ acc), glyph_no_at (n % 10) (omega arith))

decimal_plain : (n : ℕ) → is_plain (decimal n) ≡ true
unfolding digits
decimal_plain n = onto_plain 64 n [] refl

-- ---- a line with arguments that have no `@`

argument_plain : (arguments : Texts) (k : ℕ) → are_plain arguments ≡ true → is_plain (get_or arguments k []) ≡ true
argument_plain [] k e = refl
argument_plain (a ∷ more) k e = grind (arith, nat_tests, argument_plain more)

plain_then : (a r : List ℕ) → is_plain a ≡ true → is_settled_from false (a ++ r) ≡ is_settled_from false r
plain_then [] r e = refl
plain_then (b ∷ bs) r e = by_test (b == 64) refl e (plain_then bs r)
  where
    by_test : (t : Bool) → (b == 64) ≡ t → cond t false (is_plain bs) ≡ true
        → (is_plain bs ≡ true → is_settled_from false (bs ++ r) ≡ is_settled_from false r)
        → is_settled_from (b == 64) (bs ++ r) ≡ is_settled_from false r
    by_test true f e rest = absurd cc
    by_test false f e rest = ap (λ t. is_settled_from t (bs ++ r)) f ∙ rest e

module _ (arguments : Texts) (call : ℕ) (plain : are_plain arguments ≡ true) where
  line_settled : (named : Bool) (line : List ℕ) → is_settled_from false (replaced_from arguments call named line) ≡ true
  line_settled true [] = refl
  line_settled false [] = refl
  line_settled true (b ∷ bs) = by_tests (b == 64) (is_digit b) refl refl (line_settled false bs)
    where
      by_tests : (t d : Bool) → (b == 64) ≡ t → is_digit b ≡ d → is_settled_from false (replaced_from arguments call false bs) ≡ true
          → is_settled_from false (cond t (decimal call) (cond d (get_or arguments (b - 48) []) (64 ∷ b ∷ []))
          ++ replaced_from arguments call false bs) ≡ true
      by_tests true d e f rest = plain_then (decimal call) (replaced_from arguments call false bs) (decimal_plain call) ∙ rest
      by_tests false true e f rest =
          plain_then (get_or arguments (b - 48) []) (replaced_from arguments call false bs) (argument_plain arguments (b - 48) plain) ∙ rest
      by_tests false false e f rest = cc
  line_settled false (b ∷ bs) = grind (arith, nat_tests, line_settled true bs, line_settled false bs)

  pub lines_settled : (lines : Texts) → are_settled (map (replaced arguments call) lines) ≡ true
  lines_settled [] = refl
  lines_settled (line ∷ lines) = cc (line_settled false line, lines_settled lines)

-- ---- a line without `@`

plain_line : (line : List ℕ) → is_plain line ≡ true → is_settled_from false line ≡ true
plain_line [] e = refl
plain_line (b ∷ bs) e = grind (arith, nat_tests, plain_line bs)

pub plain_settled : (lines : Texts) → are_plain lines ≡ true → are_settled lines ≡ true
plain_settled [] e = refl
plain_settled (line ∷ lines) e = grind (arith, nat_tests, plain_settled lines, plain_line line)

-- ---- a call leaves settled lines as they are

line_stays : (arguments : Texts) (call : ℕ) (named : Bool) (line : List ℕ) → is_settled_from named line ≡ true
    → replaced_from arguments call named line ≡ cond named (64 ∷ line) line
line_stays arguments call true (b ∷ bs) e = grind (arith, nat_tests, line_stays arguments call false bs)
line_stays arguments call false (b ∷ bs) e = grind (arith, nat_tests, line_stays arguments call true bs, line_stays arguments call false bs)
line_stays arguments call other [] e = refl

line_lacks : (count : ℕ) (named : Bool) (line : List ℕ) → is_settled_from named line ≡ true → lacks_from count named line ≡ false
line_lacks count named [] e = refl
line_lacks count named (b ∷ bs) e = grind (arith, nat_tests, line_lacks count (not named && b == 64) bs)

first_settled : (line : List ℕ) (lines : Texts) → are_settled (line ∷ lines) ≡ true → is_settled line ≡ true
first_settled line lines e = grind (arith, nat_tests)

later_settled : (line : List ℕ) (lines : Texts) → are_settled (line ∷ lines) ≡ true → are_settled lines ≡ true
later_settled line lines e = grind (arith, nat_tests)

pub lines_stay : (arguments : Texts) (call : ℕ) (lines : Texts) → are_settled lines ≡ true → map (replaced arguments call) lines ≡ lines
lines_stay arguments call [] e = refl
lines_stay arguments call (line ∷ lines) e =
    cc (line_stays arguments call false line (first_settled line lines e), lines_stay arguments call lines (later_settled line lines e))

-- they name no argument
pub lacks_none : (count : ℕ) (lines : Texts) → are_settled lines ≡ true → any_lacks count lines ≡ false
lacks_none count [] e = refl
lacks_none count (line ∷ lines) e =
    cc (line_lacks count false line (first_settled line lines e), lacks_none count lines (later_settled line lines e))

-- ---- some of settled lines

taken_settled : (n : ℕ) (lines : Texts) → are_settled lines ≡ true → are_settled (take n lines) ≡ true
taken_settled (suc n) (line ∷ lines) e = cc (first_settled line lines e, taken_settled n lines (later_settled line lines e))
taken_settled other lines e = refl

left_settled : (n : ℕ) (lines : Texts) → are_settled lines ≡ true → are_settled (drop n lines) ≡ true
left_settled zero lines e = e
left_settled (suc n) [] e = refl
left_settled (suc n) (line ∷ lines) e = left_settled n lines (later_settled line lines e)

pub part_settled : (lines : Texts) (start end : ℕ) → are_settled lines ≡ true → are_settled (slice_range lines start end) ≡ true
part_settled lines start end e = taken_settled (end - start) (drop start lines) (left_settled start lines e)

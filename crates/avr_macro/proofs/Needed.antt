-- A call lacks an argument where it has fewer than lines need.
use Rattle.std.proofs.Common.{◌≡◌, ℕ, ◌+◌, ◌-◌, Bool, true, false, cond, leb, ltb, List, [], ◌∷◌, sym, ◌∙◌, ap, arith, ◌==◌, ◌&&◌, max, not}
use Rattle.std.proofs.lemmas.Bool.Decides.{nat_tests}
use Rattle.avr_text.specs.Characters.{is_digit}
use Rattle.avr_macro.specs.Arguments.{any_lacks, lacks_from}
use Rattle.avr_macro.specs.AtSigns.{needed_by, needed_from, needed_in}

-- either of two needs
either_need : (count a b : ℕ) → cond (ltb count a) true (ltb count b) ≡ ltb count (max a b)
either_need count a b = grind (arith, nat_tests)

one_more : (count d : ℕ) → leb count d ≡ ltb count (d + 1)
one_more count d = grind (arith, nat_tests)

no_need : (count r : ℕ) → ltb count r ≡ ltb count (max 0 r)
no_need count r = ap (ltb count) (omega arith)

byte_needs : (count d r : ℕ) (named digit : Bool)
    → cond (named && (digit && leb count d)) true (ltb count r) ≡ ltb count (max (cond (named && digit) (d + 1) 0) r)
byte_needs count d r true true = ap (λ t. cond t true (ltb count r)) (one_more count d) ∙ either_need count (d + 1) r
byte_needs count d r other digit = no_need count r

line_needs : (count : ℕ) (named : Bool) (line : List ℕ) → lacks_from count named line ≡ ltb count (needed_from named line)
line_needs count named [] = grind (arith, nat_tests)
line_needs count named (b ∷ bs) =
    cc (line_needs count (not named && b == 64) bs, byte_needs count (b - 48) (needed_from (not named && b == 64) bs) named (is_digit b))

lines_need : (count : ℕ) (lines : List (List ℕ)) → any_lacks count lines ≡ ltb count (needed_by lines)
lines_need count [] = grind (arith, nat_tests)
lines_need count (line ∷ lines) =
    cc (line_needs count false line, lines_need count lines, either_need count (needed_in line) (needed_by lines))

pub lacks_by_need : (count needed : ℕ) (lines : List (List ℕ)) → needed ≡ needed_by lines → any_lacks count lines ≡ ltb count needed
lacks_by_need count needed lines e = lines_need count lines ∙ ap (ltb count) (sym e)

-- Fronts and ends of texts.
use Rattle.std.proofs.Common.{◌≡◌, ℕ, ◌-◌, true, false, List, [], ◌∷◌, ◌++◌, length, take, reverse, refl, sym, ◌∙◌, ap, arith}
use Rattle.std.proofs.lemmas.List.{length-append, reverse-append, reverse-reverse}
use Rattle.std.proofs.Math.Seq.{take-append_seam}
use Rattle.uz_hex.specs.Lines.{is_blank}
use Rattle.avr_macro.specs.Lines.{after_blanks, after_word, word_of}
use Rattle.avr_macro.specs.Arguments.{before_comment}
use Rattle.std.proofs.lemmas.Bool.Decides.{nat_tests}

-- a byte at the end
last_first : (front : List ℕ) (b : ℕ) → reverse (front ++ b ∷ []) ≡ b ∷ reverse front
last_first front b = reverse-append front (b ∷ [])

pub drops_last : (front : List ℕ) (b : ℕ) → is_blank b ≡ true → reverse (after_blanks (reverse (front ++ b ∷ []))) ≡ reverse
    (after_blanks (reverse front))
drops_last front b e = cc (last_first front b)

pub keeps_last : (front : List ℕ) (b : ℕ) → is_blank b ≡ false → reverse (after_blanks (reverse (front ++ b ∷ []))) ≡ front ++ b ∷ []
keeps_last front b e = cc (last_first front b, reverse-reverse (front ++ b ∷ []))

-- a word and what comes after it
word_split : (text : List ℕ) → word_of text ++ after_word text ≡ text
word_split [] = refl
word_split (b ∷ bs) = grind (arith, nat_tests, word_split bs)

front_of : (a b t : List ℕ) → a ++ b ≡ t → take (length t - length b) t ≡ a
front_of a b t e = let n : length t - length b ≡ length a = omega (arith, ap length (sym e), length-append a b) in cc (take-append_seam a b)

pub word_front : (text rest : List ℕ) → rest ≡ after_word text → take (length text - length rest) text ≡ word_of text
word_front text rest e = ap (λ r. take (length text - length r) text) e ∙ front_of (word_of text) (after_word text) text (word_split text)

-- what comes before a comment
comment_whole : (xs : List ℕ) → take (length (before_comment xs)) xs ≡ before_comment xs
comment_whole [] = refl
comment_whole (b ∷ bs) = grind (arith, nat_tests, comment_whole bs)

pub comment_front : (text : List ℕ) (n : ℕ) → n ≡ length (before_comment text) → take n text ≡ before_comment text
comment_front text n e = ap (λ k. take k text) e ∙ comment_whole text

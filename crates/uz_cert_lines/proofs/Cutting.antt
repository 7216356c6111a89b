-- A line is cut into words one after another.
use Rattle.std.proofs.Common.{◌≡◌, ℕ, Bool, true, false, cond, eqb, List, [], ◌∷◌, refl, sym, ◌∙◌, ap}
use Rattle.uz_hex.specs.Cutting.{cut_at, cut_behind}
use Rattle.uz_cert_lines.specs.Grammar.{with_byte, cut_words, words_left, end_of}
use Rattle.std.specs.{Borrow.Bor, Prelude.Option, Prelude.Some, Prelude.None, Prelude.Err, Prelude.IsSome}
use Rattle.uz_cert_lines.specs.declared.why.CertWhy.TheVariants as why

-- the words of a text that is cut so
abbrev pub words_by : List ℕ → Option (List ℕ × List ℕ) → List (List ℕ)
words_by line None = line ∷ []
words_by line (Some p) = p.0 ∷ cut_words p.1

behind : (b : ℕ) (bs : List ℕ) (o : Option (List ℕ × List ℕ)) → words_by (b ∷ bs) (cut_behind (b ∷ []) o) ≡ with_byte b (words_by bs o)
behind b bs None = refl
behind b bs (Some p) = refl

cut_step : (b : ℕ) (bs : List ℕ) (t : Bool)
    → cut_words bs ≡ words_by bs (cut_at 32 bs)
    → cond t ([] ∷ cut_words bs) (with_byte b (cut_words bs))
    ≡ words_by (b ∷ bs) (cond t (Some ([], bs)) (cut_behind (b ∷ []) (cut_at 32 bs)))
cut_step b bs true later = refl
cut_step b bs false later = ap (with_byte b) later ∙ sym (behind b bs (cut_at 32 bs))

pub cut_by : (line : List ℕ) → cut_words line ≡ words_by line (cut_at 32 line)
cut_by [] = refl
cut_by (b ∷ bs) = cut_step b bs (eqb b 32) (cut_by bs)

pub next_cut : (line front back : List ℕ) → Some (front, back) ≡ cut_at 32 line → cut_words line ≡ front ∷ cut_words back
next_cut line front back e = cut_by line ∙ ap (words_by line) (sym e)

pub last_cut : (line : List ℕ) → None ≡ cut_at 32 line → cut_words line ≡ line ∷ []
last_cut line e = cut_by line ∙ ap (words_by line) (sym e)

ends_not : (ended : Bool) (line : List ℕ) (o : Option (List ℕ × List ℕ)) → end_of ended (words_by line o) ≡ Err why.Word
ends_not true line None = refl
ends_not false line None = refl
ends_not true line (Some p) = refl
ends_not false line (Some p) = refl

-- where words are left, a line can't end
pub left_some : (ended : Bool) (left : Option (Bor (List ℕ))) → IsSome left → end_of ended (words_left left) ≡ Err why.Word
left_some ended None h = absurd cc
left_some ended (Some line) h = ap (end_of ended) (cut_by line.now) ∙ ends_not ended line.now (cut_at 32 line.now)

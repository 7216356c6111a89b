-- A text is cut at its LF bytes one after another.
use Rattle.uz_cert.proofs.Common.{◌≡◌, ℕ, suc, ◌+◌, ◌≤◌, Bool, true, false, cond, eqb, List, [], ◌∷◌, length, refl, sym, ◌∙◌, ap, subst}
use Rattle.uz_cert.proofs.Common.{arith, Option, Some, None, ⊤, is_more, pieces_left, pieces_of}
use Rattle.uz_hex.specs.Cutting.{cut_at, cut_behind}
use Rattle.std.specs.{Borrow.Bor, Prelude.IsSome, List.onto_first}

-- the pieces of a text that is cut so
abbrev pub pieces_by : List ℕ → Option (List ℕ × List ℕ) → List (List ℕ)
pieces_by line None = line ∷ []
pieces_by line (Some p) = p.0 ∷ pieces_of p.1

behind : (b : ℕ) (bs : List ℕ) (o : Option (List ℕ × List ℕ)) → pieces_by (b ∷ bs) (cut_behind (b ∷ []) o) ≡ onto_first b (pieces_by bs o)
behind b bs None = refl
behind b bs (Some p) = refl

cut_step : (b : ℕ) (bs : List ℕ) (t : Bool) → pieces_of bs ≡ pieces_by bs (cut_at 10 bs)
    → cond t ([] ∷ pieces_of bs) (onto_first b (pieces_of bs))
    ≡ pieces_by (b ∷ bs) (cond t (Some ([], bs)) (cut_behind (b ∷ []) (cut_at 10 bs)))
cut_step b bs true later = refl
cut_step b bs false later = ap (onto_first b) later ∙ sym (behind b bs (cut_at 10 bs))

cut_by : (text : List ℕ) → pieces_of text ≡ pieces_by text (cut_at 10 text)
cut_by [] = refl
cut_by (b ∷ bs) = cut_step b bs (eqb b 10) (cut_by bs)

pub next_piece : (text front back : List ℕ) → Some (front, back) ≡ cut_at 10 text → pieces_of text ≡ front ∷ pieces_of back
next_piece text front back e = cut_by text ∙ ap (pieces_by text) (sym e)

pub last_piece : (text : List ℕ) → None ≡ cut_at 10 text → pieces_of text ≡ text ∷ []
last_piece text e = cut_by text ∙ ap (pieces_by text) (sym e)

by_some : (text : List ℕ) (o : Option (List ℕ × List ℕ)) → is_more (pieces_by text o) ≡ true
by_some text None = refl
by_some text (Some p) = refl

-- each text has a piece
pub some_piece : (text : List ℕ) → is_more (pieces_of text) ≡ true
some_piece text = ap is_more (cut_by text) ∙ by_some text (cut_at 10 text)

pub some_left : (rest : Option (Bor (List ℕ))) → IsSome rest → is_more (pieces_left rest) ≡ true
some_left None h = absurd cc
some_left (Some text) h = some_piece text.now

-- what follows a separator is shorter than the text
abbrev IsShorter : ℕ → Option (List ℕ × List ℕ) → Type 0
IsShorter n None = ⊤
IsShorter n (Some p) = length p.1 + 1 ≤ n

longer : (n b : ℕ) (o : Option (List ℕ × List ℕ)) → IsShorter n o → IsShorter (suc n) (cut_behind (b ∷ []) o)
longer n b None h = tt
longer n b (Some p) h = omega (arith, h)

cut_shorter : (b : ℕ) (bs : List ℕ) (t : Bool) → IsShorter (length bs) (cut_at 10 bs)
    → IsShorter (suc (length bs)) (cond t (Some ([], bs)) (cut_behind (b ∷ []) (cut_at 10 bs)))
cut_shorter b bs true h = omega arith
cut_shorter b bs false h = longer (length bs) b (cut_at 10 bs) h

shorter : (text : List ℕ) → IsShorter (length text) (cut_at 10 text)
shorter [] = tt
shorter (b ∷ bs) = cut_shorter b bs (eqb b 10) (shorter bs)

pub rest_shorter : (text front back : List ℕ) → Some (front, back) ≡ cut_at 10 text → length back + 1 ≤ length text
rest_shorter text front back e = subst (IsShorter (length text)) (sym e) (shorter text)

-- One more piece at the end of a text.
use Rattle.std.proofs.Common.{◌≡◌, ℕ, suc, ◌+◌, ◌<◌, ◌≤◌, List, [], ◌∷◌, ◌++◌, drop, get_or, length, sym, ◌∙◌, ap, arith, append_assoc}
use Rattle.std.proofs.Common.{append-nil, add-one, drop-cons, zero, refl, Some, slice_get}
use Rattle.std.proofs.lemmas.List.{drop_all}
use Rattle.std.specs.Prelude.{codes}
use Rattle.uz_schedule.specs.declared.facts.Val.{Val}
use Rattle.uz_explanations.specs.Known.{slot_item, val_word}
use Rattle.uz_explanations.specs.Pieces.{pieces}

-- what is left of a list at a place
pub left : {A : Type 0} (xs : List A) (k : ℕ) (x d : A) → k < length xs → x ≡ get_or xs k d → drop k xs ≡ x ∷ drop (k + 1) xs
left xs k x d h e = drop-cons xs k d h ∙ ap (λ y. y ∷ drop (suc k) xs) (sym e) ∙ ap (λ n. x ∷ drop n xs) (sym (add-one k))

-- a piece is put, and what was left is that piece and the rest
pub put : (old new piece rest left all : List ℕ) → new ≡ old ++ piece → left ≡ piece ++ rest → old ++ left ≡ all → new ++ rest ≡ all
put old new piece rest left all e f g = ap (λ t. t ++ rest) e ∙ append_assoc old piece rest ∙ ap (λ t. old ++ t) (sym f) ∙ g

-- nothing is left
pub nothing_left : (text left all : List ℕ) → left ≡ [] → text ++ left ≡ all → text ≡ all
nothing_left text left all e f = sym (append-nil text) ∙ ap (λ t. text ++ t) (sym e) ∙ f

pieces_left : {A : Type 0} (piece : ℕ → A → List ℕ) (xs : List A) (k : ℕ) (x d : A) → k < length xs → x ≡ get_or xs k d
    → pieces piece k (drop k xs) ≡ piece k x ++ pieces piece (k + 1) (drop (k + 1) xs)
pieces_left piece xs k x d h e =
    ap (λ ys. pieces piece k ys) (left xs k x d h e) ∙ ap (λ n. piece k x ++ pieces piece n (drop (k + 1) xs)) (sym (add-one k))

-- one more piece
pub piece_put : {A : Type 0} (piece : ℕ → A → List ℕ) (old new all : List ℕ) (xs : List A) (k : ℕ) (x d : A) → k < length xs
    → x ≡ get_or xs k d → new ≡ old ++ piece k x → old ++ pieces piece k (drop k xs) ≡ all
    → new ++ pieces piece (k + 1) (drop (k + 1) xs) ≡ all
piece_put piece old new all xs k x d h e f before =
    put old new (piece k x) (pieces piece (k + 1) (drop (k + 1) xs)) (pieces piece k (drop k xs)) all f (pieces_left piece xs k x d h e)
    before

-- no piece is left
pub pieces_over : {A : Type 0} (piece : ℕ → A → List ℕ) (text all : List ℕ) (xs : List A) (k : ℕ) → length xs ≤ k
    → text ++ pieces piece k (drop k xs) ≡ all → text ≡ all
pieces_over piece text all xs k h before = nothing_left text _ all (ap (λ ys. pieces piece k ys) (drop_all k xs h)) before

-- an element at a place, and what is left from there on
record IsAt {A : Type 0} (xs : List A) (i : ℕ) : Type 0 where
  element : A
  found : slice_get xs i ≡ Some element
  left : drop i xs ≡ element ∷ drop (i + 1) xs

element_at : {A : Type 0} (xs : List A) (i : ℕ) → i < length xs → IsAt xs i
element_at [] i h = absurd (omega (arith, h))
element_at (x ∷ xs) zero h = record { element = x; found = refl; left = refl }
element_at (x ∷ xs) (suc i) h =
    let there : IsAt xs i = element_at xs i (omega (arith, h)) in
    let e : suc i + 1 ≡ suc (i + 1) = omega arith in
    record {
      element = there.element;
      found = there.found;
      left = there.left ∙ ap (λ n. there.element ∷ drop n (x ∷ xs)) (sym e);
    }

-- one more element, whatever comes behind it
pub element_put : {A : Type 0} (f g : List A → List ℕ) (old new all : List ℕ) (xs : List A) (i : ℕ) → i < length xs
    → ((x : A) (rest : List A) → slice_get xs i ≡ Some x → new ++ g rest ≡ old ++ f (x ∷ rest)) → old ++ f (drop i xs) ≡ all
    → new ++ g (drop (i + 1) xs) ≡ all
element_put f g old new all xs i h step before =
    let here = element_at xs i h in
    step here.element (drop (i + 1) xs) here.found ∙ ap (λ ys. old ++ f ys) (sym here.left) ∙ before

-- two pieces
pub two_pieces : (old mid new a b : List ℕ) → mid ≡ old ++ a → new ≡ mid ++ b → new ≡ old ++ (a ++ b)
two_pieces old mid new a b e f = f ∙ ap (λ t. t ++ b) e ∙ append_assoc old a b

-- four pieces
pub four_pieces : (old t1 t2 t3 new a b c d : List ℕ) → t1 ≡ old ++ a → t2 ≡ t1 ++ b → t3 ≡ t2 ++ c → new ≡ t3 ++ d
    → new ≡ old ++ (((a ++ b) ++ c) ++ d)
four_pieces old t1 t2 t3 new a b c d e f g h =
    two_pieces old t3 new ((a ++ b) ++ c) d (two_pieces old t2 t3 (a ++ b) c (two_pieces old t1 t2 a b e f) g) h

-- two headings, and behind each a text of one number
pub ways_put : {A : Type 0} (way : ℕ → A → List ℕ) (first second : A) (count shared : ℕ) (old t1 t2 t3 new one two : List ℕ) → count ≡ shared
    → t1 ≡ old ++ one → t2 ≡ t1 ++ way count first → t3 ≡ t2 ++ two → new ≡ t3 ++ way count second
    → new ≡ old ++ (((one ++ way shared first) ++ two) ++ way shared second)
ways_put way first second count shared old t1 t2 t3 new one two s e f g h =
    four_pieces old t1 t2 t3 new one (way count first) two (way count second) e f g h
    ∙ ap (λ n. old ++ (((one ++ way n first) ++ two) ++ way n second)) s

-- one more byte of the stack
pub slot_put : (old mid new all : List ℕ) (xs : List Val) (k : ℕ) (x : Val) → k < length xs → x ≡ get_or xs k x
    → mid ≡ old ++ codes " s:" → new ≡ mid ++ val_word x → old ++ pieces slot_item k (drop k xs) ≡ all
    → new ++ pieces slot_item (k + 1) (drop (k + 1) xs) ≡ all
slot_put old mid new all xs k x h e f g before =
    piece_put slot_item old new all xs k x x h e (two_pieces old mid new (codes " s:") (val_word x) f g) before

-- a text of two lists, which are others
pub with_two : {A : Type 0} (text : A → A → List ℕ) (old new : List ℕ) (a b first second : A) → a ≡ first → b ≡ second
    → new ≡ old ++ text a b → new ≡ old ++ text first second
with_two text old new a b first second e f g = g ∙ ap (λ x. old ++ text x b) e ∙ ap (λ y. old ++ text first y) f

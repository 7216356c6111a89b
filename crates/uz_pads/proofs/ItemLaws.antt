-- The lines of a text of items give one list of items or one first fault, and not both.
use Rattle.std.proofs.Common.{◌≡◌, ℕ, ◌+◌, ◌≤◌, Bool, true, List, [], ◌∷◌, ◌++◌, ◌⊎◌, length, get_or, refl, sym, ◌∙◌, ap, subst, inl, inr}
use Rattle.std.proofs.Common.{arith}
use Rattle.std.proofs.lemmas.List.{length-append}
use Rattle.uz_pads.specs.ItemTexts.{IsFirstFaulty, IsText, items_in}
use Rattle.uz_pads.proofs.ItemLemmas.{items_in-append}

in_middle : (xs : List (List ℕ)) (y : List ℕ) (ys : List (List ℕ)) → get_or (xs ++ y ∷ ys) (length xs) [] ≡ y
in_middle [] y ys = refl
in_middle (x ∷ xs) y ys = in_middle xs y ys

-- Two cuts of the same lines: at one place, or one before the other

record Inside (earlier : List (List ℕ)) (line : List ℕ) (all : List (List ℕ)) : Type 0 where
  more : List (List ℕ)
  cut : all ≡ earlier ++ line ∷ more

abbrev Cuts : List (List ℕ) → List ℕ → List (List ℕ) → List ℕ → Type 0
Cuts xs x ys y = ((xs ≡ ys) × (x ≡ y)) ⊎ (Inside xs x ys ⊎ Inside ys y xs)

one_further : (z : List ℕ) (xs ys : List (List ℕ)) (x y : List ℕ) → Cuts xs x ys y → Cuts (z ∷ xs) x (z ∷ ys) y
one_further z xs ys x y (inl same) = inl (ap (λ ls. z ∷ ls) same.0, same.1)
one_further z xs ys x y (inr (inl inside)) = inr (inl (record { more = inside.more; cut = ap (λ ls. z ∷ ls) inside.cut }))
one_further z xs ys x y (inr (inr inside)) = inr (inr (record { more = inside.more; cut = ap (λ ls. z ∷ ls) inside.cut }))

two_cuts : (xs ys : List (List ℕ)) (x y : List ℕ) (more more' : List (List ℕ)) → xs ++ x ∷ more ≡ ys ++ y ∷ more' → Cuts xs x ys y
two_cuts [] [] x y more more' e = let same : x ≡ y = cc in inl (refl, same)
two_cuts [] (z ∷ ys) x y more more' e = let same : z ≡ x = cc in inr (inl (record { more = ys; cut = ap (λ l. l ∷ ys) same }))
two_cuts (z ∷ xs) [] x y more more' e = let same : z ≡ y = cc in inr (inr (record { more = xs; cut = ap (λ l. l ∷ xs) same }))
two_cuts (z ∷ xs) (w ∷ ys) x y more more' e =
    let head : z ≡ w = cc in
    let tail : xs ++ x ∷ more ≡ ys ++ y ∷ more' = cc in
    subst (λ l. Cuts (z ∷ xs) x (l ∷ ys) y) head (one_further z xs ys x y (two_cuts xs ys x y more more' tail))

-- A format whose faulty lines aren't read, and have one fault each

module _ {A W : Type 0} (items_of : List ℕ → List A) (is_well_formed : List ℕ → Bool) (HasFault : List ℕ → ℕ → W → Type 0)
    (no_fault : (line : List ℕ) (before after : ℕ) (why : W) → HasFault line before why → is_well_formed line ≡ true
    → before + (length (items_of line) + after) ≤ 65536 → ⊥)
    (same_why : (line : List ℕ) (before : ℕ) (v w : W) → HasFault line before v → HasFault line before w → v ≡ w) where
  -- a faulty line stands in no lines that are read
  not_inside : (earlier : List (List ℕ)) (line : List ℕ) (more : List (List ℕ)) (items : List A) (why : W)
      → IsText items_of is_well_formed (earlier ++ line ∷ more) items → HasFault line (length (items_in items_of earlier)) why → ⊥
  not_inside earlier line more items why read fault =
      let good : is_well_formed line ≡ true =
      subst (λ x. is_well_formed x ≡ true) (in_middle earlier line more)
      (read.well_formed (length earlier) [] (omega (arith, length-append earlier (line ∷ more)))) in
      let all : items_in items_of (earlier ++ line ∷ more) ≡ items_in items_of earlier ++ (items_of line ++ items_in items_of more) =
      items_in-append items_of earlier (line ∷ more) in
      let count : length (items_in items_of (earlier ++ line ∷ more)) ≡ length (items_in items_of earlier) + (length (items_of line)
      + length (items_in items_of more)) =
      ap length all ∙ (length-append (items_in items_of earlier) (items_of line ++ items_in items_of more)
      ∙ ap (λ n. length (items_in items_of earlier) + n) (length-append (items_of line) (items_in items_of more))) in
      no_fault line (length (items_in items_of earlier)) (length (items_in items_of more)) why fault good
      (subst (λ n. n ≤ 65536) count read.few)

  pub text_or_faulty : (lines : List (List ℕ)) (items : List A) (number : ℕ) (why : W) → IsText items_of is_well_formed lines items
      → IsFirstFaulty items_of is_well_formed HasFault lines number why → ⊥
  text_or_faulty lines items number why read first = not_inside first.earlier first.line first.later items why
      (subst (λ ls. IsText items_of is_well_formed ls items) first.cut read) first.fault

  decide : (lines : List (List ℕ)) (n m : ℕ) (v w : W) (a : IsFirstFaulty items_of is_well_formed HasFault lines n v)
      (b : IsFirstFaulty items_of is_well_formed HasFault lines m w) → Cuts a.earlier a.line b.earlier b.line → (n ≡ m) × (v ≡ w)
  decide lines n m v w a b (inl same) = (
    a.number_is ∙ (ap (λ ls. length ls + 1) same.0 ∙ sym b.number_is),
    same_why b.line (length (items_in items_of b.earlier)) v w
        (subst (λ l. HasFault l (length (items_in items_of b.earlier)) v) same.1
        (subst (λ ls. HasFault a.line (length (items_in items_of ls)) v) same.0 a.fault))
        b.fault,
  )
  decide lines n m v w a b (inr (inl inside)) = absurd (not_inside a.earlier a.line inside.more (items_in items_of b.earlier) v
      (subst (λ ls. IsText items_of is_well_formed ls (items_in items_of b.earlier)) inside.cut b.read) a.fault)
  decide lines n m v w a b (inr (inr inside)) = absurd (not_inside b.earlier b.line inside.more (items_in items_of a.earlier) w
      (subst (λ ls. IsText items_of is_well_formed ls (items_in items_of a.earlier)) inside.cut a.read) b.fault)

  pub one_faulty : (lines : List (List ℕ)) (n m : ℕ) (v w : W) → IsFirstFaulty items_of is_well_formed HasFault lines n v
      → IsFirstFaulty items_of is_well_formed HasFault lines m w → (n ≡ m) × (v ≡ w)
  one_faulty lines n m v w a b = decide lines n m v w a b
      (two_cuts a.earlier b.earlier a.line b.line a.later b.later (sym a.cut ∙ b.cut))

pub one_text : {A : Type 0} (items_of : List ℕ → List A) (is_well_formed : List ℕ → Bool) (lines : List (List ℕ)) (a b : List A)
    → IsText items_of is_well_formed lines a → IsText items_of is_well_formed lines b → a ≡ b
one_text items_of is_well_formed lines a b x y = x.are ∙ sym y.are

-- How many elements two lists begin with alike, one later.
use Rattle.std.proofs.Common.{◌≡◌, ◌<◌, ◌+◌, ◌∙◌, ℕ, suc, Bool, true, false, not, cond, List, [], ◌∷◌, refl, sym, ap, drop, get_or, length, arith}
use Rattle.std.proofs.lemmas.List.{drop_more}
use Rattle.uz_explanations.specs.Beginnings.{common}

same_of : (s b : Bool) → b ≡ not s → b ≡ false → s ≡ true
same_of true b e h = refl
same_of false b e h = cc

other_of : (s b : Bool) → b ≡ not s → b ≡ true → s ≡ false
other_of true b e h = cc
other_of false b e h = refl

module _ {A : Type 0} (same : A → A → Bool) (xs ys : List A) (k all : ℕ) (x y : A) (differ : Bool) (below : k < length xs)
    (is : x ≡ get_or xs k x) (within : k < length ys) (there : y ≡ get_or ys k y) (tests : differ ≡ not (same x y))
    (before : k + common same (drop k xs) (drop k ys) ≡ all) where
  next : {B : Type 0} (zs : List B) (z : B) → k < length zs → z ≡ get_or zs k z → drop k zs ≡ z ∷ drop (k + 1) zs
  next zs z low e = drop_more zs k z low ∙ ap (λ w. w ∷ drop (k + 1) zs) (sym e)

  opened : common same (drop k xs) (drop k ys) ≡ cond (same x y) (suc (common same (drop (k + 1) xs) (drop (k + 1) ys))) 0
  opened = ap (λ l. common same l (drop k ys)) (next xs x below is) ∙ ap (common same (x ∷ drop (k + 1) xs)) (next ys y within there)

  pub ends_here : differ ≡ true → k ≡ all
  ends_here stops =
      let none = opened ∙ ap (λ b. cond b (suc (common same (drop (k + 1) xs) (drop (k + 1) ys))) 0) (other_of (same x y) differ tests stops) in
      omega (arith, none, before)

  pub goes_on : differ ≡ false → k + 1 + common same (drop (k + 1) xs) (drop (k + 1) ys) ≡ all
  goes_on goes =
      let one = opened ∙ ap (λ b. cond b (suc (common same (drop (k + 1) xs) (drop (k + 1) ys))) 0) (same_of (same x y) differ tests goes) in
      omega (arith, one, before)

-- Lists whose keys rise.
use Rattle.std.proofs.Common.{◌≡◌, ◌⊎◌, inl, inr, Contains, ℕ, zero, suc, ◌<◌, List, [], ◌∷◌, ◌++◌, length, map, refl, sym, ◌∙◌}
use Rattle.std.proofs.Common.{ap, subst, arith}
use Rattle.std.specs.Prelude.{⊤, slice_index_or}

abbrev pub Among : {X : Type 0} → X → List X → Type 0
Among x [] = ⊥
Among x (y ∷ ys) = (y ≡ x) ⊎ Among x ys

pub among_left : {X : Type 0} (x : X) (a b : List X) → Among x a → Among x (a ++ b)
among_left {X} x (y ∷ a) b (inl is) = inl is
among_left {X} x (y ∷ a) b (inr later) = inr (among_left x a b later)
among_left {X} x [] b none = absurd none

pub among_right : {X : Type 0} (x : X) (a b : List X) → Among x b → Among x (a ++ b)
among_right {X} x [] b h = h
among_right {X} x (y ∷ a) b h = inr (among_right x a b h)

pub among_both : {X : Type 0} (x : X) (a b : List X) → Among x (a ++ b) → Among x a ⊎ Among x b
among_both {X} x [] b h = inr h
among_both {X} x (y ∷ a) b (inl is) = inl (inl is)
among_both {X} x (y ∷ a) b (inr later) =
    elim (among_both x a b later) [
      | inl left ↦ inl (inr left)
      | inr right ↦ inr right
    ]

pub among_map : {X Y : Type 0} (f : X → Y) (x : X) (xs : List X) → Among x xs → Among (f x) (map f xs)
among_map {X} {Y} f x [] none = absurd none
among_map {X} {Y} f x (y ∷ ys) (inl is) = inl (ap f is)
among_map {X} {Y} f x (y ∷ ys) (inr later) = inr (among_map f x ys later)

pub among_mapped : {X Y : Type 0} (f : X → Y) (y : Y) (xs : List X) → Among y (map f xs) → (x : X) × Among x xs × (f x ≡ y)
among_mapped {X} {Y} f y [] none = absurd none
among_mapped {X} {Y} f y (x ∷ xs) (inl is) = (x, inl refl, is)
among_mapped {X} {Y} f y (x ∷ xs) (inr later) = (let more = among_mapped f y xs later in (more.0, inr more.1, more.2))

pub contained : {X : Type 0} (x : X) (xs : List X) (k : ℕ) → k < length xs → slice_index_or xs k x ≡ x → Among x xs
contained {X} x [] k below is = absurd (omega (arith, below))
contained {X} x (y ∷ ys) zero below is = inl is
contained {X} x (y ∷ ys) (suc k) below is = inr (contained x ys k (omega (arith, below)) is)

pub contains : {X : Type 0} (x : X) (xs : List X) → Among x xs → Contains xs x
contains {X} x [] none = absurd none
contains {X} x (y ∷ ys) (inl is) = (0, omega arith, is)
contains {X} x (y ∷ ys) (inr later) = (let more = contains x ys later in (suc more.0, omega (arith, more.1), more.2))

abbrev pub Rising : {X : Type 0} → (X → ℕ) → List X → Type 0
Rising key [] = ⊤
Rising {X} key (x ∷ xs) = ((y : X) → Among y xs → key x < key y) × Rising key xs

pub rising_left : {X : Type 0} (key : X → ℕ) (a b : List X) → Rising key (a ++ b) → Rising key a
rising_left {X} key [] b h = tt
rising_left {X} key (x ∷ a) b h = (λ y among. h.0 y (among_left y a b among), rising_left key a b h.1)

pub rising_right : {X : Type 0} (key : X → ℕ) (a b : List X) → Rising key (a ++ b) → Rising key b
rising_right {X} key [] b h = h
rising_right {X} key (x ∷ a) b h = rising_right key a b h.1

pub rising_across : {X : Type 0} (key : X → ℕ) (a b : List X) (x y : X) → Rising key (a ++ b) → Among x a → Among y b → key x < key y
rising_across {X} key [] b x y h none later = absurd none
rising_across {X} key (z ∷ a) b x y h (inl is) later =
    subst (λ (w : X). key w < key y) is (h.0 y (among_right y a b later))
rising_across {X} key (z ∷ a) b x y h (inr first) later = rising_across key a b x y h.1 first later

pub rising_both : {X : Type 0} (key : X → ℕ) (a b : List X) → Rising key a → Rising key b
    → ((x y : X) → Among x a → Among y b → key x < key y) → Rising key (a ++ b)
rising_both {X} key [] b h g across = g
rising_both {X} key (z ∷ a) b h g across = (
  λ y among. elim (among_both y a b among) [
    | inl left ↦ h.0 y left
    | inr right ↦ across z y (inl refl) right
  ],
  rising_both key a b h.1 g (λ x y first later. across x y (inr first) later),
)

-- by another key that goes the same way
pub rising_by : {X : Type 0} (key other : X → ℕ) (xs : List X) → Rising key xs
    → ((x y : X) → Among x xs → Among y xs → key x < key y → other x < other y) → Rising other xs
rising_by {X} key other [] h same = tt
rising_by {X} key other (x ∷ xs) h same = (
  λ y among. same x y (inl refl) (inr among) (h.0 y among),
  rising_by key other xs h.1 (λ y z first later. same y z (inr first) (inr later)),
)

pub rising_mapped : {X Y : Type 0} (f : X → Y) (key : Y → ℕ) (xs : List X) → Rising key (map f xs) → Rising (λ x. key (f x)) xs
rising_mapped {X} {Y} f key [] h = tt
rising_mapped {X} {Y} f key (x ∷ xs) h = (λ y among. h.0 (f y) (among_map f y xs among), rising_mapped f key xs h.1)

pub mapped_rising : {X Y : Type 0} (f : X → Y) (key : Y → ℕ) (xs : List X) → Rising (λ x. key (f x)) xs → Rising key (map f xs)
mapped_rising {X} {Y} f key [] h = tt
mapped_rising {X} {Y} f key (x ∷ xs) h = (
  λ y among. (let from = among_mapped f y xs among in subst (λ (z : Y). key (f x) < key z) from.2 (h.0 from.0 from.1)),
  mapped_rising f key xs h.1,
)

-- elements with one key are one
pub one_key : {X : Type 0} (key : X → ℕ) (xs : List X) (x y : X) → Rising key xs → Among x xs → Among y xs → key x ≡ key y → x ≡ y
one_key {X} key [] x y h none other same = absurd none
one_key {X} key (z ∷ xs) x y h (inl is) (inl other) same = sym is ∙ other
one_key {X} key (z ∷ xs) x y h (inl is) (inr later) same =
    (let less = h.0 y later in let at = ap key is in absurd (omega (arith, less, at, same)))
one_key {X} key (z ∷ xs) x y h (inr first) (inl is) same =
    (let less = h.0 x first in let at = ap key is in absurd (omega (arith, less, at, same)))
one_key {X} key (z ∷ xs) x y h (inr first) (inr later) same = one_key key xs x y h.1 first later same

-- lists with the same elements are one
pub same_rising : {X : Type 0} (key : X → ℕ) (a b : List X) → Rising key a → Rising key b → ((x : X) → Among x a → Among x b)
    → ((x : X) → Among x b → Among x a) → a ≡ b
same_rising {X} key [] [] h g forth back = refl
same_rising {X} key [] (y ∷ b) h g forth back = absurd (back y (inl refl))
same_rising {X} key (x ∷ a) [] h g forth back = absurd (forth x (inl refl))
same_rising {X} key (x ∷ a) (y ∷ b) h g forth back =
    ap (λ (z : X). z ∷ a) first ∙ ap (λ (zs : List X). y ∷ zs) (same_rising key a b h.1 g.1 forth_later back_later)
  where
    apart : Among x b → Among y a → ⊥
    apart one other = (let low = g.0 x one in let high = h.0 y other in omega (arith, low, high))

    first : x ≡ y
    first =
        elim (forth x (inl refl)) [
          | inl is ↦ sym is
          | inr later ↦ elim (back y (inl refl)) [
            | inl is ↦ is
            | inr earlier ↦ absurd (apart later earlier)
          ]
        ]

    forth_later : (z : X) → Among z a → Among z b
    forth_later z among =
        elim (forth z (inr among)) [
          | inl is ↦
              let less = h.0 z among in
              let at = ap key (first ∙ is) in
              absurd (omega (arith, less, at))
          | inr later ↦ later
        ]

    back_later : (z : X) → Among z b → Among z a
    back_later z among =
        elim (back z (inr among)) [
          | inl is ↦
              let less = g.0 z among in
              let at = ap key (sym first ∙ is) in
              absurd (omega (arith, less, at))
          | inr later ↦ later
        ]

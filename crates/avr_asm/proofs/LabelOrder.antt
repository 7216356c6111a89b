-- A stable sort of labels by their addresses gives one list.
use Rattle.std.proofs.Common.{◌≡◌, ◌∙◌, sym, ap, refl, subst, arith, ℕ, zero, suc, ◌<◌, ◌≤◌, ◌==◌, ◌&&◌, not, Bool, true, false, cond, List}
use Rattle.std.proofs.Common.{[], ◌∷◌, length, get_or, nat_le, nat_cmp, is_lt}
use Rattle.std.specs.List.{filter}
use Rattle.std.specs.List.Sorted.{IsNonDecreasingBy, IsStableByKey, ties}
use Rattle.std.proofs.lemmas.Bool.Decides.{nat_tests}
use Rattle.avr_asm.specs.declared.labels.Label.{Label}
use Rattle.avr_asm.specs.Labels.{put_in_order, by_address}

-- addresses don't fall, from a number on
abbrev pub RiseFrom : ℕ → List Label → Type 0
RiseFrom low [] = Unit {0}
RiseFrom low (l ∷ labels) = (low ≤ l.address) × RiseFrom l.address labels

abbrev pub has_address : ℕ → Label → Bool
has_address n l = l.address == n

-- ---- numbers

differs : (n m : ℕ) → n < m → (m == n) ≡ false
differs n m h = grind (arith, nat_tests)

same_is : (n : ℕ) → (n == n) ≡ true
same_is n = grind (arith, nat_tests)

same_from : (n m : ℕ) → (m == n) ≡ true → m ≡ n
same_from n m e = grind (arith, nat_tests)

least : (n m : ℕ) → (n < m → ⊥) → (m < n → ⊥) → n ≡ m
least n m a b = grind (arith, nat_tests, nat_le n m, nat_le m n)

tie_is : (n m : ℕ) → (not (is_lt (nat_cmp n m)) && not (is_lt (nat_cmp m n))) ≡ (m == n)
tie_is n m = grind (arith, nat_tests)

-- ---- what rises

pub rise_from : (low : ℕ) (labels : List Label) → IsNonDecreasingBy (λ l. l.address) labels
    → ((d : Label) → 0 < length labels → low ≤ (get_or labels 0 d).address) → RiseFrom low labels
rise_from low [] up first = tt
rise_from low (l ∷ ls) up first = (
  first l (omega arith),
  rise_from l.address ls (λ i j d h k. up (suc i) (suc j) d (omega (arith, h)) (omega (arith, k))) (λ d h. up 0 1 d (omega arith) (omega (arith, h))),
)

rises_above : (low : ℕ) (labels : List Label) (j : ℕ) (d : Label) → RiseFrom low labels → j < length labels
    → low ≤ (get_or labels j d).address
rises_above low [] j d r h = absurd (omega (arith, h))
rises_above low (l ∷ ls) zero d r h = r.0
rises_above low (l ∷ ls) (suc j) d r h = let more = rises_above l.address ls j d r.1 (omega (arith, h)) in omega (arith, more, r.0)

pub does_not_fall : (low : ℕ) (labels : List Label) → RiseFrom low labels → IsNonDecreasingBy (λ l. l.address) labels
does_not_fall low [] r i j d h k = absurd (omega (arith, k))
does_not_fall low (l ∷ ls) r zero j d h k = rises_above l.address (l ∷ ls) j d (omega arith, r.1) k
does_not_fall low (l ∷ ls) r (suc i) zero d h k = absurd (omega (arith, h))
does_not_fall low (l ∷ ls) r (suc i) (suc j) d h k = does_not_fall l.address ls r.1 i j d (omega (arith, h)) (omega (arith, k))

-- ---- one label is put in order

put_rises : (low : ℕ) (l : Label) (labels : List Label) → low ≤ l.address → RiseFrom low labels → RiseFrom low (put_in_order l labels)
put_rises low l [] h r = (h, tt)
put_rises low l (m ∷ ms) h r = grind (arith, nat_tests, nat_le l.address m.address, put_rises m.address l ms)

pub order_rises : (labels : List Label) → RiseFrom 0 (by_address labels)
unfolding by_address
order_rises [] = tt
order_rises (l ∷ ls) = put_rises 0 l (by_address ls) (omega arith) (order_rises ls)

swapped : (n : ℕ) (l m : Label) (ms : List Label) → m.address < l.address
    → filter (has_address n) (m ∷ l ∷ ms) ≡ filter (has_address n) (l ∷ m ∷ ms)
swapped n l m ms less = grind (arith, nat_tests, same_from n l.address, same_from n m.address)

put_keeps : (n : ℕ) (l : Label) (labels : List Label) → filter (has_address n) (put_in_order l labels) ≡ filter (has_address n) (l ∷ labels)
put_keeps n l [] = refl
put_keeps n l (m ∷ ms) = grind (arith, nat_tests, nat_le l.address m.address, put_keeps n l ms, swapped n l m ms)

pub order_keeps : (n : ℕ) (labels : List Label) → filter (has_address n) (by_address labels) ≡ filter (has_address n) labels
unfolding by_address
order_keeps n [] = refl
order_keeps n (l ∷ ls) = put_keeps n l (by_address ls) ∙ ap (λ xs. cond (has_address n l) (l ∷ xs) xs) (order_keeps n ls)

-- ---- what rises and has the same labels at each address is the same

none_below : (n low : ℕ) (labels : List Label) → n < low → RiseFrom low labels → filter (has_address n) labels ≡ []
none_below n low [] h r = refl
none_below n low (l ∷ ls) h r = cc (differs n l.address (omega (arith, h, r.0)), none_below n l.address ls (omega (arith, h, r.0)) r.1)

first_there : (l : Label) (labels : List Label) → filter (has_address l.address) (l ∷ labels) ≡ l ∷ filter (has_address l.address) labels
first_there l labels = cc (same_is l.address)

not_earlier : (low : ℕ) (y : Label) (ys zs : List Label) → RiseFrom low zs
    → filter (has_address y.address) (y ∷ ys) ≡ filter (has_address y.address) zs → y.address < low → ⊥
not_earlier low y ys zs r e h = grind (arith, nat_tests, first_there y ys, none_below y.address low zs h r)

abbrev tail_of : List Label → List Label
tail_of [] = []
tail_of (l ∷ ls) = ls

rest_same : (n : ℕ) (y z : Label) (ys zs : List Label) → y ≡ z
    → filter (has_address n) (y ∷ ys) ≡ filter (has_address n) (z ∷ zs) → filter (has_address n) ys ≡ filter (has_address n) zs
rest_same n y z ys zs same e = grind (arith, nat_tests)

one_order : (low : ℕ) (ys zs : List Label) → RiseFrom low ys → RiseFrom low zs
    → ((n : ℕ) → filter (has_address n) ys ≡ filter (has_address n) zs) → ys ≡ zs
one_order low [] [] r s same = refl
one_order low [] (z ∷ zs) r s same = let none : z ∷ filter (has_address z.address) zs ≡ [] = sym (first_there z zs) ∙ sym (same z.address) in
    absurd (cc)
one_order low (y ∷ ys) [] r s same = let none : y ∷ filter (has_address y.address) ys ≡ [] = sym (first_there y ys) ∙ same y.address in
    absurd (cc)
one_order low (y ∷ ys) (z ∷ zs) r s same =
    let at : y.address ≡ z.address =
    least y.address z.address (not_earlier z.address y ys (z ∷ zs) (omega arith, s.1) (same y.address))
    (not_earlier y.address z zs (y ∷ ys) (omega arith, r.1) (sym (same z.address))) in
    let both : y ∷ filter (has_address y.address) ys ≡ z ∷ filter (has_address z.address) zs =
    sym (first_there y ys) ∙ same y.address ∙ ap (λ n. filter (has_address n) (z ∷ zs)) at ∙ first_there z zs in
    let first : y ≡ z = ap (λ xs. get_or xs 0 y) both in
    let rest = one_order y.address ys zs r.1 (subst (λ n. RiseFrom n zs) (sym at) s.1) (λ n. rest_same n y z ys zs first (same n)) in
    λ i. first i ∷ rest i

abbrev label_of_address : ℕ → Label
label_of_address n = record { name = []; address = n }

same_ties : (n : ℕ) (labels : List Label) → filter (ties (λ a b. is_lt (nat_cmp a.address b.address)) (label_of_address n)) labels
    ≡ filter (has_address n) labels
same_ties n labels = λ i. filter (λ l. tie_is n l.address i) labels

-- what a stable sort gives
pub sorted_is : (xs ys : List Label) → IsNonDecreasingBy (λ l. l.address) ys → IsStableByKey (λ l. l.address) nat_cmp xs ys
    → ys ≡ by_address xs
sorted_is xs ys up stable = one_order 0 ys (by_address xs) (rise_from 0 ys up (λ d h. omega arith)) (order_rises xs)
    (λ n. sym (same_ties n ys) ∙ stable (label_of_address n) ∙ same_ties n xs ∙ sym (order_keeps n xs))

-- Where halving finds the nearest label.
use Rattle.std.proofs.Common.{◌≡◌, ◌∙◌, sym, ap, refl, arith, ℕ, zero, suc, ◌+◌, ◌<◌, ◌≤◌, Bool, true, false, cond, List, [], ◌∷◌, length}
use Rattle.std.proofs.Common.{get_or, nat_le, nat_lt, Bor, Option, Some, None, is_some, slice_get, IfSome}
use Rattle.std.specs.Option.{option_copied}
use Rattle.std.specs.List.Sorted.{IsNonDecreasingBy, IsPartitionPoint}
use Rattle.std.proofs.lemmas.Bool.Decides.{nat_tests}
use Rattle.std.proofs.lemmas.Option.{slice_get_past, slice_get-get_or}
use Rattle.avr_asm.specs.declared.labels.Label.{Label}
use Rattle.avr_asm.specs.Labels.{greater_of, nearest}

-- all lie after the address
pub none_nearest : (address : ℕ) (labels : List Label) → ((j : ℕ) (d : Label) → j < length labels → address < (get_or labels j d).address)
    → nearest address labels ≡ None
unfolding nearest
none_nearest address [] after = refl
none_nearest address (l ∷ ls) after =
    let here : nat_le l.address address ≡ false = let h = after 0 l (omega arith) in grind (arith, nat_tests, h) in
    ap (λ b. cond b (greater_of l (nearest address ls)) (nearest address ls)) here
    ∙ none_nearest address ls (λ j d h. after (suc j) d (omega (arith, h)))

-- none at or before the address lies after another one
within : (address top : ℕ) (labels : List Label)
    → ((j : ℕ) (d : Label) → j < length labels → (get_or labels j d).address ≤ address → (get_or labels j d).address ≤ top)
    → IfSome (nearest address labels) (λ l. l.address ≤ top)
unfolding nearest
within address top [] below = tt
within address top (l ∷ ls) below = by_test (nat_le l.address address) (nearest address ls) refl
    (within address top ls (λ j d h k. below (suc j) d (omega (arith, h)) k))
  where
    by_pair : (m : Label) (t : Bool) → l.address ≤ top → m.address ≤ top → IfSome (cond t (Some m) (Some l)) (λ x. x.address ≤ top)
    by_pair m true a b = b
    by_pair m false a b = a

    by_test : (t : Bool) (o : Option Label) → nat_le l.address address ≡ t → IfSome o (λ x. x.address ≤ top)
        → IfSome (cond t (greater_of l o) o) (λ x. x.address ≤ top)
    by_test false o e rest = rest
    by_test true None e rest = below 0 l (omega arith) (grind (arith, nat_tests, e))
    by_test true (Some m) e rest = by_pair m (nat_lt l.address m.address) (below 0 l (omega arith) (grind (arith, nat_tests, e))) rest

no_greater : (l : Label) (o : Option Label) → IfSome o (λ m. m.address ≤ l.address) → greater_of l o ≡ Some l
no_greater l None h = refl
no_greater l (Some m) h = let not_less : nat_lt l.address m.address ≡ false = grind (arith, nat_tests, h) in cc

-- the first at a greatest address that isn't after the address
pub first_nearest : (address top : ℕ) (labels : List Label) (i : ℕ) (l : Label) → slice_get labels i ≡ Some l → l.address ≡ top → top ≤ address
    → ((j : ℕ) (d : Label) → j < length labels → (get_or labels j d).address ≤ address → (get_or labels j d).address ≤ top)
    → ((j : ℕ) (d : Label) → j < i → (get_or labels j d).address < top) → nearest address labels ≡ Some l
unfolding nearest
first_nearest address top [] i l there is le below before = absurd (cc)
first_nearest address top (x ∷ xs) zero l there is le below before =
    let same : x ≡ l = ap (get_some x) there in
    let at : x.address ≡ top = ap (λ y. y.address) same ∙ is in
    let here : nat_le x.address address ≡ true = grind (arith, nat_tests, at, le) in
    let rest = within address x.address xs (λ j d h k. let m = below (suc j) d (omega (arith, h)) k in omega (arith, m, at)) in
    ap (λ b. cond b (greater_of x (nearest address xs)) (nearest address xs)) here ∙ no_greater x (nearest address xs) rest ∙ ap Some same
  where
    get_some : Label → Option Label → Label
    get_some d None = d
    get_some d (Some y) = y
first_nearest address top (x ∷ xs) (suc i) l there is le below before =
    let less : x.address < top = before 0 x (omega arith) in
    let here : nat_le x.address address ≡ true = grind (arith, nat_tests, less, le) in
    let later : nat_lt x.address l.address ≡ true = grind (arith, nat_tests, less, is) in
    let rest = first_nearest address top xs i l there is le (λ j d h k. below (suc j) d (omega (arith, h)) k)
    (λ j d h. before (suc j) d (omega (arith, h))) in
    ap (λ b. cond b (greater_of x (nearest address xs)) (nearest address xs)) here
    ∙ ap (greater_of x) rest ∙ ap (λ b. cond b (Some l) (Some x)) later

-- where halving ends
abbrev pub CutsAt : ℕ → List Label → ℕ → Type 0
CutsAt address labels i = IsPartitionPoint (λ l. nat_lt l.address address ≡ true) (λ l. nat_lt l.address address ≡ false) labels i

pub none_by_halving : (address limit : ℕ) (labels : List Label) (i : ℕ) → limit ≡ address + 1 → i ≡ 0 → CutsAt limit labels i
    → None ≡ nearest address labels
none_by_halving address limit labels i is none cut = sym (none_nearest address labels
    (λ j d h. let after = cut.1 j d (omega (arith, none)) h in grind (arith, nat_tests, after, is)))

-- what `get` lends
pub lent : (labels : List Label) (i : ℕ) (found : Option (Bor Label)) → is_some found ≡ nat_lt i (length labels)
    → IfSome found (λ l. l.now ≡ get_or labels i l.now) → option_copied found ≡ slice_get labels i
lent labels i None there is = let past : length labels ≤ i = grind (arith, nat_tests, there) in sym (slice_get_past labels i past)
lent labels i (Some l) there is =
    let inside : i < length labels = grind (arith, nat_tests, there) in
    ap Some is ∙ sym (slice_get-get_or labels i l.now inside)

-- no label before the address lies after the last of those
last_greatest : (address limit : ℕ) (labels : List Label) (after last : ℕ) (e : Label) → IsNonDecreasingBy (λ l. l.address) labels
    → limit ≡ address + 1 → after ≡ suc last → after ≤ length labels → CutsAt limit labels after → (j : ℕ) (d : Label) → j < length labels
    → (get_or labels j d).address ≤ address → (get_or labels j d).address ≤ (get_or labels last d).address
last_greatest address limit labels after last e up is one bound cut j d h le = grind (arith, nat_tests, nat_le j last)

-- the first from the last one's address on
pub found_by_halving : (address limit top : ℕ) (labels : List Label) (after last i : ℕ) (d : Label)
    → IsNonDecreasingBy (λ l. l.address) labels → limit ≡ address + 1 → after ≡ suc last → after ≤ length labels → CutsAt limit labels after
    → top ≡ (get_or labels last d).address → CutsAt top labels i → slice_get labels i ≡ nearest address labels
found_by_halving address limit top labels after last i d up is one bound cut top_is at =
    let inside : last < length labels = omega (arith, one, bound) in
    let first : i ≤ last = by_test (nat_le i last) refl in
    let l = get_or labels i d in
    let low : top ≤ l.address = let late = at.1 i d (omega arith) (omega (arith, first, inside)) in grind (arith, nat_tests, late) in
    let high : l.address ≤ top = let h = up i last d first inside in omega (arith, h, top_is) in
    let before : top ≤ address = let early = cut.0 last d (omega arith) (omega (arith, one)) in grind (arith, nat_tests, early, top_is, is) in
    let there = slice_get-get_or labels i d (omega (arith, first, inside)) in
    let below = last_greatest address limit labels after last d up is one bound cut in
    there ∙ sym (first_nearest address top labels i l there (omega (arith, low, high)) before
    (λ j e h k. let m = below j e h k in omega (arith, m, top_is, same_place labels last d e inside))
    (λ j e h. let early = at.0 j e (omega arith) h in grind (arith, nat_tests, early)))
  where
    same_place : (xs : List Label) (k : ℕ) (d e : Label) → k < length xs → (get_or xs k e).address ≡ (get_or xs k d).address
    same_place [] k d e h = absurd (omega (arith, h))
    same_place (x ∷ xs) zero d e h = refl
    same_place (x ∷ xs) (suc k) d e h = same_place xs k d e (omega (arith, h))

    by_test : (t : Bool) → nat_le i last ≡ t → i ≤ last
    by_test true e = grind (arith, nat_tests, e)
    by_test false e =
        let early = at.0 last d (omega arith) (grind (arith, nat_tests, e)) in
        absurd (grind (arith, nat_tests, early, top_is))

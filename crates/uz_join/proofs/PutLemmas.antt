-- Points that are put behind others.
use Rattle.uz_join.proofs.Common.{◌≡◌, ◌∙◌, ◌≢◌, refl, sym, ap, subst, arith, inl, inr, ⊎_elim, ℕ, zero, suc, ◌+◌, ◌<◌, ◌≤◌, List, [], ◌∷◌}
use Rattle.uz_join.proofs.Common.{◌++◌, length, drop, reverse, None, Some, slice_get, ◌⊎◌, cases_eq, append-nil, reverse-append}
use Rattle.uz_join.proofs.Common.{reverse-reverse, slice_get_within, Point, AreTold, IsWhollyTold, SameInstances, AreSoFar, IsPut}
use Rattle.uz_join.proofs.SameFacts.{wholly_itself}
use Rattle.uz_join.proofs.TakenLemmas.{next_taken, none_dropped}
use Rattle.uz_join.proofs.CoverageLemmas.{front, last_of}
use Rattle.uz_join.specs.declared.replacing.Replacing.{Replacing}

-- One point

put_told : (old new : List Point) (p : Point) → IsPut old new p → IsWhollyTold new p
put_told old new p put l c low high first last =
    let by = wholly_itself new (length old) (record p { next = record { items = put.next } })
    (ap (λ ps. slice_get ps (length old)) put.is ∙ last_of old (record p { next = record { items = put.next } })) l c low high first last in
    record {
      number = by.number;
      point = by.point;
      count = by.count;
      there = by.there;
      box = by.box;
      same = by.same;
    }

put_kept : (old new : List Point) (p q : Point) → IsPut old new p → IsWhollyTold old q → IsWhollyTold new q
put_kept old new p q put told l c low high first last =
    let by = told l c low high first last in
    record {
      number = by.number;
      point = by.point;
      count = by.count;
      there = ap (λ ps. slice_get ps by.number) put.is ∙ front old (record p { next = record { items = put.next } } ∷ []) by.number by.point
          by.there;
      box = by.box;
      same = by.same;
    }

in_more : {A : Type 0} (xs : List A) (x : A) (i : ℕ) (y : A) → slice_get (xs ++ x ∷ []) i ≡ Some y → (slice_get xs i ≡ Some y) ⊎ (x ≡ y)
in_more [] x zero y e = inr (cc)
in_more [] x (suc i) y e = absurd (cc)
in_more (z ∷ xs) x zero y e = inl e
in_more (z ∷ xs) x (suc i) y e = in_more xs x i y e

put_only : (old new by : List Point) (p : Point) → IsPut old new p → AreTold old by → IsWhollyTold by p → AreTold new by
put_only old new by p put all told id q there = ⊎_elim
    (λ (h : slice_get old id ≡ Some q). all id q h)
    (λ (h : record p { next = record { items = put.next } } ≡ q). subst (IsWhollyTold by) h renamed)
    (in_more old (record p { next = record { items = put.next } }) id q (ap (λ ps. slice_get ps id) (sym put.is) ∙ there))
  where
    renamed : IsWhollyTold by (record p { next = record { items = put.next } })
    renamed l c low high first last =
        let t = told l c low high first last in
        record {
          number = t.number;
          point = t.point;
          count = t.count;
          there = t.there;
          box = t.box;
          same = t.same;
        }

in_reverse : {A : Type 0} (xs : List A) (i : ℕ) (y : A) → slice_get (reverse xs) i ≡ Some y → (j : ℕ) × (slice_get xs j ≡ Some y)
in_reverse [] i y e = absurd (cc)
in_reverse (x ∷ xs) i y e = ⊎_elim
    (λ (h : slice_get (reverse xs) i ≡ Some y). let at = in_reverse xs i y h in (suc at.0, at.1))
    (λ (h : x ≡ y). (0, ap Some h))
    (in_more (reverse xs) x i y (ap (λ ys. slice_get ys i) (sym (reverse-append (x ∷ []) xs)) ∙ e))

-- The points so far

in_dropped : {A : Type 0} (xs : List A) (i k : ℕ) (x : A) → slice_get (drop i xs) k ≡ Some x → (j : ℕ) × (slice_get xs j ≡ Some x)
in_dropped [] zero k x e = (k, e)
in_dropped [] (suc i) k x e = absurd (cc)
in_dropped (y ∷ xs) zero k x e = (k, e)
in_dropped (y ∷ xs) (suc i) k x e = let at = in_dropped xs i k x e in (suc at.0, at.1)

in_left : (points left : List Point) (i k : ℕ) (q : Point) → reverse left ≡ drop i points → slice_get left k ≡ Some q
    → (j : ℕ) × (slice_get points j ≡ Some q)
in_left points left i k q e there =
    let turned : reverse (drop i points) ≡ left = ap reverse (sym e) ∙ reverse-reverse left in
    let at = in_reverse (drop i points) k q (ap (λ ps. slice_get ps k) turned ∙ there) in
    in_dropped points i at.0 q at.1

-- what those say that are left, all say
left_tell : (points left : List Point) (i : ℕ) (p : Point) → reverse left ≡ drop i points → IsWhollyTold left p → IsWhollyTold points p
left_tell points left i p e told l c low high first last =
    let by = told l c low high first last in
    let at = in_left points left i by.number by.point e by.there in
    record {
      number = at.0;
      point = by.point;
      count = by.count;
      there = at.1;
      box = by.box;
      same = by.same;
    }

-- none yet
pub none_replaced : (points : List Point) (r : Replacing) → r.left.items ≡ reverse points → r.joined.items ≡ [] → AreSoFar points 0 r
none_replaced points r left none = record {
  left = ap reverse left ∙ reverse-reverse points;
  told = λ j p less there. absurd (omega arith);
  only = λ id p there. absurd (let past : Some p ≡ None = sym there ∙ ap (λ ps. slice_get ps id) none in cc past);
}

-- a box more
pub box_put : (points : List Point) (i : ℕ) (r r' : Replacing) (box : Point) → IsWhollyTold r.left.items box
    → r'.joined.items ≡ r.joined.items ++ box ∷ [] → r'.left.items ≡ r.left.items → AreSoFar points i r → AreSoFar points i r'
box_put points i r r' box told pushed left a =
    let put : IsPut r.joined.items r'.joined.items box = record { next = box.next.items; is = pushed } in
    record {
      left = ap reverse left ∙ a.left;
      told = λ j p less there. put_kept r.joined.items r'.joined.items box p put (a.told j p less there);
      only = put_only r.joined.items r'.joined.items points box put a.only (left_tell points r.left.items i box a.left told);
    }

-- the next point is said
next_told : (points left left' joined joined' : List Point) (i : ℕ) (p : Point) → reverse left ≡ drop i points → left ≡ left' ++ p ∷ []
    → ((j : ℕ) (q : Point) → j < i → slice_get points j ≡ Some q → IsWhollyTold joined q)
    → ((q : Point) → IsWhollyTold joined q → IsWhollyTold joined' q) → IsWhollyTold joined' p
    → (j : ℕ) (q : Point) → j < i + 1 → slice_get points j ≡ Some q → IsWhollyTold joined' q
next_told points left left' joined joined' i p e taken told kept new j q less there = ⊎_elim
    (λ (same : j ≡ i).
    let next = next_taken points left left' i p e taken in
    let is : Some p ≡ Some q = sym next.0 ∙ (ap (slice_get points) (sym same) ∙ there) in
    subst (IsWhollyTold joined') (one_of p q is) new)
    (λ (other : j ≢ i). kept q (told j q (omega arith) there))
    (cases_eq j i)
  where
    one_of : (a b : Point) → Some a ≡ Some b → a ≡ b
    one_of a b same = cc

pub point_kept : (points : List Point) (i : ℕ) (r r' : Replacing) (p : Point) → r.left.items ≡ r'.left.items ++ p ∷ []
    → IsPut r.joined.items r'.joined.items p → AreSoFar points i r → AreSoFar points (i + 1) r'
point_kept points i r r' p taken put a =
    let next = next_taken points r.left.items r'.left.items i p a.left taken in
    record {
      left = next.1;
      told = next_told points r.left.items r'.left.items r.joined.items r'.joined.items i p a.left taken a.told
          (λ q. put_kept r.joined.items r'.joined.items p q put) (put_told r.joined.items r'.joined.items p put);
      only = put_only r.joined.items r'.joined.items points p put a.only (wholly_itself points i p next.0);
    }

pub point_let_go : (points : List Point) (i : ℕ) (r r' : Replacing) (p : Point) → r.left.items ≡ r'.left.items ++ p ∷ []
    → r'.joined.items ≡ r.joined.items → IsWhollyTold r'.joined.items p → AreSoFar points i r → AreSoFar points (i + 1) r'
point_let_go points i r r' p taken joined told a =
    let next = next_taken points r.left.items r'.left.items i p a.left taken in
    record {
      left = next.1;
      told = next_told points r.left.items r'.left.items r.joined.items r'.joined.items i p a.left taken a.told
          (λ q. subst (λ ps. IsWhollyTold ps q) (sym joined)) told;
      only = subst (λ ps. AreTold ps points) (sym joined) a.only;
    }

-- a box begins that isn't put
pub box_left_out : (points : List Point) (i : ℕ) (r r' : Replacing) → r'.joined.items ≡ r.joined.items → r'.left.items ≡ r.left.items
    → AreSoFar points i r → AreSoFar points i r'
box_left_out points i r r' joined left a = record {
  left = ap reverse left ∙ a.left;
  told = λ j p less there. subst (λ ps. IsWhollyTold ps p) (sym joined) (a.told j p less there);
  only = subst (λ ps. AreTold ps points) (sym joined) a.only;
}

none_past : {A : Type 0} (xs : List A) (i : ℕ) → [] ≡ drop i xs → [] ≡ drop (suc i) xs
none_past [] i e = refl
none_past (y ∷ xs) zero e = absurd (cc)
none_past (y ∷ xs) (suc i) e = none_past xs i e

-- none of the points is left
pub none_left : (points : List Point) (i : ℕ) (r r' : Replacing) → r.left.items ≡ [] → r.left.items ≡ r'.left.items ++ []
    → r'.joined.items ≡ r.joined.items → AreSoFar points i r → AreSoFar points (i + 1) r'
none_left points i r r' none left joined a =
    let over : [] ≡ drop i points = ap reverse (sym none) ∙ a.left in
    let past = none_dropped points i over in
    let empty : r'.left.items ≡ [] = sym (append-nil r'.left.items) ∙ (sym left ∙ none) in
    let one : suc i ≡ i + 1 = omega arith in
    record {
      left = ap reverse empty ∙ (none_past points i over ∙ ap (λ n. drop n points) one);
      told = λ j p less there. subst (λ ps. IsWhollyTold ps p) (sym joined)
          (a.told j p (let within = slice_get_within points j p there in omega arith) there);
      only = subst (λ ps. AreTold ps points) (sym joined) a.only;
    }

-- all points have been passed
pub all_passed : (points : List Point) (i : ℕ) (r : Replacing) → length points ≤ i → AreSoFar points i r → SameInstances points r.joined.items
all_passed points i r all a = record {
  all = λ id p there. a.told id p (let within = slice_get_within points id p there in omega arith) there;
  only = a.only;
}

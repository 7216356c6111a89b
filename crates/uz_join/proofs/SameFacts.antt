-- Points whose facts say the same have the same instance.
use Rattle.uz_join.proofs.Common.{◌≡◌, ◌∙◌, ap, sym, arith, refl, ℕ, suc, ◌+◌, ◌<◌, ◌≤◌, List, [], ◌∷◌, length, map, get_or, if◌then◌else◌}
use Rattle.uz_join.proofs.Common.{true, false, leb, Bool, ◌&&◌, Some, None, option_and_then, slice_get, le-leb, leb-true, pointwise}
use Rattle.uz_join.proofs.Common.{cell_span, clock_below, instance_of, is_in_box, pairs_of, span_of_val, val_of, Fact, PairFact, Val}
use Rattle.uz_join.proofs.Common.{Instance, Point, AreTold, IsWhollyTold, SameAt, SameInstances, SamePlace}
use Rattle.uz_schedule.specs.Schedule.{length_of, level_at, start_of}
use Rattle.uz_join.proofs.EqualLists.{equal_facts}
use Rattle.uz_schedule.specs.Exact as exact
use Rattle.uz_schedule.specs.contracts.facts.PairFactPartialEq as facts

-- lists whose elements are made the same are made the same
pub map_same : {A B : Type 0} (f g : A → B) (xs ys : List A) → length xs ≡ length ys
    → ((k : ℕ) (d : A) → k < length xs → f (get_or xs k d) ≡ g (get_or ys k d)) → map f xs ≡ map g ys
map_same f g [] [] e each = refl
map_same f g [] (y ∷ ys) e each = absurd (omega (arith, e))
map_same f g (x ∷ xs) [] e each = absurd (omega (arith, e))
map_same f g (x ∷ xs) (y ∷ ys) e each =
    let here : f x ≡ g y = each 0 x (omega arith) in
    let rest : map f xs ≡ map g ys = map_same f g xs ys (omega (arith, e)) (λ k d less. each (suc k) d (omega (arith, less))) in
    λ i. here i ∷ rest i

spans : (l c : ℕ) (fs : List Fact) → map (cell_span l c) fs ≡ map span_of_val (map (val_of l c) fs)
spans l c [] = refl
spans l c (f ∷ fs) = λ i. cell_span l c f ∷ spans l c fs i

-- the ranges of cells are the same where their values are
pub same_spans : (l c d : ℕ) (fs gs : List Fact) → map (val_of l c) fs ≡ map (val_of l d) gs → map (cell_span l c) fs ≡ map (cell_span l d) gs
same_spans l c d fs gs same = spans l c fs ∙ (ap (map span_of_val) same ∙ sym (spans l d gs))

-- and pairs, where they are said at both counts alike
pub same_pairs : (c d : ℕ) (fs gs : List PairFact) → pointwise (facts.TheImpl.eq-value).it fs gs ≡ true
    → ((l : ℕ) (vals : List Val) → pairs_of l c vals fs ≡ pairs_of l d vals fs)
    → (l : ℕ) (x y : List Val) → x ≡ y → pairs_of l c x fs ≡ pairs_of l d y gs
same_pairs c d fs gs equal keep l x y regs = let same = equal_facts fs gs equal in keep l x ∙ (λ i. pairs_of l d (regs i) (same i))

-- an instance is all that is said of it
pub one : (a b : Instance) → exact.SamePlace a b → exact.SameKnown a b → a ≡ b
one a b place known = exact.same_instance a b place known

pub same_instance : (p q : Point) (l c d : ℕ) → SamePlace p q l c d → instance_of p l c 0 0 ≡ instance_of q l d 0 0 → SameAt p q l c d
same_instance p q l c d place same s =
    let box : is_in_box p l c ≡ is_in_box q l d = place.in_one ∙ sym place.in_other in
    λ i.
    if box i then option_and_then (λ k. option_and_then (λ level. Some (record (same i) { clock = k; level = level }))
    (level_at s (start_of s l + k))) (clock_below (length_of s l) (place.clock i)) else None

-- Boxes

pub box_holds : (p : Point) (l c : ℕ) → p.l0 ≤ l → l ≤ p.l1 → p.c0 ≤ c → c ≤ p.c1 → is_in_box p l c ≡ true
box_holds p l c low high first last = rw (le-leb p.l0 l low, le-leb l p.l1 high, le-leb p.c0 c first, le-leb c p.c1 last) refl

both : (a b : Bool) → (a && b) ≡ true → (a ≡ true) × (b ≡ true)
both true b e = (refl, e)
both false b e = absurd cc

box_tells : (p : Point) (l c : ℕ) → is_in_box p l c ≡ true → (p.l0 ≤ l) × (l ≤ p.l1) × (p.c0 ≤ c) × (c ≤ p.c1)
box_tells p l c e =
    let parts = both (leb p.l0 l && leb l p.l1) (leb p.c0 c && leb c p.c1) e in
    let lines = both (leb p.l0 l) (leb l p.l1) parts.0 in
    let counts = both (leb p.c0 c) (leb c p.c1) parts.1 in
    (leb-true p.l0 l lines.0, leb-true l p.l1 lines.1, leb-true p.c0 c counts.0, leb-true c p.c1 counts.1)

-- Points say what they say

pub wholly_itself : (ps : List Point) (id : ℕ) (p : Point) → slice_get ps id ≡ Some p → IsWhollyTold ps p
wholly_itself ps id p there l c low high first last = record {
  number = id;
  point = p;
  count = c;
  there = there;
  box = box_holds p l c low high first last;
  same = λ s. refl;
}

pub same_as_itself : (ps : List Point) → SameInstances ps ps
same_as_itself ps = record { all = wholly_itself ps; only = wholly_itself ps }

-- and what those say that say what they say

pub wholly_through : (xs ys : List Point) (p : Point) → AreTold xs ys → IsWhollyTold xs p → IsWhollyTold ys p
wholly_through xs ys p all told l c low high first last =
    let by = told l c low high first last in
    let box = box_tells by.point l by.count by.box in
    let other = all by.number by.point by.there l by.count box.0 box.1 box.2 box.3 in
    record {
      number = other.number;
      point = other.point;
      count = other.count;
      there = other.there;
      box = other.box;
      same = λ s. by.same s ∙ other.same s;
    }

pub same_through : (xs ys zs : List Point) → SameInstances xs ys → SameInstances ys zs → SameInstances xs zs
same_through xs ys zs a b = record {
  all = λ id p there. wholly_through ys zs p b.all (a.all id p there);
  only = λ id p there. wholly_through ys xs p a.only (b.only id p there);
}

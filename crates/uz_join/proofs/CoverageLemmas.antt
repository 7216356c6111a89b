-- Points that say what instances say.
use Rattle.uz_join.proofs.Common.{◌≡◌, ◌∙◌, ap, sym, subst, arith, refl, ℕ, zero, suc, ◌+◌, ◌<◌, ◌≤◌, ◌++◌, List, [], ◌∷◌, length, map}
use Rattle.uz_join.proofs.Common.{get_or, ◌≢◌, ⊎_elim, Some, slice_get, cases_eq, instance_of, Instance, Point, AreSaid, AreSaidBack}
use Rattle.uz_join.proofs.Common.{IsOnLine, IsSaid, IsSaidBack, SaidAt, SaidBy, SaidPlace, SaysInstances}

-- a list whose elements are made of another one's
pub map_is : {A B : Type 0} (f : A → B) (xs : List A) (ys : List B) → length xs ≡ length ys
    → ((k : ℕ) (d : A) (e : B) → k < length xs → f (get_or xs k d) ≡ get_or ys k e) → map f xs ≡ ys
map_is f [] [] e each = refl
map_is f [] (y ∷ ys) e each = absurd (omega (arith, e))
map_is f (x ∷ xs) [] e each = absurd (omega (arith, e))
map_is f (x ∷ xs) (y ∷ ys) e each =
    let here : f x ≡ y = each 0 x y (omega arith) in
    let rest : map f xs ≡ ys = map_is f xs ys (omega (arith, e)) (λ k d z less. each (suc k) d z (omega (arith, less))) in
    λ i. here i ∷ rest i

pub said : (q : Point) (l c : ℕ) (x : Instance) → SaidPlace q l c x → x ≡ instance_of q l c x.clock x.level → IsSaid q l c x
said q l c x place is = record { box = place.box; line = place.place.0; clock = place.place.1; is = is }

one_of : {A : Type 0} (a b : A) → Some a ≡ Some b → a ≡ b
one_of a b e = cc

pub front : {A : Type 0} (xs ys : List A) (i : ℕ) (x : A) → slice_get xs i ≡ Some x → slice_get (xs ++ ys) i ≡ Some x
front [] ys i x at = cc
front (z ∷ xs) ys zero x at = at
front (z ∷ xs) ys (suc i) x at = front xs ys i x at

pub last_of : {A : Type 0} (xs : List A) (z : A) → slice_get (xs ++ z ∷ []) (length xs) ≡ Some z
last_of [] z = refl
last_of (x ∷ xs) z = last_of xs z

-- one more instance
pub said_more : (points : List Point) (numbers counts more : List ℕ) (nodes : List Instance) (i n c : ℕ) (y : Instance)
    → more ≡ counts ++ c ∷ [] → length counts ≡ i → slice_get nodes i ≡ Some y → slice_get numbers i ≡ Some n → SaidAt points n c y
    → ((j : ℕ) (x : Instance) → j < i → slice_get nodes j ≡ Some x → SaidBy points numbers counts j x)
    → (j : ℕ) (x : Instance) → j < i + 1 → slice_get nodes j ≡ Some x → SaidBy points numbers more j x
said_more points numbers counts more nodes i n c y pushed size there numbered at before j x less here = ⊎_elim
    (λ (same : j ≡ i).
    let is : y ≡ x = one_of y x (sym there ∙ (ap (slice_get nodes) (sym same) ∙ here)) in
    record {
      number = n;
      count = c;
      numbered = ap (slice_get numbers) same ∙ numbered;
      counted = ap (λ l. slice_get l j) pushed ∙ (ap (slice_get (counts ++ c ∷ [])) (same ∙ sym size) ∙ last_of counts c);
      said = subst (SaidAt points n c) is at;
    })
    (λ (other : j ≢ i).
    let by = before j x (omega arith) here in
    record {
      number = by.number;
      count = by.count;
      numbered = by.numbered;
      counted = ap (λ l. slice_get l j) pushed ∙ front counts (c ∷ []) j by.count by.counted;
      said = by.said;
    })
    (cases_eq j i)

-- at this place are the number of a point, a count and an instance on this line
pub record IsNoted (numbers counts : List ℕ) (nodes : List Instance) (i n l c : ℕ) : Type 0 where
  pub numbered : slice_get numbers i ≡ Some n
  pub counted : slice_get counts i ≡ Some c
  pub on : IsOnLine nodes i l

-- the instance that is noted for a point's line and count
pub said_back : {points : List Point} {numbers counts : List ℕ} {nodes : List Instance} {i number line count : ℕ} {q : Point}
    → AreSaid points numbers counts nodes → slice_get points number ≡ Some q → IsNoted numbers counts nodes i number line count
    → IsSaidBack nodes q line count
said_back {points} {numbers} {counts} {nodes} {i} {number} {line} {count} {q} said at noted =
    let on = noted.on in
    let by = said i on.instance on.there in
    let number_is : by.number ≡ number = one_of by.number number (sym by.numbered ∙ noted.numbered) in
    let count_is : by.count ≡ count = one_of by.count count (sym by.counted ∙ noted.counted) in
    let point_is : by.said.point ≡ q =
    one_of by.said.point q (sym by.said.there ∙ (ap (slice_get points) number_is ∙ at)) in
    record {
      place = i;
      instance = on.instance;
      there = on.there;
      said = subst (λ p. IsSaid p line count on.instance) point_is
          (subst (λ k. IsSaid by.said.point line k on.instance) count_is
          (subst (λ l. IsSaid by.said.point l by.count on.instance) on.line by.said.said));
    }

-- one more count
pub one_more_count : (P : ℕ → Type 0) (c0 n : ℕ) → ((j : ℕ) → c0 ≤ j → j < n → P j) → P n → (j : ℕ) → c0 ≤ j → j < n + 1 → P j
one_more_count P c0 n before now j first less = ⊎_elim
    (λ (same : j ≡ n). subst P (sym same) now)
    (λ (other : j ≢ n). before j first (omega arith))
    (cases_eq j n)

-- one more line
pub one_more_line : (P : ℕ → ℕ → Type 0) (l0 c0 c1 n : ℕ) → ((j c : ℕ) → l0 ≤ j → j < n → c0 ≤ c → c ≤ c1 → P j c)
    → ((c : ℕ) → c0 ≤ c → c ≤ c1 → P n c) → (j c : ℕ) → l0 ≤ j → j < n + 1 → c0 ≤ c → c ≤ c1 → P j c
one_more_line P l0 c0 c1 n before now j c low less first last = ⊎_elim
    (λ (same : j ≡ n). subst (λ k. P k c) (sym same) (now c first last))
    (λ (other : j ≢ n). before j c low (omega arith) first last)
    (cases_eq j n)

pub says_all : (points : List Point) (numbers counts : List ℕ) (nodes : List Instance) → AreSaid points numbers counts nodes
    → AreSaidBack nodes points → SaysInstances nodes points
says_all points numbers counts nodes said back = record {
  all = λ i x there. let by = said i x there in (by.number, by.count, by.said);
  only = back;
}

-- Points that are made of instances one by one, from the first one on.
use Rattle.std.proofs.Common.{◌≡◌, ◌≢◌, ◌∙◌, sym, ap, arith, inl, inr, ⊎_elim, ℕ, zero, suc, ◌+◌, ◌<◌, ◌≤◌, List, [], ◌∷◌, ◌++◌, length}
use Rattle.std.proofs.Common.{length-append, take, drop, subst, reverse}
use Rattle.std.specs.Prelude.{Some, slice_get, ◌⊎◌}
use borrow.Author.Count.{below_more}
use Rattle.std.proofs.lemmas.Bool.{cases_eq}
use Rattle.std.proofs.lemmas.List.{length-drop, length-reverse, reverse-reverse, take_all, take_at}
use Rattle.std.proofs.lemmas.Option.{slice_get_within, same_Some}
use Rattle.uz_schedule.specs.Lines.{Lines}
use Rattle.uz_schedule.specs.Schedule.{response_clocks}
use Rattle.uz_schedule.specs.declared.lines.Schedule.{Schedule}
use Rattle.uz_schedule.specs.declared.states.Instance.{Instance}
use Rattle.uz_schedule.specs.declared.states.Point.{Point}
use Rattle.uz_schedule.specs.declared.states.Rest.{Rest}
use Rattle.uz_search.specs.declared.program.Program.{Program}
use Rattle.uz_search.specs.Following.{Flash, order_of_program}
use Rattle.uz_paths.specs.declared.lists.Lists.{Lists}
use Rattle.uz_paths.specs.Linked.{ArePointed, IsPointAt, SuccessorsFit, NodesLead, LeadsToResults}
use Rattle.uz_paths.specs.Linked.{VectorsLead}
use Rattle.uz_paths.specs.Lists.{HasListAt, IsListAt}
use Rattle.uz_paths.specs.Numbers.{AreNumbers, IsVectorOf}
use Rattle.uz_paths.specs.Plan.{AreLinks, AreMade, HavePoints, IsLinkAt, IsPlan}
use Rattle.uz_join.specs.Points.{IsOrdered, point_of}
use Rattle.uz_join.proofs.TakenLemmas.{next_taken}
use Rattle.uz_paths.proofs.LinkLemmas.{own_passed}
use Rattle.uz_paths.proofs.NumberLemmas.{at_more, keeps, last_there, more_vector, more_own, none_numbered, same_count}

-- Lists of names

-- one more list
pub links_more : (image : Flash) (p : Program) (vectors : ℕ) (nodes : List Instance) (numbers : List ℕ) (count i n : ℕ) (x : Instance)
    (list : List ℕ) (old new : Lists) → slice_get nodes i ≡ Some x → slice_get numbers i ≡ Some n → SuccessorsFit count list
    → (vectors ≤ n → LeadsToResults image p nodes numbers x list) → IsListAt new i list
    → ((j : ℕ) (there : List ℕ) → IsListAt old j there → IsListAt new j there)
    → AreLinks image p vectors nodes numbers count old i → AreLinks image p vectors nodes numbers count new (i + 1)
links_more image p vectors nodes numbers count i n x list old new at number fits names there kept before =
    below_more (λ j. IsLinkAt image p vectors nodes numbers count new j) i
    (λ j less. let link = before j less in record {
      list = link.list;
      there = kept j link.list link.there;
      fits = link.fits;
      names = link.names;
    })
    (record {
      list = list;
      there = there;
      fits = fits;
      names = λ m y node of low.
          let one : n ≡ m = same_Some n m (sym number ∙ of) in
          let same : x ≡ y = same_Some x y (sym at ∙ node) in
          subst (λ z. LeadsToResults image p nodes numbers z list) same (names (omega arith));
    })

-- A list that was written from its begin to its end

pub written : {A : Type 0} (old new : List A) (n : ℕ) → length new ≡ n → take n (new ++ drop (length new) old) ≡ new
written old new n e = take_at new (drop (length new) old) n e

-- Instances in their order

taken : {A : Type 0} (xs : List A) (i : ℕ) (x : A) → slice_get xs i ≡ Some x → take (suc i) xs ≡ take i xs ++ x ∷ []
taken [] i x e = absurd (cc)
taken (y ∷ xs) zero x e = cc
taken (y ∷ xs) (suc i) x e = ap (λ ys. y ∷ ys) (taken xs i x e)

take_more : {A : Type 0} (xs : List A) (i : ℕ) (x : A) → slice_get xs i ≡ Some x → take (i + 1) xs ≡ take i xs ++ x ∷ []
take_more xs i x e =
    let one : i + 1 ≡ suc i = omega arith in
    ap (λ n. take n xs) one ∙ taken xs i x e

-- One more point

made_vector : (response : ℕ) (lines : Lines) (rests : List Rest) (ns : List Instance) (of : List ℕ) (total k : ℕ) (x : Instance)
    (points : List Point)
    → length of ≡ length ns → k < length rests → AreMade response lines rests ns of total points → AreMade response lines rests
    (ns ++ x ∷ []) (of ++ k ∷ []) total points
made_vector response lines rests ns of total k x points same less a = record {
  vectors = a.vectors;
  own = λ i n y node number low. own_cases i n y low (at_more ns x y i node) (at_more of k n i number);
  names = a.names;
}
  where
    own_cases : (i n : ℕ) (y : Instance) → length rests ≤ n → (slice_get ns i ≡ Some y) ⊎ ((i ≡ length ns) × (x ≡ y))
        → (slice_get of i ≡ Some n) ⊎ ((i ≡ length of) × (k ≡ n)) → IsPointAt points n y
    own_cases i n y low (inl h) (inl g) = a.own i n y h g low
    own_cases i n y low (inl h) (inr g) = let e = g.1 in absurd (omega arith)
    own_cases i n y low (inr h) (inl g) = let within = slice_get_within of i n g in let e = h.0 in absurd (omega arith)
    own_cases i n y low (inr h) (inr g) = let e = g.1 in absurd (omega arith)

made_own : (response : ℕ) (lines : Lines) (rests : List Rest) (ns : List Instance) (of : List ℕ) (total n : ℕ) (x : Instance)
    (next : List ℕ) (points : List Point)
    → length of ≡ length ns → n ≡ length points → IsOrdered x → SuccessorsFit total next → AreMade response lines rests ns of total points
    → AreMade response lines rests (ns ++ x ∷ []) (of ++ n ∷ []) total (points ++ point_of x next ∷ [])
made_own response lines rests ns of total n x next points same place ordered fits a = record {
  vectors = λ k rest at. let v = a.vectors k rest at in record {
    next = v.next;
    is = keeps points (point_of x next) _ k v.is;
    ordered = v.ordered;
  };
  own = λ i m y node number low. own_cases i m y low (at_more ns x y i node) (at_more of n m i number);
  names = λ k point at. ⊎_elim
      (λ h. a.names k point h)
      (λ h. subst (λ (z : Point). SuccessorsFit total z.next.items) h.1 fits)
      (at_more points (point_of x next) point k at);
}
  where
    own_cases : (i m : ℕ) (y : Instance) → length rests ≤ m → (slice_get ns i ≡ Some y) ⊎ ((i ≡ length ns) × (x ≡ y))
        → (slice_get of i ≡ Some m) ⊎ ((i ≡ length of) × (n ≡ m)) → IsPointAt (points ++ point_of x next ∷ []) m y
    own_cases i m y low (inl h) (inl g) = let v = a.own i m y h g low in record {
      next = v.next;
      is = keeps points (point_of x next) _ m v.is;
      ordered = v.ordered;
    }
    own_cases i m y low (inl h) (inr g) = let within = slice_get_within ns i y h in let e = g.0 in absurd (omega arith)
    own_cases i m y low (inr h) (inl g) = let within = slice_get_within of i m g in let e = h.0 in absurd (omega arith)
    own_cases i m y low (inr h) (inr g) = record {
      next = next;
      is = ap (slice_get (points ++ point_of x next ∷ [])) (sym g.1 ∙ place)
          ∙ (last_there points (point_of x next) ∙ ap (λ z. Some (point_of z next)) h.1);
      ordered = subst IsOrdered h.1 ordered;
    }

-- the vectors name what they named
vectors_still_lead : (image : Flash) (p : Program) (s : Schedule) (rests : List Rest) (nodes : List Instance) (numbers : List ℕ)
    (points : List Point) (new : Point) → length rests ≤ length points
    → VectorsLead image p s rests nodes numbers (length rests) points → VectorsLead image p s rests nodes numbers (length rests)
    (points ++ new ∷ [])
vectors_still_lead image p s rests nodes numbers points new low before k rest point less there is = ⊎_elim
    (λ h. before k rest point less there h)
    (λ h. let same = h.0 in absurd (omega arith))
    (at_more points new point k is)

-- and one more instance's point names its results
nodes_lead : (image : Flash) (p : Program) (response : ℕ) (lines : Lines) (rests : List Rest) (nodes : List Instance) (numbers : List ℕ)
    (count i n : ℕ) (next : List ℕ) (points : List Point) (x : Instance)
    → AreNumbers response lines rests nodes numbers count → slice_get nodes i ≡ Some x → slice_get numbers i ≡ Some n → n ≡ length points
    → NodesLead image p (length rests) nodes numbers i points → LeadsToResults image p nodes numbers x next
    → NodesLead image p (length rests) nodes numbers (i + 1) (points ++ point_of x next ∷ [])
nodes_lead image p response lines rests nodes numbers count i n next points x are at number place before names j m y point less there is
    above point_is = ⊎_elim
    (λ h. before j m y point (earlier h) there is above h)
    (λ h.
    let one : j ≡ i = are.apart j i m above is (number ∙ ap Some (place ∙ sym h.0)) in
    let same : x ≡ y = same_Some x y (sym at ∙ (ap (slice_get nodes) (sym one) ∙ there)) in
    subst (λ (z : Point). LeadsToResults image p nodes numbers y z.next.items) h.1
    (subst (λ z. LeadsToResults image p nodes numbers z next) same names))
    (at_more points (point_of x next) point m point_is)
  where
    earlier : slice_get points m ≡ Some point → j < i
    earlier h =
        let within = slice_get_within points m point h in
        ⊎_elim
        (λ (same : j ≡ i). let e = same_Some n m (sym number ∙ (ap (slice_get numbers) (sym same) ∙ is)) in absurd (omega arith))
        (λ (apart : j ≢ i). omega arith)
        (cases_eq j i)

-- The points so far

-- the points of the vectors and of so many instances; the others are still to come
pub record AreSoFar (image : Flash) (p : Program) (s : Schedule) (rests : List Rest) (nodes : List Instance) (numbers : List ℕ)
    (count i : ℕ) (left : List Instance) (points : List Point) : Type 0 where
  pub left_are : reverse left ≡ drop i nodes
  pub numbered : AreNumbers (response_clocks p.head.irq) (order_of_program p) rests (take i nodes) (take i numbers) (length points)
  pub made : AreMade (response_clocks p.head.irq) (order_of_program p) rests (take i nodes) (take i numbers) count points
  pub vectors : VectorsLead image p s rests nodes numbers (length rests) points
  pub own : NodesLead image p (length rests) nodes numbers i points

-- an instance is left
pub some_left : (nodes : List Instance) (numbers : List ℕ) (left : List Instance) (i : ℕ) → length numbers ≡ length nodes
    → i < length numbers → reverse left ≡ drop i nodes → 0 < length left
some_left nodes numbers left i same less are =
    let long = ap length are in let back = length-reverse left in let some = length-drop i nodes in omega arith

-- there is a list for each instance
pub link_there : (image : Flash) (p : Program) (s : Schedule) (rests : List Rest) (nodes : List Instance) (numbers : List ℕ) (count : ℕ)
    (links : Lists) (points : List Point) (i : ℕ) → IsPlan image p s rests nodes numbers count links points → i < length nodes
    → HasListAt links i
link_there image p s rests nodes numbers count links points i plan less =
    let link = plan.linked i less in record { list = link.list; there = link.there; few = link.fits.few }

module _ (image : Flash) (p : Program) (s : Schedule) (rests : List Rest) (nodes : List Instance) (numbers : List ℕ) (count : ℕ)
    (links : Lists) (first : List Point) (plan : IsPlan image p s rests nodes numbers count links first) where
  abbrev response : ℕ
  response = response_clocks p.head.irq

  abbrev lines : Lines
  lines = order_of_program p

  abbrev pub SoFar : ℕ → List Instance → List Point → Type 0
  SoFar = AreSoFar image p s rests nodes numbers count

  -- one instance more is taken, and its number
  one_more : (P : List Instance → List ℕ → Type 0) (i n : ℕ) (x : Instance) → slice_get nodes i ≡ Some x → slice_get numbers i ≡ Some n
      → P (take i nodes ++ x ∷ []) (take i numbers ++ n ∷ []) → P (take (i + 1) nodes) (take (i + 1) numbers)
  one_more P i n x node number h =
      subst (λ ns. P ns (take (i + 1) numbers)) (sym (take_more nodes i x node))
      (subst (P (take i nodes ++ x ∷ [])) (sym (take_more numbers i n number)) h)

  -- all are taken
  all_of : (P : List Instance → List ℕ → Type 0) (i : ℕ) → length numbers ≤ i → P (take i nodes) (take i numbers) → P nodes numbers
  all_of P i past h =
      let same = plan.numbered.lengths in
      subst (λ ns. P ns numbers) (take_all i nodes (omega arith)) (subst (P (take i nodes)) (take_all i numbers past) h)

  -- none yet
  pub none_made : (left : List Instance) → left ≡ reverse nodes → SoFar 0 left first
  none_made left e = record {
    left_are = ap reverse e ∙ reverse-reverse nodes;
    numbered = subst (AreNumbers response lines rests [] []) (sym plan.size) (none_numbered response lines rests);
    made = plan.made;
    vectors = plan.named;
    own = λ i n x point less at number low there. absurd (omega arith);
  }

  -- an instance that is a vector's
  pub vector_passed : (i n : ℕ) (points points' : List Point) (left left' : List Instance) (x : Instance) → SoFar i left points
      → left ≡ left' ++ x ∷ [] → slice_get numbers i ≡ Some n → n < length rests → points' ≡ points → SoFar (i + 1) left' points'
  vector_passed i n points points' left left' x a e number low f = subst (SoFar (i + 1) left') (sym f) (
      let next = next_taken nodes left left' i x a.left_are e in
      let vector : IsVectorOf response lines rests n x = ⊎_elim
      (λ (v : IsVectorOf response lines rests n x). v)
      (λ h. let high = h.1 in absurd (omega arith))
      (plan.numbered.each i n x next.0 number) in
      record {
        left_are = next.1;
        numbered = one_more (λ ns ms. AreNumbers response lines rests ns ms (length points)) i n x next.0 number
            (more_vector response lines rests (take i nodes) (take i numbers) (length points) n x a.numbered vector);
        made = one_more (λ ns ms. AreMade response lines rests ns ms count points) i n x next.0 number
            (made_vector response lines rests (take i nodes) (take i numbers) count n x points a.numbered.lengths low a.made);
        vectors = a.vectors;
        own = own_passed image p rests nodes numbers i n points number low a.own;
      })

  -- an instance that has a point of its own
  pub own_put : (i n : ℕ) (points points' : List Point) (left left' : List Instance) (x : Instance) → SoFar i left points
      → left ≡ left' ++ x ∷ [] → slice_get numbers i ≡ Some n → length rests ≤ n → IsOrdered x
      → ((list : List ℕ) → IsListAt links i list → points' ≡ points ++ point_of x list ∷ []) → SoFar (i + 1) left' points'
  own_put i n points points' left left' x a e number low ordered f =
      let next = next_taken nodes left left' i x a.left_are e in
      let link = plan.linked i (slice_get_within nodes i x next.0) in
      let more : List Point = points ++ point_of x link.list ∷ [] in
      let place : n ≡ length points = same_count response lines rests (take i nodes) (take i numbers) n (length points)
      (plan.counted i n number low) a.numbered in
      let none : (k : ℕ) → IsVectorOf response lines rests k x → ⊥ = ⊎_elim
      (λ (v : IsVectorOf response lines rests n x). absurd (let less = slice_get_within rests n v.rest v.there in omega arith))
      (λ h. h.0)
      (plan.numbered.each i n x next.0 number) in
      subst (SoFar (i + 1) left') (sym (f link.list link.there)) (record {
        left_are = next.1;
        numbered = one_more (λ ns ms. AreNumbers response lines rests ns ms (length more)) i n x next.0 number
            (subst (λ m. AreNumbers response lines rests (take i nodes ++ x ∷ []) (take i numbers ++ m ∷ []) (length more)) (sym place)
            (subst (AreNumbers response lines rests (take i nodes ++ x ∷ []) (take i numbers ++ length points ∷ []))
            (sym (length-append points (point_of x link.list ∷ [])))
            (more_own response lines rests (take i nodes) (take i numbers) (length points) x a.numbered none)));
        made = one_more (λ ns ms. AreMade response lines rests ns ms count more) i n x next.0 number
            (made_own response lines rests (take i nodes) (take i numbers) count n x link.list points a.numbered.lengths place ordered
            link.fits a.made);
        vectors = vectors_still_lead image p s rests nodes numbers points (point_of x link.list) a.numbered.some a.vectors;
        own = nodes_lead image p response lines rests nodes numbers count i n link.list points x plan.numbered next.0 number place a.own
            (link.names n x next.0 number low);
      })

  -- all points
  pub have_points : (i : ℕ) (points : List Point) (left : List Instance) → SoFar i left points → length numbers ≤ i
      → HavePoints image p s rests nodes numbers count points
  have_points i points left a past =
      let numbered = all_of (λ ns ms. AreNumbers response lines rests ns ms (length points)) i past a.numbered in
      let made = all_of (λ ns ms. AreMade response lines rests ns ms count points) i past a.made in
      record {
        pointed = record {
          numbered = plan.numbered;
          made = record {
            size = same_count response lines rests nodes numbers (length points) count numbered plan.numbered;
            vectors = made.vectors;
            own = made.own;
            names = made.names;
          };
        };
        named = record {
          vectors = a.vectors;
          own = λ j n x point less at number low there.
              let same = plan.numbered.lengths in
              a.own j n x point (omega arith) at number low there;
        };
      }

-- there are as many points as were counted
pub sized : (p : Program) (rests : List Rest) (nodes : List Instance) (numbers : List ℕ) (count : ℕ) (points : List Point)
    → ArePointed p rests nodes numbers count points → ArePointed p rests nodes numbers (length points) points
sized p rests nodes numbers count points a = subst (λ n. ArePointed p rests nodes numbers n points) (sym a.made.size) a

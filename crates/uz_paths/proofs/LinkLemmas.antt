-- Names of successors: one more, and points of which one names more.
use Rattle.std.proofs.Common.{◌≡◌, ◌≢◌, ◌∙◌, sym, ap, refl, arith, inl, inr, ⊎_elim, ℕ, zero, suc, ◌+◌, ◌<◌, ◌≤◌, Bool, true, false, List}
use Rattle.std.proofs.Common.{[], ◌∷◌, ◌++◌, length, length-append, take, set, get_or, add-one, cond, subst}
use Rattle.std.specs.Prelude.{Option, Some, None, slice_get, ◌⊎◌, ◌&&◌, not, nat_eq, nat_lt, nat_le, insert, position, All, if◌then◌else◌}
use Rattle.std.specs.List.{position_or_len}
use Rattle.std.proofs.Math.Seq.{take-suc}
use Rattle.std.proofs.lemmas.Bool.{cases_eq, and_parts}
use Rattle.std.proofs.lemmas.Bool.Decides.{nat_tests}
use Rattle.std.proofs.lemmas.List.Elements.{All-cons, All-nil}
use Rattle.std.proofs.lemmas.List.Edits.{length-insert}
use Rattle.std.proofs.lemmas.List.Sums.{fails_before_first, passes_at_first}
use Rattle.std.proofs.lemmas.Option.{get_or_from_slice_get, slice_get_within, slice_get-get_or, same_Some}
use Rattle.std.proofs.lemmas.List.{take_all, length-take-le}
use Rattle.uz_schedule.specs.Lines.{Lines}
use Rattle.uz_schedule.specs.Limits.{rises_from}
use Rattle.uz_schedule.specs.declared.lines.Schedule.{Schedule}
use Rattle.uz_schedule.specs.declared.states.Instance.{Instance}
use Rattle.uz_schedule.specs.declared.states.Point.{Point}
use Rattle.uz_schedule.specs.declared.states.Rest.{Rest}
use Rattle.uz_search.specs.declared.program.Program.{Program}
use Rattle.uz_schedule.specs.Schedule.{response_clocks}
use Rattle.uz_search.specs.Following.{Among, Flash, order_of_program}
use Rattle.uz_search.specs.Widened.{widened}
use Rattle.uz_paths.specs.Linked.{IsVectorAt, IsPointAt, HasSuccessor, SuccessorsFit, AddsSuccessors, LeadsToResults, LeadsToEntries, VectorsLead, NodesLead}
use Rattle.uz_paths.specs.Linked.{ArePoints, HaveNumbers, Renamed}
use Rattle.uz_paths.specs.Plan.{AreMade}
use Rattle.uz_join.specs.Points.{AreOrdered, point_of, vector_after}
use Rattle.uz_paths.specs.Successors.{count_below, is_number, with_number}
use Rattle.uz_paths.specs.Numbers.{AreNumbers}
use Rattle.uz_paths.proofs.NumberLemmas.{at_more, keeps, last_there, numbers_below}

-- One more name

below_length : (n : ℕ) (ms : List ℕ) → count_below n ms ≤ length ms
below_length n [] = omega arith
below_length n (m ∷ ms) = by_test (nat_lt m n) (below_length n ms)
  where
    by_test : (b : Bool) → count_below n ms ≤ length ms → cond b (suc (count_below n ms)) 0 ≤ suc (length ms)
    by_test true h = omega arith
    by_test false h = omega arith

all_inserted : (count n place : ℕ) (ms : List ℕ) → n < count → All (λ id. id < count) ms → All (λ id. id < count) (insert ms place n)
all_inserted count n zero ms less all = All-cons (λ id. id < count) n ms less all
all_inserted count n (suc place) [] less all = All-cons (λ id. id < count) n [] less all
all_inserted count n (suc place) (m ∷ ms) less all =
    All-cons (λ id. id < count) m (insert ms place n) (all 0 m (omega arith))
    (all_inserted count n place ms less (λ k d within. all (suc k) d (omega arith)))

-- in its place, where it isn't there
rises_inserted : (least n : ℕ) (ms : List ℕ) → rises_from least ms ≡ true → least ≤ n → is_number n (slice_get ms (count_below n ms))
    ≡ false → rises_from least (insert ms (count_below n ms) n) ≡ true
rises_inserted least n [] rise low apart = rises_one least n low
  where
    rises_one : (a b : ℕ) → a ≤ b → (nat_le a b && true) ≡ true
    rises_one a b h = grind (arith, nat_tests)
rises_inserted least n (m ∷ ms) rise low apart = by_test (nat_lt m n) refl apart
    (λ above absent. rises_inserted (m + 1) n ms (and_parts (nat_le least m) (rises_from (m + 1) ms) rise).1 above absent)
  where
    parts : (nat_le least m ≡ true) × (rises_from (m + 1) ms ≡ true)
    parts = and_parts (nat_le least m) (rises_from (m + 1) ms) rise

    first_low : nat_le least n ≡ true
    first_low = grind (arith, nat_tests)

    by_test : (b : Bool) → nat_lt m n ≡ b → is_number n (slice_get (m ∷ ms) (cond b (suc (count_below n ms)) 0)) ≡ false
        → (m + 1 ≤ n → is_number n (slice_get ms (count_below n ms)) ≡ false → rises_from (m + 1) (insert ms (count_below n ms) n) ≡ true)
        → rises_from least (insert (m ∷ ms) (cond b (suc (count_below n ms)) 0) n) ≡ true
    by_test true e absent later =
        let above : m + 1 ≤ n = grind (arith, nat_tests, e) in
        rw parts.0 (later above absent)
    by_test false e absent later =
        let next : nat_le (n + 1) m ≡ true = grind (arith, nat_tests, e, absent) in
        rw (first_low, next) parts.1

-- Names

is_number_there : (n : ℕ) (o : Option ℕ) → is_number n o ≡ true → o ≡ Some n
is_number_there n None e = absurd (cc)
is_number_there n (Some m) e = let same : m ≡ n = grind (arith, nat_tests, e) in ap (λ i. Some i) same

inserted_there : (ms : List ℕ) (p n : ℕ) → p ≤ length ms → slice_get (insert ms p n) p ≡ Some n
inserted_there ms zero n h = refl
inserted_there [] (suc p) n h = absurd (omega arith)
inserted_there (m ∷ ms) (suc p) n h = inserted_there ms p n (omega arith)

inserted_kept : (ms : List ℕ) (p n m i : ℕ) → slice_get ms i ≡ Some m → Among (insert ms p n) m
inserted_kept ms zero n m i e = (suc i, e)
inserted_kept [] (suc p) n m i e = absurd (cc)
inserted_kept (x ∷ ms) (suc p) n m zero e = (0, e)
inserted_kept (x ∷ ms) (suc p) n m (suc i) e = let r = inserted_kept ms p n m i e in (suc r.0, r.1)

-- the place of an element that a test finds
pub place_some : {A : Type 0} (test : A → Bool) (xs : List A) (x : A) (i : ℕ) → Some i ≡ position test xs
    → ((y : A) → test y ≡ true → x ≡ y) → slice_get xs i ≡ Some x
place_some test xs x i is same = by (nat_lt (position_or_len test xs) (length xs)) refl is
  where
    by : (b : Bool) → nat_lt (position_or_len test xs) (length xs) ≡ b → Some i ≡ (if b then Some (position_or_len test xs) else None)
        → slice_get xs i ≡ Some x
    by true e h =
        let within : position_or_len test xs < length xs = grind (arith, nat_tests, e) in
        let place : i ≡ position_or_len test xs = same_Some i (position_or_len test xs) h in
        ap (slice_get xs) place ∙ (slice_get-get_or xs (position_or_len test xs) x within ∙ ap (λ y. Some y)
        (sym (same (get_or xs (position_or_len test xs) x) (passes_at_first test xs x within))))
    by false e h = absurd (cc)

pub place_none : {A : Type 0} (test : A → Bool) (xs : List A) (x : A) (i : ℕ) → None ≡ position test xs → test x ≡ true
    → slice_get xs i ≡ Some x → ⊥
place_none test xs x i is passes at = by (nat_lt (position_or_len test xs) (length xs)) refl is
  where
    by : (b : Bool) → nat_lt (position_or_len test xs) (length xs) ≡ b → None ≡ (if b then Some (position_or_len test xs) else None) → ⊥
    by true e h = absurd (cc)
    by false e h =
        let past : length xs ≤ position_or_len test xs = grind (arith, nat_tests, e) in
        let within = slice_get_within xs i x at in
        let fails = fails_before_first test xs i x (omega arith) in
        let no : test x ≡ false = ap test (sym (get_or_from_slice_get xs i x x at)) ∙ fails in
        absurd (cc)

-- one more number
pub one_successor : (count n : ℕ) (ms : List ℕ) → n < count → length ms < 16 → AddsSuccessors count 1 ms (with_number n ms)
    × Among (with_number n ms) n
one_successor count n ms less room = by_tests (is_number n (slice_get ms (count_below n ms))) (nat_lt (length ms) 16) refl refl
  where
    by_tests : (a b : Bool) → is_number n (slice_get ms (count_below n ms)) ≡ a → nat_lt (length ms) 16 ≡ b
        → AddsSuccessors count 1 ms (cond (not a && b) (insert ms (count_below n ms) n) ms)
        × Among (cond (not a && b) (insert ms (count_below n ms) n) ms) n
    by_tests true b e f = (
      record { kept = λ m h. h; few = omega arith; fits = λ h. h },
      (count_below n ms, is_number_there n (slice_get ms (count_below n ms)) e),
    )
    by_tests false false e f = absurd (let no : 16 ≤ length ms = grind (arith, nat_tests, f) in omega arith)
    by_tests false true e f =
        let longer = length-insert ms (count_below n ms) n (below_length n ms) in (
          record {
            kept = λ m h. inserted_kept ms (count_below n ms) n m h.0 h.1;
            few = omega arith;
            fits = λ h. record {
              few = omega arith;
              there = all_inserted count n (count_below n ms) ms less h.there;
              rise = rises_inserted 0 n ms h.rise (omega arith) e;
            };
          },
          (count_below n ms, inserted_there ms (count_below n ms) n (below_length n ms)),
        )

pub none_added : (count most : ℕ) (ms : List ℕ) → AddsSuccessors count most ms ms
none_added count most ms = record { kept = λ n h. h; few = omega arith; fits = λ h. h }

pub added_on : (count a b most : ℕ) (ms ns os : List ℕ) → AddsSuccessors count a ms ns → AddsSuccessors count b ns os → a + b ≤ most → AddsSuccessors count
    most ms os
added_on count a b most ms ns os h k le = record {
  kept = λ n t. k.kept n (h.kept n t);
  few = let x = h.few in let y = k.few in omega arith;
  fits = λ f. k.fits (h.fits f);
}

pub added_within : (count most bound : ℕ) (ms ns : List ℕ) → AddsSuccessors count most ms ns → most ≤ bound → AddsSuccessors count bound ms ns
added_within count most bound ms ns h le = record { kept = h.kept; few = (let few = h.few in omega arith); fits = h.fits }

-- a name stays
pub still_successor : (nodes : List Instance) (numbers : List ℕ) (y : Instance) (ms ns : List ℕ) → ((n : ℕ) → Among ms n → Among ns n)
    → HasSuccessor nodes numbers y ms → HasSuccessor nodes numbers y ns
still_successor nodes numbers y ms ns kept h = record {
  place = h.place;
  number = h.number;
  node = h.node;
  is = h.is;
  named = kept h.number h.named;
}

pub still_leads : (image : Flash) (p : Program) (nodes : List Instance) (numbers : List ℕ) (x : Instance) (ms ns : List ℕ)
    → ((n : ℕ) → Among ms n → Among ns n)
    → LeadsToResults image p nodes numbers x ms → LeadsToResults image p nodes numbers x ns
still_leads image p nodes numbers x ms ns kept h = λ result y after on there. still_successor nodes numbers (widened p y) ms ns kept
    (h result y after on there)

-- Points

vector_again : (response : ℕ) (lines : Lines) (p q : Point) (rest : Rest) (next later : List ℕ)
    → q ≡ record p { next = record { items = later } } → p ≡ vector_after response lines rest next
    → q ≡ vector_after response lines rest later
vector_again response lines p q rest next later r e = r ∙ ap {A = Point} (λ x. record x { next = record { items = later } }) e

point_again : (p q : Point) (x : Instance) (next later : List ℕ) → q ≡ record p { next = record { items = later } } → p ≡ point_of x next
    → q ≡ point_of x later
point_again p q x next later r e = r ∙ ap {A = Point} (λ y. record y { next = record { items = later } }) e

-- a list after a write at a place
at_write : {A : Type 0} (xs : List A) (i j : ℕ) (q x : A) → slice_get (set xs i q) j ≡ Some x → i < length xs → ((i ≡ j) × (q ≡ x))
    ⊎ ((i ≢ j) × (slice_get xs j ≡ Some x))
at_write [] i j q x e h = absurd (omega arith)
at_write (y ∷ ys) zero zero q x e h = inl (refl, same_Some q x e)
at_write (y ∷ ys) zero (suc j) q x e h = inr (λ f. omega arith, e)
at_write (y ∷ ys) (suc i) zero q x e h = inr (λ f. omega arith, e)
at_write (y ∷ ys) (suc i) (suc j) q x e h = ⊎_elim (λ a. inl (ap suc a.0, a.1)) (λ a. inr (λ f. a.0 (omega arith), a.1))
    (at_write ys i j q x e (omega arith))

wrote : {A : Type 0} (xs : List A) (i : ℕ) (q : A) → i < length xs → slice_get (set xs i q) i ≡ Some q
wrote [] i q h = absurd (omega arith)
wrote (y ∷ ys) zero q h = refl
wrote (y ∷ ys) (suc i) q h = wrote ys i q (omega arith)

unwritten : {A : Type 0} (xs : List A) (i j : ℕ) (q x : A) → i ≢ j → slice_get xs j ≡ Some x → slice_get (set xs i q) j ≡ Some x
unwritten [] i j q x n e = e
unwritten (y ∷ ys) zero zero q x n e = absurd (n refl)
unwritten (y ∷ ys) zero (suc j) q x n e = e
unwritten (y ∷ ys) (suc i) zero q x n e = e
unwritten (y ∷ ys) (suc i) (suc j) q x n e = unwritten ys i j q x (λ f. n (ap suc f)) e

pub length_write : {A : Type 0} (xs : List A) (i : ℕ) (q : A) → length (set xs i q) ≡ length xs
length_write [] i q = refl
length_write (y ∷ ys) zero q = refl
length_write (y ∷ ys) (suc i) q = ap suc (length_write ys i q)

-- one point names more
pub made_again : (response : ℕ) (lines : Lines) (rests : List Rest) (nodes : List Instance) (numbers : List ℕ) (total n : ℕ)
    (next : List ℕ) (points : List Point) (p q : Point)
    → AreMade response lines rests nodes numbers total points → slice_get points n ≡ Some p → Renamed total next p q → AreMade response
    lines rests nodes numbers total (set points n q)
made_again response lines rests nodes numbers total n next points p q a there r = record {
  vectors = λ k rest at. vector_cases k rest (a.vectors k rest at) (nat_eq n k) refl;
  own = λ i m x at number low. own_cases m x (a.own i m x at number low) (nat_eq n m) refl;
  names = λ k point at. name_cases k point (at_write points n k q point at within);
}
  where
    within : n < length points
    within = slice_get_within points n p there

    vector_cases : (k : ℕ) (rest : Rest) → IsVectorAt response lines points k rest → (b : Bool) → nat_eq n k ≡ b → IsVectorAt response lines
        (set points n q) k rest
    vector_cases k rest v true e =
        let same : n ≡ k = grind (arith, nat_tests, e) in
        let is : p ≡ vector_after response lines rest v.next =
        same_Some p _ (sym there ∙ (ap (slice_get points) same ∙ v.is)) in
        let later = vector_again response lines p q rest v.next next r.is is in
        record {
          next = next;
          is = ap (slice_get (set points n q)) (sym same) ∙ (wrote points n q within ∙ ap Some later);
          ordered = v.ordered;
        }
    vector_cases k rest v false e =
        let apart : n ≢ k = grind (arith, nat_tests, e) in
        record { next = v.next; is = unwritten points n k q _ apart v.is; ordered = v.ordered }

    own_cases : (m : ℕ) (x : Instance) → IsPointAt points m x → (b : Bool) → nat_eq n m ≡ b → IsPointAt (set points n q) m x
    own_cases m x v true e =
        let same : n ≡ m = grind (arith, nat_tests, e) in
        let is : p ≡ point_of x v.next = same_Some p _ (sym there ∙ (ap (slice_get points) same ∙ v.is)) in
        let later = point_again p q x v.next next r.is is in
        record {
          next = next;
          is = ap (slice_get (set points n q)) (sym same) ∙ (wrote points n q within ∙ ap Some later);
          ordered = v.ordered;
        }
    own_cases m x v false e =
        let apart : n ≢ m = grind (arith, nat_tests, e) in
        record { next = v.next; is = unwritten points n m q _ apart v.is; ordered = v.ordered }

    name_cases : (k : ℕ) (point : Point) → ((n ≡ k) × (q ≡ point)) ⊎ ((n ≢ k) × (slice_get points k ≡ Some point)) → SuccessorsFit total
        point.next.items
    name_cases k point (inl h) = subst (λ x. SuccessorsFit total x.next.items) (sym r.is ∙ h.1) r.fits
    name_cases k point (inr h) = a.names k point h.1

-- the instances' numbers, which are lent, are those of points
pub have_numbers : (p : Program) (rests : List Rest) (nodes seen : List Instance) (numbers lent : List ℕ) (count : ℕ) → seen ≡ nodes
    → lent ≡ numbers → AreNumbers (response_clocks p.head.irq) (order_of_program p) rests seen numbers count → HaveNumbers nodes lent count
have_numbers p rests nodes seen numbers lent count at of a =
    let b = subst (λ (ns : List Instance). AreNumbers (response_clocks p.head.irq) (order_of_program p) rests ns numbers count) at a in
    subst (λ ms. HaveNumbers nodes ms count) (sym of) (record {
      lengths = b.lengths;
      within = numbers_below (response_clocks p.head.irq) (order_of_program p) rests nodes numbers count b;
    })

-- one more vector names what follows it
pub vectors_lead : (image : Flash) (p : Program) (s : Schedule) (rests : List Rest) (nodes : List Instance) (numbers : List ℕ)
    (count k : ℕ) (next : List ℕ) (points : List Point) (old new : Point) (rest : Rest)
    → k < length points → slice_get rests k ≡ Some rest → VectorsLead image p s rests nodes numbers k points → Renamed count next old new
    → LeadsToEntries image p s nodes numbers rest next
    → VectorsLead image p s rests nodes numbers (k + 1) (set points k new)
vectors_lead image p s rests nodes numbers count k next points old new rest within at before r names j other point less there is = ⊎_elim
    (λ h.
    let same : rest ≡ other = same_Some rest other (sym at ∙ (ap (slice_get rests) h.0 ∙ there)) in
    subst (λ (z : Point). LeadsToEntries image p s nodes numbers other z.next.items) (sym r.is ∙ h.1)
    (subst (λ z. LeadsToEntries image p s nodes numbers z next) same names))
    (λ h. let apart = h.0 in before j other point (omega arith) there h.1)
    (at_write points k j new point is within)

-- an instance whose point is a vector names nothing itself
pub own_passed : (image : Flash) (p : Program) (rests : List Rest) (nodes : List Instance) (numbers : List ℕ) (i n : ℕ)
    (points : List Point) → slice_get numbers i ≡ Some n → n < length rests
    → NodesLead image p (length rests) nodes numbers i points → NodesLead image p (length rests) nodes numbers (i + 1) points
own_passed image p rests nodes numbers i n points number low before j m y point less there is above point_is = before j m y point earlier
    there is above point_is
  where
    earlier : j < i
    earlier = ⊎_elim
        (λ (same : j ≡ i). let e = same_Some n m (sym number ∙ (ap (slice_get numbers) (sym same) ∙ is)) in absurd (omega arith))
        (λ (apart : j ≢ i). omega arith)
        (cases_eq j i)

-- Points without successors

no_successors : (count : ℕ) → SuccessorsFit count []
no_successors count = record { few = omega arith; there = All-nil (λ id. id < count); rise = refl }

pub no_points : (response : ℕ) (lines : Lines) → ArePoints response lines [] [] [] 0 []
no_points response lines = record {
  size = refl;
  vectors = λ k rest at. absurd (cc);
  own = λ i n x at number low. absurd (cc);
  names = λ n point at. absurd (cc);
}

-- one more point without successors
fit_on_end : (count count' : ℕ) (points : List Point) (p : Point) → count ≤ count' → p.next.items ≡ []
    → ((n : ℕ) (q : Point) → slice_get points n ≡ Some q → SuccessorsFit count q.next.items)
    → (n : ℕ) (q : Point) → slice_get (points ++ p ∷ []) n ≡ Some q → SuccessorsFit count' q.next.items
fit_on_end count count' points p le bare names n q at = ⊎_elim
    (λ h. let f = names n q h in record { few = f.few; there = λ k d within. let low = f.there k d within in omega arith; rise = f.rise })
    (λ h. subst (SuccessorsFit count') (sym (ap (λ x. x.next.items) (sym h.1) ∙ bare)) (no_successors count'))
    (at_more points p q n at)

pub vector_more : (response : ℕ) (lines : Lines) (rests : List Rest) (rest : Rest) (points : List Point) (count : ℕ)
    → length rests ≡ count → AreOrdered 255 rest.cells.items → ArePoints response lines rests [] [] count points
    → ArePoints response lines (rests ++ rest ∷ []) [] [] (count + 1) (points ++ vector_after response lines rest [] ∷ [])
vector_more response lines rests rest points count same ordered a = record {
  size = let s = a.size in let l = length-append points (vector_after response lines rest [] ∷ []) in
      omega arith;
  vectors = λ k r at. ⊎_elim
      (λ h. let v = a.vectors k r h in
      record {
        next = v.next;
        is = keeps points (vector_after response lines rest []) _ k v.is;
        ordered = v.ordered;
      })
      (λ h. let s = a.size in let place : k ≡ length points = h.0 ∙ (same ∙ sym s) in record {
        next = [];
        is = ap (slice_get (points ++ vector_after response lines rest [] ∷ [])) place
            ∙ (last_there points _ ∙ ap (λ x. Some (vector_after response lines x [])) h.1);
        ordered = subst (λ (z : Rest). AreOrdered 255 z.cells.items) h.1 ordered;
      })
      (at_more rests rest r k at);
  own = λ i n x at number low. absurd (cc);
  names = fit_on_end count (count + 1) points (vector_after response lines rest []) (omega arith) refl
      a.names;
}

pub vectors_next : (response : ℕ) (lines : Lines) (rests : List Rest) (i : ℕ) (d : Rest) (points points' : List Point) → i < length rests
    → ArePoints response lines (take i rests) [] [] i points
    → points' ≡ points ++ vector_after response lines (get_or rests i d) [] ∷ []
    → AreOrdered 255 (get_or rests i d).cells.items → ArePoints response lines (take (i + 1) rests) [] [] (i + 1) points'
vectors_next response lines rests i d points points' within a e ordered =
    let more : take (i + 1) rests ≡ take i rests ++ get_or rests i d ∷ [] = rw add-one (take-suc rests i d within) in
    let next = vector_more response lines (take i rests) (get_or rests i d) points i (length-take-le i rests (omega arith)) ordered a in
    subst (ArePoints response lines (take (i + 1) rests) [] [] (i + 1)) (sym e)
    (subst (λ rs. ArePoints response lines rs [] [] (i + 1) (points ++ vector_after response lines (get_or rests i d) [] ∷ [])) (sym more) next)

pub vectors_end : (response : ℕ) (lines : Lines) (rests : List Rest) (i : ℕ) (points : List Point) → length rests ≤ i → i ≤ length rests
    → ArePoints response lines (take i rests) [] [] i points → ArePoints response lines rests [] [] (length rests) points
vectors_end response lines rests i points past within a =
    let same : i ≡ length rests = omega arith in
    subst (λ n. ArePoints response lines rests [] [] n points) same (subst (λ rs. ArePoints response lines rs [] [] i points)
    (take_all i rests past) a)

-- vectors without successors, where other points are to come
pub made_bare : (response : ℕ) (lines : Lines) (rests : List Rest) (count total : ℕ) (points : List Point) → count ≤ total → ArePoints
    response lines rests [] [] count points → AreMade response lines rests [] [] total points
made_bare response lines rests count total points le a = record {
  vectors = a.vectors;
  own = a.own;
  names = λ n point at. let f = a.names n point at in record {
    few = f.few;
    there = λ k d within. let low = f.there k d within in omega arith;
    rise = f.rise;
  };
}

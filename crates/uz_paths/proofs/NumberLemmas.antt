-- One more instance numbered, and rests passed by.
use Rattle.std.proofs.Common.{◌≡◌, ◌∙◌, sym, ap, refl, arith, inl, inr, ⊎_elim, Bool, true, false, nat_lt, length-append, ℕ, zero, suc, ◌+◌}
use Rattle.std.proofs.Common.{◌<◌, ◌≤◌, List, [], ◌∷◌, ◌++◌, length, take, get_or, add-one, subst}
use Rattle.std.specs.Prelude.{Some, None, slice_get, ◌⊎◌}
use borrow.Author.Count.{below_more}
use Rattle.std.proofs.Math.Seq.{take-suc}
use Rattle.std.proofs.lemmas.Bool.{cases_lt}
use Rattle.std.proofs.lemmas.Bool.Decides.{nat_tests}
use Rattle.std.proofs.lemmas.List.{length-take-le, take-append-le, take_all, take_at}
use Rattle.std.proofs.lemmas.Option.{slice_get_within, slice_get-get_or, slice_get_cases, slice_get_read, same_Some}
use Rattle.uz_search.specs.Following.{Among}
use Rattle.uz_schedule.specs.Lines.{Lines}
use Rattle.uz_schedule.specs.declared.states.Instance.{Instance}
use Rattle.uz_schedule.specs.declared.states.Rest.{Rest}
use Rattle.uz_paths.specs.Numbers.{IsFirstAfter, IsVectorOf, Numbered, AreNumbers}
use Rattle.uz_paths.specs.Plan.{AreCounted}

-- Rests

-- it isn't the vector of the rest of number k
not_here : (response : ℕ) (lines : Lines) (rests : List Rest) (k : ℕ) (rest : Rest) (x : Instance) → slice_get rests k ≡ Some rest
    → (IsFirstAfter response lines rest x → ⊥) → IsVectorOf response lines rests k x → ⊥
not_here response lines rests k rest x there not v =
    let same : v.rest ≡ rest = same_Some v.rest rest (sym v.there ∙ there) in
    not (subst (λ r. IsFirstAfter response lines r x) same v.after)

pub none_more : (response : ℕ) (lines : Lines) (rests : List Rest) (k : ℕ) (d : Rest) (x : Instance) → k < length rests
    → (IsFirstAfter response lines (get_or rests k d) x → ⊥)
    → ((j : ℕ) → j < k → IsVectorOf response lines rests j x → ⊥) → (j : ℕ) → j < k + 1 → IsVectorOf response lines rests j x → ⊥
none_more response lines rests k d x within not before =
    below_more (λ j. IsVectorOf response lines rests j x → ⊥) k before (not_here response lines rests k (get_or rests k d) x
    (slice_get-get_or rests k d within) not)

pub none_all : (response : ℕ) (lines : Lines) (rests : List Rest) (k : ℕ) (x : Instance) → length rests ≤ k
    → ((j : ℕ) → j < k → IsVectorOf response lines rests j x → ⊥) → (j : ℕ) → IsVectorOf response lines rests j x → ⊥
none_all response lines rests k x all none j v =
    let within : j < length rests = slice_get_within rests j v.rest v.there in
    none j (omega arith) v

-- Numbers

-- the element at a place of a list with one more
pub at_more : {A : Type 0} (xs : List A) (a x : A) (i : ℕ) → slice_get (xs ++ a ∷ []) i ≡ Some x → (slice_get xs i ≡ Some x)
    ⊎ ((i ≡ length xs) × (a ≡ x))
at_more [] a x zero e = inr (refl, same_Some a x e)
at_more [] a x (suc i) e = absurd (cc)
at_more (y ∷ ys) a x zero e = inl e
at_more (y ∷ ys) a x (suc i) e = ⊎_elim (λ h. inl h) (λ h. inr (ap suc h.0, h.1)) (at_more ys a x i e)

pub keeps : {A : Type 0} (xs : List A) (a x : A) (i : ℕ) → slice_get xs i ≡ Some x → slice_get (xs ++ a ∷ []) i ≡ Some x
keeps [] a x i e = absurd (cc)
keeps (y ∷ ys) a x zero e = e
keeps (y ∷ ys) a x (suc i) e = keeps ys a x i e

pub last_there : {A : Type 0} (xs : List A) (a : A) → slice_get (xs ++ a ∷ []) (length xs) ≡ Some a
last_there [] a = refl
last_there (y ∷ ys) a = last_there ys a

below_rests : (r : ℕ) (l : Lines) (rests : List Rest) (k : ℕ) (x : Instance) → IsVectorOf r l rests k x → k < length rests
below_rests r l rests k x v = slice_get_within rests k v.rest v.there

more_lengths : (of : List ℕ) (ns : List Instance) (k : ℕ) (x : Instance) → length of ≡ length ns → length (of ++ k ∷ []) ≡ length
    (ns ++ x ∷ [])
more_lengths of ns k x e = length-append of (k ∷ []) ∙ (ap (λ n. n + 1) e ∙ sym (length-append ns (x ∷ [])))

-- an instance that is a vector's
pub more_vector : (r : ℕ) (l : Lines) (rests : List Rest) (ns : List Instance) (of : List ℕ) (count k : ℕ) (x : Instance)
    → AreNumbers r l rests ns of count → IsVectorOf r l rests k x → AreNumbers r l rests (ns ++ x ∷ []) (of ++ k ∷ []) count
more_vector r l rests ns of count k x a v = record {
  lengths = more_lengths of ns k x a.lengths;
  each = λ i n y node number. each_cases i n y (at_more ns x y i node) (at_more of k n i number);
  apart = λ i j n low here there. apart_cases i j n low (at_more of k n i here) (at_more of k n j there);
  there = λ n low less. ((a.there n low less).0, keeps of k n (a.there n low less).0 (a.there n low less).1);
  some = a.some;
  few = let more = length-append ns (x ∷ []) in let few = a.few in omega arith;
}
  where
    each_cases : (i n : ℕ) (y : Instance) → (slice_get ns i ≡ Some y) ⊎ ((i ≡ length ns) × (x ≡ y)) → (slice_get of i ≡ Some n)
        ⊎ ((i ≡ length of) × (k ≡ n)) → Numbered r l rests count n y
    each_cases i n y (inl h) (inl g) = a.each i n y h g
    each_cases i n y (inl h) (inr g) = let within = slice_get_within ns i y h in let same = a.lengths in absurd (omega arith)
    each_cases i n y (inr h) (inl g) = let within = slice_get_within of i n g in let same = a.lengths in absurd (omega arith)
    each_cases i n y (inr h) (inr g) = inl (subst (λ m. IsVectorOf r l rests m y) g.1 (subst (IsVectorOf r l rests k) h.1 v))

    low_vector : (n : ℕ) → length rests ≤ n → k ≡ n → ⊥
    low_vector n low e = let within = below_rests r l rests k x v in omega arith

    apart_cases : (i j n : ℕ) → length rests ≤ n → (slice_get of i ≡ Some n) ⊎ ((i ≡ length of) × (k ≡ n)) → (slice_get of j ≡ Some n)
        ⊎ ((j ≡ length of) × (k ≡ n)) → i ≡ j
    apart_cases i j n low (inl h) (inl g) = a.apart i j n low h g
    apart_cases i j n low (inl h) (inr g) = absurd (low_vector n low g.1)
    apart_cases i j n low (inr h) g = absurd (low_vector n low h.1)

wider : (r : ℕ) (l : Lines) (rests : List Rest) (count n : ℕ) (x : Instance) → Numbered r l rests count n x → Numbered r l rests (count + 1)
    n x
wider r l rests count n x (inl v) = inl v
wider r l rests count n x (inr h) = let less = h.2 in inr (h.0, h.1, omega arith)

-- an instance that has a point of its own
pub more_own : (r : ℕ) (l : Lines) (rests : List Rest) (ns : List Instance) (of : List ℕ) (count : ℕ) (x : Instance)
    → AreNumbers r l rests ns of count → ((k : ℕ) → IsVectorOf r l rests k x → ⊥) → AreNumbers r l rests (ns ++ x ∷ []) (of ++ count ∷ [])
    (count + 1)
more_own r l rests ns of count x a none = record {
  lengths = more_lengths of ns count x a.lengths;
  each = λ i n y node number. each_cases i n y (at_more ns x y i node) (at_more of count n i number);
  apart = λ i j n low here there. apart_cases i j n low (at_more of count n i here) (at_more of count n j there);
  there = λ n low less. there_cases n low less (nat_lt n count) refl;
  some = let some = a.some in omega arith;
  few = let more = length-append ns (x ∷ []) in let few = a.few in omega arith;
}
  where
    each_cases : (i n : ℕ) (y : Instance) → (slice_get ns i ≡ Some y) ⊎ ((i ≡ length ns) × (x ≡ y)) → (slice_get of i ≡ Some n)
        ⊎ ((i ≡ length of) × (count ≡ n)) → Numbered r l rests (count + 1) n y
    each_cases i n y (inl h) (inl g) = wider r l rests count n y (a.each i n y h g)
    each_cases i n y (inl h) (inr g) = let within = slice_get_within ns i y h in let same = a.lengths in absurd (omega arith)
    each_cases i n y (inr h) (inl g) = let within = slice_get_within of i n g in let same = a.lengths in absurd (omega arith)
    each_cases i n y (inr h) (inr g) =
        let own : Numbered r l rests (count + 1) count x = inr (none, a.some, omega arith) in
        subst (λ m. Numbered r l rests (count + 1) m y) g.1 (subst (Numbered r l rests (count + 1) count) h.1 own)

    not_count : (n : ℕ) (y : Instance) → length rests ≤ n → Numbered r l rests count n y → n ≡ count → ⊥
    not_count n y low (inl v) e = let within = below_rests r l rests n y v in omega arith
    not_count n y low (inr h) e = let less = h.2 in omega arith

    below : (i n : ℕ) → length rests ≤ n → slice_get of i ≡ Some n → count ≡ n → ⊥
    below i n low h e =
        let within = slice_get_within of i n h in
        let same = a.lengths in
        let there : i < length ns = omega arith in
        not_count n (get_or ns i x) low (a.each i n (get_or ns i x) (slice_get-get_or ns i x there) h) (sym e)

    apart_cases : (i j n : ℕ) → length rests ≤ n → (slice_get of i ≡ Some n) ⊎ ((i ≡ length of) × (count ≡ n)) → (slice_get of j ≡ Some n)
        ⊎ ((j ≡ length of) × (count ≡ n)) → i ≡ j
    apart_cases i j n low (inl h) (inl g) = a.apart i j n low h g
    apart_cases i j n low (inl h) (inr g) = absurd (below i n low h g.1)
    apart_cases i j n low (inr h) (inl g) = absurd (below j n low g h.1)
    apart_cases i j n low (inr h) (inr g) = h.0 ∙ sym g.0

    there_cases : (n : ℕ) → length rests ≤ n → n < count + 1 → (b : Bool) → nat_lt n count ≡ b → (i : ℕ)
        × (slice_get (of ++ count ∷ []) i ≡ Some n)
    there_cases n low less true e =
        let old = a.there n low (grind (arith, nat_tests, e)) in
        (old.0, keeps of count n old.0 old.1)
    there_cases n low less false e =
        let same : n ≡ count = grind (arith, nat_tests, e, less) in
        (length of, last_there of count ∙ ap Some (sym same))

-- without instances there are the vectors alone
pub none_numbered : (r : ℕ) (l : Lines) (rests : List Rest) → AreNumbers r l rests [] [] (length rests)
none_numbered r l rests = record {
  lengths = refl;
  each = λ i n x node number. absurd (cc);
  apart = λ i j n low here there. absurd (cc);
  there = λ n low less. absurd (omega arith);
  some = omega arith;
  few = omega arith;
}

pub not_true : (b : Bool) → b ≡ true → b ≡ false → ⊥
not_true b e f = cc

-- the first instances of a list, and one more
pub numbers_more : (r : ℕ) (l : Lines) (rests : List Rest) (nodes : List Instance) (i : ℕ) (d : Instance) (of : List ℕ) (count : ℕ)
    → i < length nodes
    → AreNumbers r l rests (take i nodes ++ get_or nodes i d ∷ []) of count → AreNumbers r l rests (take (i + 1) nodes) of count
numbers_more r l rests nodes i d of count within a =
    let more : take (i + 1) nodes ≡ take i nodes ++ get_or nodes i d ∷ [] = rw add-one (take-suc nodes i d within) in
    subst (λ ns. AreNumbers r l rests ns of count) (sym more) a

pub vector_next : (r : ℕ) (l : Lines) (rests : List Rest) (nodes : List Instance) (i : ℕ) (x : Instance) (of of' : List ℕ)
    (count count' k : ℕ) → i < length nodes → x ≡ get_or nodes i x
    → AreNumbers r l rests (take i nodes) of count → IsVectorOf r l rests k x → of' ≡ of ++ k ∷ [] → count' ≡ count → AreNumbers r l rests
    (take (i + 1) nodes) of' count'
vector_next r l rests nodes i x of of' count count' k within is a v e f =
    let more : AreNumbers r l rests (take i nodes ++ get_or nodes i x ∷ []) (of ++ k ∷ []) count = more_vector r l rests (take i nodes) of
    count k (get_or nodes i x) a (subst (IsVectorOf r l rests k) is v) in
    let next : AreNumbers r l rests (take (i + 1) nodes) (of ++ k ∷ []) count = numbers_more r l rests nodes i x (of ++ k ∷ []) count within
    more in
    subst (λ n. AreNumbers r l rests (take (i + 1) nodes) of' n) (sym f) (subst (λ ns. AreNumbers r l rests (take (i + 1) nodes) ns count)
    (sym e) next)

pub own_next : (r : ℕ) (l : Lines) (rests : List Rest) (nodes : List Instance) (i : ℕ) (x : Instance) (of of' : List ℕ) (count count' : ℕ)
    → i < length nodes → x ≡ get_or nodes i x
    → AreNumbers r l rests (take i nodes) of count → ((k : ℕ) → IsVectorOf r l rests k x → ⊥) → of' ≡ of ++ count ∷ [] → count' ≡ count + 1
    → AreNumbers r l rests (take (i + 1) nodes) of' count'
own_next r l rests nodes i x of of' count count' within is a none e f =
    let more : AreNumbers r l rests (take i nodes ++ get_or nodes i x ∷ []) (of ++ count ∷ []) (count + 1) = more_own r l rests
    (take i nodes) of count (get_or nodes i x) a (λ k v. none k (subst (IsVectorOf r l rests k) (sym is) v)) in
    let next : AreNumbers r l rests (take (i + 1) nodes) (of ++ count ∷ []) (count + 1) = numbers_more r l rests nodes i x
    (of ++ count ∷ []) (count + 1) within more in
    subst (λ n. AreNumbers r l rests (take (i + 1) nodes) of' n) (sym f)
    (subst (λ ns. AreNumbers r l rests (take (i + 1) nodes) ns (count + 1)) (sym e) next)

-- each number is one of a point that is there
pub numbers_below : (r : ℕ) (l : Lines) (rests : List Rest) (nodes : List Instance) (of : List ℕ) (count : ℕ) → AreNumbers r l rests nodes
    of count → (i n : ℕ) → slice_get of i ≡ Some n → n < count
numbers_below r l rests nodes of count a i n number = by_node (slice_get_cases nodes i).1
  where
    below : (x : Instance) → Numbered r l rests count n x → n < count
    below x (inl v) = let within = below_rests r l rests n x v in let some = a.some in omega arith
    below x (inr h) = h.2

    by_node : ((x : Instance) × (i < length nodes) × (slice_get nodes i ≡ Some x) × (get_or nodes i x ≡ x))
        ⊎ ((length nodes ≤ i) × (slice_get nodes i ≡ None)) → n < count
    by_node (inl h) = below h.0 (a.each i n h.0 h.2 number)
    by_node (inr h) = let past = h.0 in let within = slice_get_within of i n number in let same = a.lengths in absurd (omega arith)

pub among_at : (xs ys : List Instance) (i : ℕ) (x : Instance) → xs ≡ ys → i < length xs → x ≡ get_or xs i x → Among ys x
among_at xs ys i x e within is = (i, ap (λ zs. slice_get zs i) (sym e) ∙ slice_get_read xs (length xs) i x refl within is)

-- Numbers in the order in which the instances were found

-- so many points are numbered by these numbers alone
pub same_count : (r : ℕ) (l : Lines) (rests : List Rest) (nodes : List Instance) (of : List ℕ) (count other : ℕ)
    → AreNumbers r l rests nodes of count → AreNumbers r l rests nodes of other → count ≡ other
same_count r l rests nodes of count other a b = ⊎_elim
    (λ (less : count < other). absurd (missing count other a b less))
    (λ (past : other ≤ count). ⊎_elim
    (λ (less : other < count). absurd (missing other count b a less))
    (λ (le : count ≤ other). omega arith)
    (cases_lt other count))
    (cases_lt count other)
  where
    missing : (m n : ℕ) → AreNumbers r l rests nodes of m → AreNumbers r l rests nodes of n → m < n → ⊥
    missing m n x y less =
        let there = y.there m x.some less in
        let below = numbers_below r l rests nodes of m x there.0 m there.1 in
        omega arith

-- one more vector's number, and one more number of a point of its own
pub counted_vector : (r : ℕ) (l : Lines) (rests : List Rest) (nodes : List Instance) (of of' : List ℕ) (k : ℕ) (x : Instance)
    → AreCounted r l rests nodes of → IsVectorOf r l rests k x → of' ≡ of ++ k ∷ [] → AreCounted r l rests nodes of'
counted_vector r l rests nodes of of' k x a v e = subst (AreCounted r l rests nodes) (sym e) (λ j m there low. ⊎_elim
    (λ h. let within = slice_get_within of j m h in
    subst (λ ms. AreNumbers r l rests (take j nodes) ms m) (sym (take-append-le j of (k ∷ []) (omega arith))) (a j m h low))
    (λ h. let within = below_rests r l rests k x v in let same = h.1 in absurd (omega arith))
    (at_more of k m j there))

pub counted_own : (r : ℕ) (l : Lines) (rests : List Rest) (nodes : List Instance) (i : ℕ) (of of' : List ℕ) (count : ℕ)
    → i < length nodes → AreNumbers r l rests (take i nodes) of count → AreCounted r l rests nodes of → of' ≡ of ++ count ∷ []
    → AreCounted r l rests nodes of'
counted_own r l rests nodes i of of' count within are a e = subst (AreCounted r l rests nodes) (sym e) (λ j m there low. ⊎_elim
    (λ h. let inside = slice_get_within of j m h in
    subst (λ ms. AreNumbers r l rests (take j nodes) ms m) (sym (take-append-le j of (count ∷ []) (omega arith))) (a j m h low))
    (λ h.
    let long : length of ≡ i = are.lengths ∙ length-take-le i nodes (omega arith) in
    let place : j ≡ i = h.0 ∙ long in
    let all : take j (of ++ count ∷ []) ≡ of = ap (λ n. take n (of ++ count ∷ [])) h.0 ∙ take_at of (count ∷ []) (length of) refl in
    subst (λ ms. AreNumbers r l rests (take j nodes) ms m) (sym all) (subst (λ n. AreNumbers r l rests (take n nodes) of m) (sym place)
    (subst (AreNumbers r l rests (take i nodes) of) h.1 are)))
    (at_more of count m j there))

-- all instances are numbered
pub all_numbered : (response : ℕ) (lines : Lines) (rests : List Rest) (nodes : List Instance) (numbers : List ℕ) (count i : ℕ)
    → length nodes ≤ i
    → AreNumbers response lines rests (take i nodes) numbers count → AreNumbers response lines rests nodes numbers count
all_numbered response lines rests nodes numbers count i past a =
    subst (λ ns. AreNumbers response lines rests ns numbers count) (take_all i nodes past) a

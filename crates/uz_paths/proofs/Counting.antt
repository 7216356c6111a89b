-- As many numbers as there are places that they fill, and sums of few.
use Rattle.std.proofs.Common.{◌≡◌, ◌≢◌, ◌∙◌, sym, ap, refl, arith, ⊎_elim, ℕ, zero, suc, ◌*◌, ◌<◌, ◌≤◌, false}
use Rattle.std.proofs.Common.{List, [], ◌∷◌, length, subst, if◌then◌else◌}
use Rattle.std.specs.Prelude.{Some, nat_eq, slice_get, sum_by}
use Rattle.std.proofs.lemmas.Bool.{cases_eq, eq-eqb}
use Rattle.std.proofs.lemmas.Bool.Decides.{nat_tests}
use Rattle.std.proofs.lemmas.List.Sums.{sum_by-cons}
use Rattle.uz_search.specs.Following.{Among}
use Rattle.uz_search.proofs.VisitingLemmas.{some_is}

-- a list without the first place of a number
without : ℕ → List ℕ → List ℕ
without n [] = []
without n (m ∷ ms) = if nat_eq m n then ms else m ∷ without n ms

differ : (a b : ℕ) → a ≢ b → nat_eq a b ≡ false
differ a b h = grind (arith, nat_tests)

one_less : (n i : ℕ) (ms : List ℕ) → slice_get ms i ≡ Some n → length ms ≡ suc (length (without n ms))
unfolding without
one_less n i [] at = absurd (cc)
one_less n zero (m ∷ ms) at = ap (λ b. suc (length (if b then ms else m ∷ without n ms))) (sym (eq-eqb m n (some_is m n at)))
one_less n (suc i) (m ∷ ms) at = ⊎_elim
    (λ (same : m ≡ n). ap (λ b. suc (length (if b then ms else m ∷ without n ms))) (sym (eq-eqb m n same)))
    (λ (other : m ≢ n). ap suc (one_less n i ms at) ∙ ap (λ b. suc (length (if b then ms else m ∷ without n ms))) (sym (differ m n other)))
    (cases_eq m n)

stays : (n m i : ℕ) (ms : List ℕ) → m ≢ n → slice_get ms i ≡ Some m → Among (without n ms) m
unfolding without
stays n m i [] other at = absurd (cc)
stays n m zero (k ∷ ms) other at =
    let apart : k ≢ n = λ same. other (sym (some_is k m at) ∙ same) in
    subst (λ b. Among (if b then ms else k ∷ without n ms) m) (sym (differ k n apart)) (0, at)
stays n m (suc i) (k ∷ ms) other at = ⊎_elim
    (λ (same : k ≡ n). subst (λ b. Among (if b then ms else k ∷ without n ms) m) (sym (eq-eqb k n same)) (i, at))
    (λ (apart : k ≢ n).
    let later = stays n m i ms other at in
    subst (λ b. Among (if b then ms else k ∷ without n ms) m) (sym (differ k n apart)) (suc later.0, later.1))
    (cases_eq k n)

-- where each number below a count stands in a list, the list is at least as long
pub at_least : (count : ℕ) (ms : List ℕ) → ((n : ℕ) → n < count → Among ms n) → count ≤ length ms
at_least zero ms all = omega arith
at_least (suc n) ms all =
    let last = all n (omega arith) in
    let less = one_less n last.0 ms last.1 in
    let few = at_least n (without n ms) (λ m below. let at = all m (omega arith) in stays n m at.0 ms (λ e. omega arith) at.1) in
    omega arith

-- where each summand is at most 4
pub sum_few : {A : Type 0} (f : A → ℕ) (xs : List A) → ((i : ℕ) (x : A) → slice_get xs i ≡ Some x → f x ≤ 4) → sum_by f xs ≤ 4 * length xs
sum_few f [] each = omega arith
sum_few f (x ∷ xs) each =
    let one = each 0 x refl in
    let more = sum_few f xs (λ i y at. each (suc i) y at) in
    let sum = sum_by-cons f x xs in
    omega arith

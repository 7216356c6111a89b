-- Counts of program counters, one instance later.
use Rattle.std.proofs.Common.{◌≡◌, ◌≤◌, ◌<◌, ◌⊎◌, inl, inr, ℕ, zero, suc, ◌+◌, ◌==◌, List, [], ◌∷◌, ◌∙◌, length, take, refl, get_or, slice_index_or}
use Rattle.std.proofs.Common.{slice_set, sym, ap, subst, arith}
use Rattle.std.proofs.lemmas.Bool.{cases_eq, eq-eqb, ne_eqb}
use Rattle.std.proofs.lemmas.List.{length-take, get_or_read, get_or-set_same, get_or-set_other}
use Rattle.std.proofs.lemmas.List.Sums.{count_by-le-length, count_by_more_yes, count_by_more_no}
use Rattle.uz_schedule.specs.declared.states.Instance.{Instance}
use Rattle.uz_explanations.specs.Counting.{count_at, counts_from, pc_end}

pub at_yes : (all : List Instance) (i pc : ℕ) (x : Instance) → i < length all → x ≡ get_or all i x → x.pc ≡ pc
    → count_at pc (take (i + 1) all) ≡ count_at pc (take i all) + 1
at_yes all i pc x below is here =
    count_by_more_yes (λ y. y.pc == pc) all i x below (eq-eqb (get_or all i x).pc pc (ap (λ y. y.pc) (sym is) ∙ here))

pub at_no : (all : List Instance) (i pc : ℕ) (x : Instance) → i < length all → x ≡ get_or all i x → (x.pc ≡ pc → ⊥)
    → count_at pc (take (i + 1) all) ≡ count_at pc (take i all)
at_no all i pc x below is other =
    count_by_more_no (λ y. y.pc == pc) all i x below (ne_eqb (get_or all i x).pc pc (λ e. other (ap (λ y. y.pc) is ∙ e)))

-- no more than there are
pub at_few : (all : List Instance) (i pc : ℕ) → count_at pc (take i all) ≤ i
at_few all i pc = omega (arith, count_by-le-length (λ y. y.pc == pc) (take i all), length-take i all)

pub read_few : (counts : List ℕ) (all : List Instance) (i place count : ℕ) → place < length counts
    → count ≡ slice_index_or counts place count → slice_index_or counts place 0 ≡ count_at place (take i all) → count ≤ i
read_few counts all i place count there more before =
    let few = at_few all i place in
    let read : count ≡ slice_index_or counts place 0 = get_or_read counts place count there more 0 in
    omega (arith, few, read, before)

-- a count that goes up by one
pub counted : (counts : List ℕ) (all : List Instance) (i place count pc : ℕ) (x : Instance) → i < length all → x ≡ get_or all i x
    → place ≡ x.pc → place < length counts → count ≡ slice_index_or counts place count
    → slice_index_or counts pc 0 ≡ count_at pc (take i all)
    → slice_index_or (slice_set counts place (count + 1)) pc 0 ≡ count_at pc (take (i + 1) all)
counted counts all i place count pc x below at is there more before = by_case (cases_eq pc place)
  where
    by_case : ((pc ≡ place) ⊎ (pc ≡ place → ⊥)) → slice_index_or (slice_set counts place (count + 1)) pc 0 ≡ count_at pc (take (i + 1) all)
    by_case (inl e) =
        subst (λ k. slice_index_or (slice_set counts place (count + 1)) k 0 ≡ count_at k (take (i + 1) all)) (sym e)
        (get_or-set_same counts place (count + 1) 0 there ∙ ap (λ k. k + 1) (get_or_read counts place count there more 0
        ∙ subst (λ k. slice_index_or counts k 0 ≡ count_at k (take i all)) e before) ∙ sym (at_yes all i place x below at (sym is)))
    by_case (inr other) =
        get_or-set_other counts place pc (count + 1) 0 other ∙ before
        ∙ sym (at_no all i pc x below at (λ e. other (sym (is ∙ e))))

-- each program counter lies below the end
pub below_end : (all : List Instance) (i : ℕ) (x : Instance) → i < length all → x ≡ get_or all i x → x.pc < pc_end all
below_end [] i x below is = absurd (omega arith)
below_end (y ∷ ys) zero x below is =
    let same : x.pc ≡ y.pc = ap (λ z. z.pc) is in omega (arith, same)
below_end (y ∷ ys) (suc i) x below is = let less = below_end ys i x (omega arith) is in omega (arith, less)

-- counts of each program counter are the list of all
pub counts_are : (counts : List ℕ) (all : List Instance) (n from : ℕ) → length counts ≡ n
    → ((pc : ℕ) → pc < n → slice_index_or counts pc 0 ≡ count_at (from + pc) all) → counts ≡ counts_from all from n
counts_are [] all zero from same each = refl
counts_are [] all (suc n) from same each = absurd (omega arith)
counts_are (c ∷ cs) all zero from same each = absurd (omega arith)
counts_are (c ∷ cs) all (suc n) from same each =
    let first : c ≡ count_at from all = each 0 (omega arith) ∙ ap (λ k. count_at k all) (omega arith) in
    let rest : cs ≡ counts_from all (suc from) n = counts_are cs all n (suc from) (omega arith)
    (λ pc below. each (suc pc) (omega arith) ∙ ap (λ k. count_at k all) (omega arith)) in
    ap (λ l. c ∷ l) rest ∙ ap (λ k. k ∷ counts_from all (suc from) n) first

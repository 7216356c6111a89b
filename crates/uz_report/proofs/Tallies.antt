-- How often each distance comes, one distance later.
use Rattle.std.proofs.Common.{◌≡◌, ◌≤◌, ◌<◌, ◌⊎◌, inl, inr, ℕ, ◌+◌, ◌==◌, List, ◌++◌, ◌∙◌, length, take, slice_index_or, slice_set, sym, ap, subst, add-one, append_assoc, arith}
use Rattle.std.proofs.lemmas.Bool.{cases_eq, eq-eqb, ne_eqb}
use Rattle.std.proofs.lemmas.List.{length-take, get_or_read, get_or-set_same, get_or-set_other}
use Rattle.std.proofs.lemmas.List.Sums.{count_by-le-length, count_by_more_yes, count_by_more_no}
use Rattle.uz_report.specs.Shown.{times}
use Rattle.uz_report.specs.KindText.{distance_line, distance_lines_below}

-- the distance that comes
pub times_yes : (all : List ℕ) (i d : ℕ) → i < length all → slice_index_or all i 0 ≡ d → times d (take (i + 1) all) ≡ times d (take i all) + 1
times_yes all i d below is = count_by_more_yes (λ x. x == d) all i 0 below (eq-eqb (slice_index_or all i 0) d is)

-- all others
pub times_no : (all : List ℕ) (i d : ℕ) → i < length all → (slice_index_or all i 0 ≡ d → ⊥) → times d (take (i + 1) all) ≡ times d (take i all)
times_no all i d below other = count_by_more_no (λ x. x == d) all i 0 below (ne_eqb (slice_index_or all i 0) d other)

-- no more than there are
pub times_few : (all : List ℕ) (i d : ℕ) → times d (take i all) ≤ i
times_few all i d = omega (arith, count_by-le-length (λ x. x == d) (take i all), length-take i all)

-- a count that goes up by one
pub counted : (counts all : List ℕ) (i place count d : ℕ) → i < length all → place ≡ slice_index_or all i 0 → place < length counts
    → count ≡ slice_index_or counts place count → slice_index_or counts d 0 ≡ times d (take i all)
    → slice_index_or (slice_set counts place (count + 1)) d 0 ≡ times d (take (i + 1) all)
counted counts all i place count d below at there more before = by_case (cases_eq d place)
  where
    by_case : ((d ≡ place) ⊎ (d ≡ place → ⊥)) → slice_index_or (slice_set counts place (count + 1)) d 0 ≡ times d (take (i + 1) all)
    by_case (inl e) =
        subst (λ k. slice_index_or (slice_set counts place (count + 1)) k 0 ≡ times d (take (i + 1) all)) (sym e)
        (get_or-set_same counts place (count + 1) 0 there ∙ ap (λ k. k + 1) (get_or_read counts place count there more 0 ∙ ap (λ k. slice_index_or counts k 0) (sym e) ∙ before)
        ∙ sym (times_yes all i d below (sym at ∙ sym e)))
    by_case (inr other) =
        get_or-set_other counts place d (count + 1) 0 other ∙ before ∙ sym (times_no all i d below (λ e. other (sym e ∙ sym at)))

-- one more line of distances
pub lines_more : (all old mid new : List ℕ) (d count : ℕ) → mid ≡ old ++ distance_lines_below all d → new ≡ mid ++ distance_line d count
    → count ≡ times d all → new ≡ old ++ distance_lines_below all (d + 1)
unfolding distance_lines_below
lines_more all old mid new d count e f g =
    rw add-one (f ∙ (ap (λ t. t ++ distance_line d count) e ∙ (append_assoc old (distance_lines_below all d) (distance_line d count)
    ∙ ap (λ n. old ++ (distance_lines_below all d ++ distance_line d n)) g)))

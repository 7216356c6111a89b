-- The set of the marks that are set.
use Rattle.std.proofs.Common.{◌≡◌, ℕ, zero, suc, ◌+◌, ◌-◌, ◌<◌, ◌≤◌, Bool, true, false, cond, List, [], ◌∷◌, length, get_or, set}
use Rattle.std.proofs.Common.{get_or-set_same, get_or-set_other, ◌≢◌, inl, inr, replicate, refl, sym, ◌∙◌, ap, subst, zero-add, arith}
use Rattle.std.proofs.Math.Nat.{add-suc, suc-add}
use Rattle.std.specs.Ordering.{nat_cmp}
use Rattle.std.specs.Cmp.{nat_cmp_total}
use Rattle.std.specs.FinSet.{FinSet, empty, insert, remove, contains, len, contains-empty, len-empty, len-insert, len-remove, empty_of_len}
use Rattle.std.specs.FinSet.{members, same_set, nat_cmp-IsAntisymmetric}
use Rattle.std.proofs.lemmas.Bool.Decides.{nat_tests, eqb_tells}
use Rattle.std.proofs.lemmas.Bool.{cases_lt}
use mathlib.Core.Bool.{true≢false}
use Rattle.std.proofs.lemmas.List.{length-set, length-replicate}
use Rattle.uz_debug.specs.Marks.{marked}

contains-insert_same : (s : FinSet nat_cmp) (k q : ℕ) → q ≡ k → contains (insert s k) q ≡ true
contains-insert_same s k q h = grind (arith, members, nat_tests)

contains-insert_other : (s : FinSet nat_cmp) (k q : ℕ) → q ≢ k → contains (insert s k) q ≡ contains s q
contains-insert_other s k q h = grind (arith, members, nat_tests)

contains-remove_same : (s : FinSet nat_cmp) (k q : ℕ) → q ≡ k → contains (remove s k) q ≡ false
contains-remove_same s k q h = grind (arith, members, nat_tests)

contains-remove_other : (s : FinSet nat_cmp) (k q : ℕ) → q ≢ k → contains (remove s k) q ≡ contains s q
contains-remove_other s k q h = grind (arith, members, nat_tests)

contains-marked_below : (marks : List Bool) (at q : ℕ) → q < at → contains (marked at marks) q ≡ false
contains-marked_below [] at q h = contains-empty nat_cmp q
contains-marked_below (false ∷ marks) at q h = contains-marked_below marks (suc at) q (omega arith)
contains-marked_below (true ∷ marks) at q h = contains-insert_other _ at q (omega arith) ∙ contains-marked_below marks (suc at) q
    (omega arith)

contains-marked_on : (marks : List Bool) (at k : ℕ) → contains (marked at marks) (at + k) ≡ get_or marks k false
contains-marked_on [] at k = contains-empty nat_cmp (at + k)
contains-marked_on (false ∷ marks) at zero = contains-marked_below marks (suc at) (at + 0) (omega arith)
contains-marked_on (false ∷ marks) at (suc k) = rw (add-suc, ← suc-add) (contains-marked_on marks (suc at) k)
contains-marked_on (true ∷ marks) at zero = contains-insert_same _ at (at + 0) (omega arith)
contains-marked_on (true ∷ marks) at (suc k) = contains-insert_other _ at (at + suc k) (omega arith) ∙ rw (add-suc, ← suc-add)
    (contains-marked_on marks (suc at) k)

pub contains-marked : (marks : List Bool) (k : ℕ) → contains (marked 0 marks) k ≡ get_or marks k false
contains-marked marks k = subst (λ q. contains (marked 0 marks) q ≡ get_or marks k false) (zero-add k) (contains-marked_on marks 0 k)

pub marked-replicate : (n at : ℕ) → marked at (replicate n false) ≡ empty
marked-replicate zero at = refl
marked-replicate (suc n) at = marked-replicate n (suc at)

pub marked-set : (marks : List Bool) (k : ℕ) → k < length marks → marked 0 (set marks k true) ≡ insert (marked 0 marks) k
marked-set marks k h = same_set nat_cmp_total nat_cmp-IsAntisymmetric _ _
    (λ q. elim (eqb_tells q k) [ inl t ↦ at_it q t.1 | inr t ↦ elsewhere q t.1 ])
  where
    at_it : (q : ℕ) → q ≡ k → contains (marked 0 (set marks k true)) q ≡ contains (insert (marked 0 marks) k) q
    at_it q e = contains-marked _ q ∙ (ap (λ i. get_or (set marks k true) i false) e
        ∙ (get_or-set_same marks k true false h ∙ sym (contains-insert_same _ k q e)))

    elsewhere : (q : ℕ) → q ≢ k → contains (marked 0 (set marks k true)) q ≡ contains (insert (marked 0 marks) k) q
    elsewhere q ne = contains-marked _ q
        ∙ (get_or-set_other marks k q true false ne ∙ sym (contains-insert_other _ k q ne ∙ contains-marked marks q))

pub marked-unset : (marks : List Bool) (k : ℕ) → k < length marks → marked 0 (set marks k false) ≡ remove (marked 0 marks) k
marked-unset marks k h = same_set nat_cmp_total nat_cmp-IsAntisymmetric _ _
    (λ q. elim (eqb_tells q k) [ inl t ↦ at_it q t.1 | inr t ↦ elsewhere q t.1 ])
  where
    at_it : (q : ℕ) → q ≡ k → contains (marked 0 (set marks k false)) q ≡ contains (remove (marked 0 marks) k) q
    at_it q e = contains-marked _ q ∙ (ap (λ i. get_or (set marks k false) i false) e
        ∙ (get_or-set_same marks k false false h ∙ sym (contains-remove_same _ k q e)))

    elsewhere : (q : ℕ) → q ≢ k → contains (marked 0 (set marks k false)) q ≡ contains (remove (marked 0 marks) k) q
    elsewhere q ne = contains-marked _ q
        ∙ (get_or-set_other marks k q false false ne ∙ sym (contains-remove_other _ k q ne ∙ contains-marked marks q))

pub len-marked_more : (marks : List Bool) (k : ℕ) → contains (marked 0 marks) k ≡ false → len (insert (marked 0 marks) k) ≡ len
    (marked 0 marks) + 1
len-marked_more marks k h = len-insert nat_cmp_total (marked 0 marks) k ∙ ap (λ b. cond b (len (marked 0 marks)) (len (marked 0 marks) + 1))
    h

pub len-marked_less : (marks : List Bool) (k : ℕ) → contains (marked 0 marks) k ≡ true → len (remove (marked 0 marks) k) ≡ len
    (marked 0 marks) - 1
len-marked_less marks k h = len-remove nat_cmp_total (marked 0 marks) k ∙ ap (λ b. cond b (len (marked 0 marks) - 1) (len (marked 0 marks)))
    h

pub insert_contained : (s : FinSet nat_cmp) (k : ℕ) → contains s k ≡ true → insert s k ≡ s
insert_contained s k h = same_set nat_cmp_total nat_cmp-IsAntisymmetric _ _
    (λ q. elim (eqb_tells q k) [
      | inl t ↦ contains-insert_same s k q t.1 ∙ sym (ap (contains s) t.1 ∙ h)
      | inr t ↦ contains-insert_other s k
          q t.1
    ])

-- a set with a member isn't empty
pub len-positive : (s : FinSet nat_cmp) (k : ℕ) → contains s k ≡ true → 0 < len s
len-positive s k h = elim (cases_lt 0 (len s)) [
  | inl some ↦ some
  | inr none ↦ absurd
      (true≢false (sym h ∙ (ap (λ t. contains t k) (empty_of_len s (omega arith)) ∙ contains-empty nat_cmp k)))
]

pub ruleset marks = (contains-marked, marked-replicate, marked-set, marked-unset, len-marked_more, len-marked_less, insert_contained)

-- Marks with their count, which is at most 64

abbrev Counted : List Bool → ℕ → Type 0
Counted marks count = (length marks ≡ 32768) × (count ≡ len (marked 0 marks)) × (count ≤ 64)

pub counted_none : (marks : List Bool) → marks ≡ replicate 32768 false → Counted marks 0
counted_none marks e =
    let none : marked 0 marks ≡ empty = ap (marked 0) e ∙ marked-replicate 32768 0 in
    let size : length (replicate 32768 false) ≡ 32768 = length-replicate 32768 false in
    (ap length e ∙ size, sym (ap len none ∙ len-empty nat_cmp), omega arith)

pub counted_more : (marks : List Bool) (count pc : ℕ) → Counted marks count → pc < 32768 → contains (marked 0 marks) pc ≡ false → count ≢ 64
    → Counted (set marks pc true) (count + 1)
counted_more marks count pc h below new few =
    let inside : pc < length marks = omega (arith, h.0) in
    let size : length (set marks pc true) ≡ length marks = length-set marks pc true in (
      size ∙ h.0,
      ap (λ n. n + 1) h.1 ∙ sym (ap len (marked-set marks pc inside) ∙ len-marked_more marks pc new),
      omega (arith, h.2),
    )

pub counted_less : (marks : List Bool) (count pc : ℕ) → Counted marks count → pc < 32768 → contains (marked 0 marks) pc ≡ true
    → Counted (set marks pc false) (count - 1)
counted_less marks count pc h below there =
    let inside : pc < length marks = omega (arith, h.0) in
    let size : length (set marks pc false) ≡ length marks = length-set marks pc false in (
      size ∙ h.0,
      ap (λ n. n - 1) h.1 ∙ sym (ap len (marked-unset marks pc inside) ∙ len-marked_less marks pc there),
      omega (arith, h.2),
    )

pub counted_some : (marks : List Bool) (count pc : ℕ) → Counted marks count → contains (marked 0 marks) pc ≡ true → 1 ≤ count
counted_some marks count pc h there = let some = len-positive (marked 0 marks) pc there in omega (arith, h.1)

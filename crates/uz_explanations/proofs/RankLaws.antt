-- The ranking puts program counters with more instances first.
use Rattle.std.proofs.Common.{◌≡◌, ◌≤◌, ◌<◌, ◌+◌, ◌-◌, ◌∙◌, ◌⊎◌, inl, inr, ℕ, zero, suc, Bool, true, false, List, [], ◌∷◌, refl, sym, ap, subst, take, length, get_or, ltb, eqb, min, arith, Some}
use Rattle.std.specs.Prelude.{slice_get}
use Rattle.std.proofs.lemmas.Bool.{eqb-false, ltb-true, ltb-false, cases_lt, ne_eqb}
use Rattle.std.proofs.lemmas.List.{length-take}
use Rattle.std.proofs.lemmas.Option.{none-some, same_Some, slice_get_within}
use Rattle.uz_schedule.specs.declared.states.Instance.{Instance}
use Rattle.uz_explanations.specs.declared.ranking.Crowd.{Crowd}
use Rattle.uz_explanations.specs.Counting.{count_at, counts, counts_from, pc_end}
use Rattle.uz_explanations.specs.Ranking.{AreGreatest, IsAmong, IsSorted, Precedes, crowd_of, greatest, most_crowds, placed, ranked}

abbrev pub AllOf : (Crowd → Type 0) → List Crowd → Type 0
AllOf P [] = Unit {0}
AllOf P (c ∷ cs) = P c × AllOf P cs

abbrev pub Sorted : List Crowd → Type 0
Sorted [] = Unit {0}
Sorted (c ∷ cs) = AllOf (Precedes c) cs × Sorted cs

-- Facts of all crowds

weaker : (P Q : Crowd → Type 0) → ((c : Crowd) → P c → Q c) → (cs : List Crowd) → AllOf P cs → AllOf Q cs
weaker P Q f [] all = tt
weaker P Q f (c ∷ cs) all = (f c all.0, weaker P Q f cs all.1)

both : (P Q R : Crowd → Type 0) → ((c : Crowd) → P c → Q c → R c) → (cs : List Crowd) → AllOf P cs → AllOf Q cs → AllOf R cs
both P Q R f [] p q = tt
both P Q R f (c ∷ cs) p q = (f c p.0 q.0, both P Q R f cs p.1 q.1)

at : (P : Crowd → Type 0) (cs : List Crowd) (i : ℕ) (c : Crowd) → AllOf P cs → slice_get cs i ≡ Some c → P c
at P [] i c all there = absurd (none-some c there)
at P (d ∷ cs) zero c all there = subst P (same_Some d c there) all.0
at P (d ∷ cs) (suc i) c all there = at P cs i c all.1 there

placed_all : (P : Crowd → Type 0) (c : Crowd) (ds : List Crowd) → P c → AllOf P ds → AllOf P (placed c ds)
placed_all P c [] one all = (one, tt)
placed_all P c (d ∷ ds) one all = by_case (ltb c.count d.count) refl (placed_all P c ds one all.1)
  where
    by_case : (b : Bool) → ltb c.count d.count ≡ b → AllOf P (placed c ds) → AllOf P (placed c (d ∷ ds))
    by_case true e later = rw e (all.0, later)
    by_case false e later = rw e (one, all)

-- Order

-- it has the lowest program counter, and stands behind those with more instances
before_rest : (c d : Crowd) → d.count ≤ c.count → (e : Crowd) → Precedes d e → c.pc < e.pc → Precedes c e
before_rest c d less e ordered lower = (omega (arith, less, ordered.0), λ same. lower)

sorted_placed : (c : Crowd) (ds : List Crowd) → AllOf (λ d. c.pc < d.pc) ds → Sorted ds → Sorted (placed c ds)
sorted_placed c [] lower sorted = (tt, tt)
sorted_placed c (d ∷ ds) lower sorted = by_case (ltb c.count d.count) refl (sorted_placed c ds lower.1 sorted.1)
  where
    by_case : (b : Bool) → ltb c.count d.count ≡ b → Sorted (placed c ds) → Sorted (placed c (d ∷ ds))
    by_case true e later =
        let more = ltb-true c.count d.count e in
        rw e (placed_all (Precedes d) c ds (omega (arith, more), λ same. absurd (omega (arith, more, same))) sorted.0, later)
    by_case false e later =
        let less = ltb-false c.count d.count e in
        rw e (((less, λ same. lower.0), both (Precedes d) (λ x. c.pc < x.pc) (Precedes c) (before_rest c d less) ds sorted.0 lower.1), sorted)

ranked_low : (pc : ℕ) (ns : List ℕ) → AllOf (λ c. pc ≤ c.pc) (ranked pc ns)
ranked_low pc [] = tt
ranked_low pc (n ∷ ns) = by_case (eqb n 0) refl (weaker (λ c. suc pc ≤ c.pc) (λ c. pc ≤ c.pc) (λ c h. omega (arith, h)) (ranked (suc pc) ns) (ranked_low (suc pc) ns))
  where
    by_case : (b : Bool) → eqb n 0 ≡ b → AllOf (λ c. pc ≤ c.pc) (ranked (suc pc) ns) → AllOf (λ c. pc ≤ c.pc) (ranked pc (n ∷ ns))
    by_case true e later = rw e later
    by_case false e later = rw e (placed_all (λ c. pc ≤ c.pc) (record { pc = pc; count = n }) (ranked (suc pc) ns) (omega arith) later)

ranked_sorted : (pc : ℕ) (ns : List ℕ) → Sorted (ranked pc ns)
ranked_sorted pc [] = tt
ranked_sorted pc (n ∷ ns) = by_case (eqb n 0) refl (ranked_sorted (suc pc) ns)
  where
    by_case : (b : Bool) → eqb n 0 ≡ b → Sorted (ranked (suc pc) ns) → Sorted (ranked pc (n ∷ ns))
    by_case true e later = rw e later
    by_case false e later = rw e (sorted_placed (record { pc = pc; count = n }) (ranked (suc pc) ns)
        (weaker (λ c. suc pc ≤ c.pc) (λ c. pc < c.pc) (λ c h. omega (arith, h)) (ranked (suc pc) ns) (ranked_low (suc pc) ns)) later)

sorted_at : (cs : List Crowd) → Sorted cs → IsSorted cs
sorted_at [] sorted i j c d less one other = absurd (none-some c one)
sorted_at (x ∷ cs) sorted i zero c d less one other = absurd (omega (arith, less))
sorted_at (x ∷ cs) sorted zero (suc j) c d less one other =
    subst (λ y. Precedes y d) (same_Some x c one) (at (Precedes x) cs j d sorted.0 other)
sorted_at (x ∷ cs) sorted (suc i) (suc j) c d less one other = sorted_at cs sorted.1 i j c d (omega (arith, less)) one other

-- Places

there_placed : (c : Crowd) (ds : List Crowd) → IsAmong (placed c ds) c
there_placed c [] = (0, refl)
there_placed c (d ∷ ds) = by_case (ltb c.count d.count) refl (there_placed c ds)
  where
    by_case : (b : Bool) → ltb c.count d.count ≡ b → IsAmong (placed c ds) c → IsAmong (placed c (d ∷ ds)) c
    by_case true e later = rw e (suc later.0, later.1)
    by_case false e later = rw e (0, refl)

still_placed : (c x : Crowd) (ds : List Crowd) (i : ℕ) → slice_get ds i ≡ Some x → IsAmong (placed c ds) x
still_placed c x [] i there = absurd (none-some x there)
still_placed c x (d ∷ ds) zero there = by_case (ltb c.count d.count) refl
  where
    by_case : (b : Bool) → ltb c.count d.count ≡ b → IsAmong (placed c (d ∷ ds)) x
    by_case true e = rw e (0, there)
    by_case false e = rw e (1, there)
still_placed c x (d ∷ ds) (suc i) there = by_case (ltb c.count d.count) refl (still_placed c x ds i there)
  where
    by_case : (b : Bool) → ltb c.count d.count ≡ b → IsAmong (placed c ds) x → IsAmong (placed c (d ∷ ds)) x
    by_case true e later = rw e (suc later.0, later.1)
    by_case false e later = rw e (suc (suc i), there)

-- each program counter with instances is among them
among_ranked : (pc k : ℕ) (ns : List ℕ) → 0 < get_or ns k 0 → IsAmong (ranked pc ns) (record { pc = pc + k; count = get_or ns k 0 })
among_ranked pc k [] some = absurd (omega (arith, some))
among_ranked pc zero (n ∷ ns) some =
    rw (ne_eqb n 0 (λ e. absurd (omega (arith, some, e)))) (subst (λ p. IsAmong (placed (record { pc = pc; count = n }) (ranked (suc pc) ns)) (record { pc = p; count = n }))
    (omega arith) (there_placed (record { pc = pc; count = n }) (ranked (suc pc) ns)))
among_ranked pc (suc k) (n ∷ ns) some = by_case (eqb n 0) refl (subst (λ p. IsAmong (ranked (suc pc) ns) (record { pc = p; count = get_or ns k 0 }))
    (omega arith) (among_ranked (suc pc) k ns some))
  where
    by_case : (b : Bool) → eqb n 0 ≡ b → IsAmong (ranked (suc pc) ns) (record { pc = pc + suc k; count = get_or ns k 0 })
        → IsAmong (ranked pc (n ∷ ns)) (record { pc = pc + suc k; count = get_or ns k 0 })
    by_case true e later = rw e later
    by_case false e later = rw e (still_placed (record { pc = pc; count = n }) _ (ranked (suc pc) ns) later.0 later.1)

-- each has its number, which isn't 0
abbrev pub HasCount : ℕ → List ℕ → Crowd → Type 0
HasCount pc ns c = (pc ≤ c.pc) × (c.count ≡ get_or ns (c.pc - pc) 0) × (0 < c.count)

later_count : (pc n : ℕ) (ns : List ℕ) (c : Crowd) → HasCount (suc pc) ns c → HasCount pc (n ∷ ns) c
later_count pc n ns c has =
    let within = has.0 in
    let place : c.pc - pc ≡ suc (c.pc - suc pc) = omega (arith, within) in
    (omega (arith, within), has.1 ∙ sym (ap (λ k. get_or (n ∷ ns) k 0) place), has.2)

ranked_counts : (pc : ℕ) (ns : List ℕ) → AllOf (HasCount pc ns) (ranked pc ns)
ranked_counts pc [] = tt
ranked_counts pc (n ∷ ns) =
    by_case (eqb n 0) refl (weaker (HasCount (suc pc) ns) (HasCount pc (n ∷ ns)) (later_count pc n ns) (ranked (suc pc) ns) (ranked_counts (suc pc) ns))
  where
    here : (n ≡ 0 → ⊥) → HasCount pc (n ∷ ns) (record { pc = pc; count = n })
    here some =
        let none : 0 ≡ pc - pc = omega arith in
        (omega arith, subst (λ k. n ≡ get_or (n ∷ ns) k 0) none refl, omega (arith, some))

    by_case : (b : Bool) → eqb n 0 ≡ b → AllOf (HasCount pc (n ∷ ns)) (ranked (suc pc) ns) → AllOf (HasCount pc (n ∷ ns)) (ranked pc (n ∷ ns))
    by_case true e later = rw e later
    by_case false e later = rw e (placed_all (HasCount pc (n ∷ ns)) (record { pc = pc; count = n }) (ranked (suc pc) ns) (here (eqb-false n 0 e)) later)

-- Counts of instances

past_end : (instances : List Instance) (pc : ℕ) → pc_end instances ≤ pc → count_at pc instances ≡ 0
past_end [] pc past = refl
past_end (x ∷ xs) pc past = rw (ne_eqb x.pc pc (λ e. absurd (omega (arith, past, e)))) (past_end xs pc (omega (arith, past)))

from_at : (instances : List Instance) (from n k : ℕ) → k < n → get_or (counts_from instances from n) k 0 ≡ count_at (from + k) instances
from_at instances from zero k below = absurd (omega (arith, below))
from_at instances from (suc n) zero below = ap (λ p. count_at p instances) (omega arith)
from_at instances from (suc n) (suc k) below = from_at instances (suc from) n k (omega (arith, below)) ∙ ap (λ p. count_at p instances) (omega arith)

from_past : (instances : List Instance) (from n k : ℕ) → n ≤ k → get_or (counts_from instances from n) k 0 ≡ 0
from_past instances from zero k past = refl
from_past instances from (suc n) zero past = absurd (omega (arith, past))
from_past instances from (suc n) (suc k) past = from_past instances (suc from) n k (omega (arith, past))

pub counts_at : (instances : List Instance) (pc : ℕ) → get_or (counts instances) pc 0 ≡ count_at pc instances
counts_at instances pc = by_case (cases_lt pc (pc_end instances))
  where
    by_case : ((pc < pc_end instances) ⊎ (pc_end instances ≤ pc)) → get_or (counts instances) pc 0 ≡ count_at pc instances
    by_case (inl below) =
        let plus : 0 + pc ≡ pc = omega arith in from_at instances 0 (pc_end instances) pc below ∙ ap (λ p. count_at p instances) plus
    by_case (inr past) = from_past instances 0 (pc_end instances) pc past ∙ sym (past_end instances pc past)

-- The first ones

taken_at : (n : ℕ) (cs : List Crowd) (i : ℕ) (c : Crowd) → slice_get (take n cs) i ≡ Some c → (i < n) × (slice_get cs i ≡ Some c)
taken_at zero cs i c there = absurd (none-some c there)
taken_at (suc n) [] i c there = absurd (none-some c there)
taken_at (suc n) (x ∷ cs) zero c there = (omega arith, there)
taken_at (suc n) (x ∷ cs) (suc i) c there = let later = taken_at n cs i c there in (omega (arith, later.0), later.1)

still_taken : (n : ℕ) (cs : List Crowd) (i : ℕ) (c : Crowd) → i < n → slice_get cs i ≡ Some c → slice_get (take n cs) i ≡ Some c
still_taken zero cs i c below there = absurd (omega (arith, below))
still_taken (suc n) [] i c below there = there
still_taken (suc n) (x ∷ cs) zero c below there = there
still_taken (suc n) (x ∷ cs) (suc i) c below there = still_taken n cs i c (omega (arith, below)) there

module _ (instances : List Instance) where
  abbrev all_ranked : List Crowd
  all_ranked = ranked 0 (counts instances)

  order : IsSorted all_ranked
  order = sorted_at all_ranked (ranked_sorted 0 (counts instances))

  count_is : (c : Crowd) → IsAmong (greatest (counts instances)) c → (c ≡ crowd_of instances c.pc) × (0 < c.count)
  count_is c there =
      let has = at (HasCount 0 (counts instances)) all_ranked there.0 c (ranked_counts 0 (counts instances))
      (taken_at most_crowds all_ranked there.0 c there.1).1 in
      let minus : c.pc - 0 ≡ c.pc = omega arith in
      let is : c.count ≡ count_at c.pc instances =
      has.1 ∙ ap (λ k. get_or (counts instances) k 0) minus ∙ counts_at instances c.pc in
      ((λ i. record { pc = c.pc; count = is i }), has.2)

  ranked_place : (pc : ℕ) → 0 < count_at pc instances → IsAmong all_ranked (crowd_of instances pc)
  ranked_place pc some =
      subst (λ n. IsAmong all_ranked (record { pc = pc; count = n })) (counts_at instances pc)
      (subst (λ p. IsAmong all_ranked (record { pc = p; count = get_or (counts instances) pc 0 })) plus
      (among_ranked 0 pc (counts instances) (subst (λ n. 0 < n) (sym (counts_at instances pc)) some)))
    where
      plus : 0 + pc ≡ pc
      plus = omega arith

  told_or_less : (pc : ℕ) → IsAmong all_ranked (crowd_of instances pc) → IsAmong (greatest (counts instances)) (crowd_of instances pc)
      ⊎ ((length (greatest (counts instances)) ≡ most_crowds)
      × ((c : Crowd) → IsAmong (greatest (counts instances)) c → Precedes c (crowd_of instances pc)))
  told_or_less pc there = by_case (cases_lt there.0 most_crowds)
    where
      by_case : ((there.0 < most_crowds) ⊎ (most_crowds ≤ there.0)) → IsAmong (greatest (counts instances)) (crowd_of instances pc)
          ⊎ ((length (greatest (counts instances)) ≡ most_crowds)
          × ((c : Crowd) → IsAmong (greatest (counts instances)) c → Precedes c (crowd_of instances pc)))
      by_case (inl below) = inl (there.0, still_taken most_crowds all_ranked there.0 (crowd_of instances pc) below there.1)
      by_case (inr past) =
          let within = slice_get_within all_ranked there.0 (crowd_of instances pc) there.1 in
          let len : length (greatest (counts instances)) ≡ min most_crowds (length all_ranked) = length-take most_crowds all_ranked in
          inr (
            omega (arith, within, len, past),
            λ c told.
                let first = taken_at most_crowds all_ranked told.0 c told.1 in
                order told.0 there.0 c (crowd_of instances pc) (omega (arith, past, first.0)) first.1 there.1,
          )

  pub are_greatest : AreGreatest instances (greatest (counts instances))
  are_greatest = record {
    few = let len : length (greatest (counts instances)) ≡ min most_crowds (length all_ranked) = length-take most_crowds all_ranked in omega (arith, len);
    sorted = λ i j c d less one other. order i j c d less (taken_at most_crowds all_ranked i c one).1 (taken_at most_crowds all_ranked j d other).1;
    counted = count_is;
    all = λ pc some. told_or_less pc (ranked_place pc some);
  }

-- What is kept where positions are marked.
use Rattle.uz_search.proofs.Common.{◌≡◌, ◌≢◌, ℕ, zero, suc, ◌<◌, ◌≤◌, ◌+◌, ◌∷◌, [], List, Option, Some, None, refl, sym, ap, ◌∙◌, subst}
use Rattle.uz_search.proofs.Common.{replicate, slice_get, slice_set, inl, inr, ⊎_elim, arith, cases_eq, EventKind, Instance, Mark, Unpassed}
use Rattle.uz_search.proofs.Common.{Shown, Program, place_on, shown_at, mark_of, event_of_mark, Seen, MarksOne, MarksOwn, MarksAll}
use Rattle.uz_search.proofs.Common.{same_Some, slice_get_within, length}
use Rattle.uz_schedule.specs.declared.lines.EventKind.TheVariants as kinds

-- marks and what they stand for

pub event_back : (e : Option EventKind) → event_of_mark (mark_of e) ≡ e
event_back None = refl
event_back (Some (kinds.Sync level)) = refl
event_back (Some kinds.Pixel) = refl
event_back (Some kinds.Sound) = refl
event_back (Some kinds.Leave) = refl

marked : (e : Option EventKind) → mark_of e ≢ Unpassed
marked None h = cc
marked (Some (kinds.Sync level)) h = cc
marked (Some kinds.Pixel) h = cc
marked (Some kinds.Sound) h = cc
marked (Some kinds.Leave) h = cc

-- one position is marked once
pub seen_once : (marks : List Mark) (y : ℕ) (d e : Option EventKind) → Seen marks y d → Seen marks y e → d ≡ e
seen_once marks y d e a b = sym (event_back d) ∙ (ap event_of_mark (same_Some (mark_of d) (mark_of e) (sym a ∙ b)) ∙ event_back e)

pub none_marked : (n y : ℕ) (e : Option EventKind) → Seen (replicate n Unpassed) y e → ⊥
none_marked zero y e h = cc
none_marked (suc n) zero e h = marked e (sym (same_Some Unpassed (mark_of e) h))
none_marked (suc n) (suc y) e h = none_marked n y e h

-- one position

module _ {A : Type 0} where
  pub get_set_same : (xs : List A) (i : ℕ) (a : A) → i < length xs → slice_get (slice_set xs i a) i ≡ Some a
  get_set_same [] i a h = absurd (omega (arith, h))
  get_set_same (x ∷ xs) zero a h = refl
  get_set_same (x ∷ xs) (suc i) a h = get_set_same xs i a (omega (arith, h))

  pub get_set_other : (xs : List A) (i j : ℕ) (a : A) → (j ≡ i → ⊥) → slice_get (slice_set xs i a) j ≡ slice_get xs j
  get_set_other [] i j a ne = refl
  get_set_other (x ∷ xs) zero zero a ne = absurd (ne refl)
  get_set_other (x ∷ xs) zero (suc j) a ne = refl
  get_set_other (x ∷ xs) (suc i) zero a ne = refl
  get_set_other (x ∷ xs) (suc i) (suc j) a ne = get_set_other xs i j a (λ e. ne (ap suc e))

pub marks_new : (old new : List Mark) (y : ℕ) (m : Mark) (e : Option EventKind) → slice_get old y ≡ Some m → m ≡ Unpassed
    → new ≡ slice_set old y (mark_of e) → MarksOne old y e None new
marks_new old new y m e at free is = (
  (λ z d h. ⊎_elim
      (λ same. absurd (marked d (same_Some (mark_of d) m (sym (subst (λ k. Seen old k d) same h) ∙ at) ∙ free)))
      (λ ne. ap (λ l. slice_get l z) is ∙ (get_set_other old y z (mark_of e) ne ∙ h))
      (cases_eq z y)),
  mine,
  (λ z d h. ⊎_elim
      (λ same. inr (same, seen_once new y d e (subst (λ k. Seen new k d) same h) mine))
      (λ ne. inl (sym (get_set_other old y z (mark_of e) ne) ∙ (ap (λ l. slice_get l z) (sym is) ∙ h)))
      (cases_eq z y)),
)
  where
    mine : Seen new y e
    mine = ap (λ l. slice_get l y) is ∙ get_set_same old y (mark_of e) (slice_get_within old y m at)

-- one position more
module _ (p : Program) (x : Instance) (most : ℕ) (emit : Option (ℕ × EventKind))
    (old mid new : List Mark) (step : ℕ) where
  pub seen_more : ((k : ℕ) → 1 ≤ k → k ≤ step → Seen mid (place_on p x k) (shown_at emit k))
      → MarksOne mid (place_on p x (step + 1)) (shown_at emit (step + 1)) None new
      → (k : ℕ) → 1 ≤ k → k ≤ step + 1 → Seen new (place_on p x k) (shown_at emit k)
  seen_more seen one k some few =
      ⊎_elim
      (λ e. subst (λ n. Seen new (place_on p x n) (shown_at emit n)) (sym e) one.1)
      (λ ne. one.0 (place_on p x k) (shown_at emit k) (seen k some (omega arith)))
      (cases_eq k (step + 1))

  pub own_more : step < most → MarksOwn p x most emit old mid
      → MarksOne mid (place_on p x (step + 1)) (shown_at emit (step + 1)) None new → MarksOwn p x most emit old new
  own_more below own one = λ y e h. ⊎_elim
      (λ before. own y e before)
      (λ here. inr (record { clocks = step + 1; some = omega arith; few = omega arith; there = here.0; shows = here.1 }))
      (one.2 y e h)

  pub differs : (noted : Shown) → step < most → MarksOwn p x most emit old mid
      → MarksOne mid (place_on p x (step + 1)) (shown_at emit (step + 1)) (Some noted) new
      → MarksAll p x most emit old (Some noted) new
  differs noted below own one = (
    subst (λ k. MarksOwn p x most emit old k) (sym one.0) own,
    subst (λ k. Seen k noted.place noted.event) (sym one.0) one.2,
    (
      shown_at emit (step + 1),
      record { clocks = step + 1; some = omega arith; few = omega arith; there = one.1; shows = refl },
      one.3,
    ),
  )

-- A pair has one first refusal, and none where the rules hold.
use Rattle.uz_check.proofs.Common.{true, is_in_box, Contains, same_Some, slice_get_within, get_or_from_slice_get, le-leb, ◌≡◌, inl, inr, ℕ}
use Rattle.uz_check.proofs.Common.{zero, suc, ◌<◌, ◌≤◌, List, [], ◌∷◌, length, refl, sym, ◌∙◌, ap, subst, arith, Option, Some, None}
use Rattle.uz_check.proofs.Common.{slice_get, option_map, nat_cmp, FinMap, leb_tells, OneLocal, Schedule as Frame, Rest, Point, Cert}
use Rattle.uz_check.proofs.Common.{Accepts, RefusedWhy, Why, ScheduleRefusal, RestRefusal, RestsRefusal, EntryRefusal, InstanceRefusal}
use Rattle.uz_check.proofs.Common.{LineRefusal, PointRefusal, PointsRefusal, FirstRefusal}
use Rattle.uz_rules.proofs.LocalLaws.{local_is_unique}
use Rattle.uz_check.specs.declared.refusal.RefusedWhy.TheVariants.{Schedule, Point as PointWhy}
use Rattle.uz_check.specs.Refusal.{FirstOf, InTurn}
use Rattle.uz_check.proofs.SteadinessLaws.{steady_told}

-- a relation has one answer
abbrev One : (Why → Type 0) → Type 0
One answer = (a b : Why) → answer a → answer b → a ≡ b

first_one : (answer : ℕ → Why → Type 0) (from count : ℕ) → ((i : ℕ) → One (answer i)) → One (FirstOf answer from count)
first_one answer from count one None None h g = refl
first_one answer from count one None (Some b) h (i, low, high, refuses, before) = one i None (Some b) (h i low high) refuses
first_one answer from count one (Some a) None (i, low, high, refuses, before) g = one i (Some a) None refuses (g i low high)
first_one answer from count one (Some a) (Some b) (i, low, high, refuses, before) (j, under, over, other, earlier) =
    elim (leb_tells (suc i) j) [
      | inl t ↦ absurd (let e : Some a ≡ None = one i (Some a) None refuses (earlier i low t.1) in cc e)
      | inr t ↦
          elim (leb_tells (suc j) i) [
            | inl u ↦ absurd (let e : Some b ≡ None = one j (Some b) None other (before j under u.1) in cc e)
            | inr u ↦
                let same : j ≡ i = omega (arith, t.1, u.1) in
                one i (Some a) (Some b) refuses (subst (λ k. answer k (Some b)) same other)
          ]
    ]

turn_one : (first second : Why → Type 0) → One first → One second → One (InTurn first second)
turn_one first second f s None None h g = refl
turn_one first second f s None (Some b) h (inl g) = f None (Some b) h.0 g
turn_one first second f s None (Some b) h (inr g) = s None (Some b) h.1 g.1
turn_one first second f s (Some a) None (inl h) g = f (Some a) None h g.0
turn_one first second f s (Some a) None (inr h) g = s (Some a) None h.1 g.1
turn_one first second f s (Some a) (Some b) (inl h) (inl g) = f (Some a) (Some b) h g
turn_one first second f s (Some a) (Some b) (inl h) (inr g) = absurd (let e : Some a ≡ None = f (Some a) None h g.0 in cc e)
turn_one first second f s (Some a) (Some b) (inr h) (inl g) = absurd (let e : None ≡ Some b = f None (Some b) h.0 g in cc e)
turn_one first second f s (Some a) (Some b) (inr h) (inr g) = s (Some a) (Some b) h.1 g.1

schedule_one : (s : Frame) → One (ScheduleRefusal s)
unfolding ScheduleRefusal
schedule_one s a b h g = h ∙ sym g

rest_one : (cert : Cert) (rest : Rest) → One (RestRefusal cert rest)
unfolding RestRefusal
rest_one cert rest None None h g = refl
rest_one cert rest None (Some b) h g = absurd (g.0 h)
rest_one cert rest (Some a) None h g = absurd (h.0 g)
rest_one cert rest (Some a) (Some b) h g = ap (λ w. Some w) (h.1 ∙ sym g.1)

rest_at_one : (cert : Cert) (i : ℕ) → One (λ o. (rest : Rest) × (slice_get cert.rests i ≡ Some rest) × RestRefusal cert rest o)
rest_at_one cert i a b (rest, found, h) (other, there, g) =
    let same = same_Some other rest (sym there ∙ found) in
    rest_one cert rest a b h (subst (λ r. RestRefusal cert r b) same g)

rests_one : (cert : Cert) → One (RestsRefusal cert)
unfolding RestsRefusal
rests_one cert = first_one (λ i o. (rest : Rest) × (slice_get cert.rests i ≡ Some rest) × RestRefusal cert rest o) 0 (length cert.rests)
    (rest_at_one cert)

entry_one : (cert : Cert) → One (EntryRefusal cert)
unfolding EntryRefusal
entry_one cert None None h g = refl
entry_one cert None (Some b) h g = absurd (g.0 h)
entry_one cert (Some a) None h g = absurd (h.0 g)
entry_one cert (Some a) (Some b) h g = ap (λ w. Some w) (h.1 ∙ sym g.1)

instance_one : OneLocal → (image : FinMap nat_cmp ℕ) (cert : Cert) (id l c : ℕ) → One (InstanceRefusal image cert id l c)
unfolding InstanceRefusal
instance_one one image cert id l c None None h g = refl
instance_one one image cert id l c None (Some b) h g = absurd (let e : None ≡ Some g.0 = one image cert id l c None (Some g.0) h g.1 in
    cc e)
instance_one one image cert id l c (Some a) None h g = absurd (let e : Some h.0 ≡ None = one image cert id l c (Some h.0) None h.1 g in
    cc e)
instance_one one image cert id l c (Some a) (Some b) h g =
    let e : Some h.0 ≡ Some g.0 = one image cert id l c (Some h.0) (Some g.0) h.1 g.1 in
    let same : h.0 ≡ g.0 = cc in
    ap (λ w. Some w) (h.2 ∙ (ap (λ f. PointWhy id l c f) same ∙ sym g.2))

point_at_one : OneLocal → (image : FinMap nat_cmp ℕ) (cert : Cert) (id : ℕ)
    → One (λ o. (point : Point) × (slice_get cert.points id ≡ Some point) × PointRefusal image cert id point o)
unfolding PointRefusal LineRefusal
point_at_one one image cert id a b (point, found, h) (other, there, g) =
    first_one (LineRefusal image cert id point) point.l0 _ (λ l. first_one (InstanceRefusal image cert id l) point.c0 _
    (instance_one one image cert id l)) a b h (subst (λ p. PointRefusal image cert id p b) (same_Some other point (sym there ∙ found)) g)

points_one : OneLocal → (image : FinMap nat_cmp ℕ) (cert : Cert) → One (PointsRefusal image cert)
unfolding PointsRefusal
points_one one image cert = first_one (λ id o. (point : Point) × (slice_get cert.points id ≡ Some point) × PointRefusal image cert id point
    o) 0 (length cert.points) (point_at_one one image cert)

pub one_refusal : OneLocal → (image : FinMap nat_cmp ℕ) (cert : Cert) → One (FirstRefusal image cert)
one_refusal one image cert =
    turn_one (ScheduleRefusal cert.schedule) (InTurn (RestsRefusal cert) (InTurn (EntryRefusal cert) (PointsRefusal image cert)))
    (schedule_one cert.schedule)
    (turn_one (RestsRefusal cert) (InTurn (EntryRefusal cert) (PointsRefusal image cert)) (rests_one cert)
    (turn_one (EntryRefusal cert) (PointsRefusal image cert) (entry_one cert) (points_one one image cert)))

pub verdict_is_one : (image : FinMap nat_cmp ℕ) (cert : Cert) (a b : Option RefusedWhy) → FirstRefusal image cert a → FirstRefusal image
    cert b → a ≡ b
verdict_is_one image cert a b h g = one_refusal local_is_unique image cert a b h g

-- Nothing refuses where the rules hold

-- what a box's test says
pub record InBox (point : Point) (l c : ℕ) : Type 0 where
  pub line : point.l0 ≤ l
  pub line_end : l ≤ point.l1
  pub count : point.c0 ≤ c
  pub count_end : c ≤ point.c1

pub box_told : (point : Point) (l c : ℕ) → InBox point l c → is_in_box point l c ≡ true
box_told point l c h = rw (le-leb point.l0 l h.line, le-leb l point.l1 h.line_end, le-leb point.c0 c h.count, le-leb c point.c1 h.count_end)
    refl

pub in_list : {A : Type 0} (xs : List A) (i : ℕ) (x : A) → slice_get xs i ≡ Some x → Contains xs x
in_list xs i x e = (i, slice_get_within xs i x e, get_or_from_slice_get xs i x _ e)

there : {A : Type 0} (xs : List A) (i : ℕ) → i < length xs → (x : A) × (slice_get xs i ≡ Some x)
there [] i h = absurd (omega (arith, h))
there (x ∷ xs) zero h = (x, refl)
there (x ∷ xs) (suc i) h = there xs i (omega (arith, h))

pub accepted_none : (image : FinMap nat_cmp ℕ) (cert : Cert) → Accepts image cert → FirstRefusal image cert None
unfolding ScheduleRefusal RestsRefusal RestRefusal EntryRefusal PointsRefusal PointRefusal LineRefusal InstanceRefusal
accepted_none image cert h = (
  sym (ap (option_map (λ place. Schedule place.0 place.1)) (steady_told cert.schedule h.steady)),
  (
    λ i low high. let at = there cert.rests i (omega (arith, high)) in (at.0, at.1, h.rests at.0 (in_list cert.rests i at.0 at.1)),
    (
      h.entry,
      λ id low high.
          let at = there cert.points id (omega (arith, high)) in (
            at.0,
            at.1,
            λ l line line_end c count count_end.
                h.points id l c at.0 at.1 (box_told at.0 l c (record {
                  line = line;
                  line_end = omega (arith, line, line_end);
                  count = count;
                  count_end = omega (arith, count, count_end);
                })),
          ),
    ),
  ),
)

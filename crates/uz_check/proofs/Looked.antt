-- The lines of a point that aren't looked at: they pass where the lines before them do, and don't count.
use Rattle.uz_check.proofs.Common.{add-suc, add-zero, and_parts, ◌≡◌, inl, inr, ℕ, zero, suc, ◌+◌, ◌-◌, ◌*◌, ◌<◌, ◌≤◌, true, false, nat_lt}
use Rattle.uz_check.proofs.Common.{length, refl, sym, ◌∙◌, ap, subst, arith, Some, None, slice_get, nat_cmp, FinMap, leb_tells, nat_tests}
use Rattle.uz_check.proofs.Common.{ScheduleFits, next_line, Point, Cert, IsLocal, is_on_line, folds, FoldingLaw, is_implied, lines_to_check}
use Rattle.uz_check.proofs.Common.{instances_to_check_of, Why, InstanceRefusal, LineRefusal, PointRefusal}
use Rattle.uz_check.proofs.Covered.{next_is, on_line}

-- What is implied passes

instance_passes : FoldingLaw → (image : FinMap nat_cmp ℕ) (cert : Cert) (id l c : ℕ) (p : Point) → ScheduleFits cert.schedule
    → slice_get cert.points id ≡ Some p → p.l1 < length cert.schedule.lines → suc l ≤ p.l1 → is_implied cert p (suc l) ≡ true
    → InstanceRefusal image cert id l c None → InstanceRefusal image cert id (suc l) c None
unfolding InstanceRefusal
instance_passes law image cert id l c p fits found inside within told passes =
    let both = and_parts (nat_lt p.l0 (suc l)) (folds cert p (suc l - 1)) told in
    let after : p.l0 ≤ l = grind (arith, nat_tests, both.0) in
    let back : suc l - 1 ≡ l = omega arith in
    let next = next_is cert.schedule l (omega (arith, within, inside)) in
    let there : is_on_line p (next_line cert.schedule l) ≡ true = ap (is_on_line p) next ∙ on_line p (suc l) (omega (arith, after))
    within in
    let same = law image cert id l c p None fits found (omega (arith, within, inside)) (on_line p l after (omega (arith, within))) there
    (sym (ap (folds cert p) back) ∙ both.1) in
    subst (λ n. IsLocal image cert id n c None) next (same.0 passes)

line_passes : FoldingLaw → (image : FinMap nat_cmp ℕ) (cert : Cert) (id l : ℕ) (p : Point) → ScheduleFits cert.schedule
    → slice_get cert.points id ≡ Some p → p.l1 < length cert.schedule.lines → suc l ≤ p.l1 → is_implied cert p (suc l) ≡ true
    → LineRefusal image cert id p l None → LineRefusal image cert id p (suc l) None
unfolding LineRefusal
line_passes law image cert id l p fits found inside within told passes c low high = instance_passes law image cert id l c p fits found
    inside within
    told (passes c low high)

-- where line l passes, so do those after it that are implied
pub implied_pass : FoldingLaw → (image : FinMap nat_cmp ℕ) (cert : Cert) (id l n : ℕ) (p : Point) → ScheduleFits cert.schedule
    → slice_get cert.points id ≡ Some p → p.l1 < length cert.schedule.lines → l + n ≤ p.l1
    → ((k : ℕ) → suc l ≤ k → k ≤ l + n → is_implied cert p k ≡ true) → LineRefusal image cert id p l None
    → LineRefusal image cert id p (l + n)
    None
implied_pass law image cert id l zero p fits found inside within told passes =
    let same : l ≡ l + zero = omega arith in
    subst (λ k. LineRefusal image cert id p k None) same passes
implied_pass law image cert id l (suc n) p fits found inside within told passes =
    let before = implied_pass law image cert id l n p fits found inside (omega (arith, within)) (λ k low high. told k low (omega
    (arith, high)))
    passes in
    let on : suc (l + n) ≡ l + suc n = omega arith in
    subst (λ k. LineRefusal image cert id p k None) on (line_passes law image cert id (l + n) p fits found inside (omega (arith, within))
    (told (suc (l + n)) (omega arith) (omega arith)) before)

-- the lines up to the next one that isn't implied
pub lines_more : FoldingLaw → (image : FinMap nat_cmp ℕ) (cert : Cert) (id l next : ℕ) (p : Point) → ScheduleFits cert.schedule
    → slice_get cert.points id ≡ Some p → p.l1 < length cert.schedule.lines → next ≤ suc p.l1 → ((k : ℕ) → l + 1 ≤ k → k < next
    → is_implied cert p k ≡ true)
    → ((j : ℕ) → p.l0 ≤ j → j < l → LineRefusal image cert id p j None) → LineRefusal image cert id p l None → (j : ℕ) → p.l0 ≤ j → j < next
    → LineRefusal image cert id p j None
lines_more law image cert id l next p fits found inside within told before now j low high =
    elim (leb_tells l j) [
      | inl t ↦
          let on : l + (j - l) ≡ j = omega (arith, t.1) in
          subst (λ k. LineRefusal image cert id p k None) on
          (implied_pass law image cert id l (j - l) p fits found inside (omega (arith, t.1, high, within))
          (λ k a b. told k (omega (arith, a)) (omega (arith, b, t.1, high))) now)
      | inr t ↦ before j low (omega (arith, t.1))
    ]

-- What is implied doesn't count

implied_more : (cert : Cert) (p : Point) (n : ℕ) → is_implied cert p (p.l0 + n) ≡ true → lines_to_check cert p (suc n)
    ≡ lines_to_check cert p n
implied_more cert p n h = rw h (omega arith)

more_to_check : (cert : Cert) (p : Point) (n : ℕ) → is_implied cert p (p.l0 + n) ≡ false → lines_to_check cert p (suc n) ≡ suc
    (lines_to_check cert p n)
more_to_check cert p n h = rw h (omega arith)

implied_alone : (cert : Cert) (p : Point) (n k : ℕ) → ((j : ℕ) → p.l0 + n ≤ j → j < p.l0 + (n + k) → is_implied cert p j ≡ true)
    → lines_to_check cert p (n + k) ≡ lines_to_check cert p n
implied_alone cert p n zero told = ap (lines_to_check cert p) (omega arith)
implied_alone cert p n (suc k) told =
    let on : n + suc k ≡ suc (n + k) = omega arith in
    ap (lines_to_check cert p) on
    ∙ (implied_more cert p (n + k) (told (p.l0 + (n + k)) (omega arith) (omega arith)) ∙ implied_alone cert p n k
    (λ j low high. told j low (omega (arith, high))))

-- one line that isn't implied, and those that it implies
pub one_more_line : (cert : Cert) (p : Point) (l next w : ℕ) → p.l0 ≤ l → l + 1 ≤ next → is_implied cert p l ≡ false
    → ((k : ℕ) → l + 1 ≤ k → k < next → is_implied cert p k ≡ true)
    → lines_to_check cert p (next - p.l0) * w ≡ lines_to_check cert p (l - p.l0) * w + w
one_more_line cert p l next w low on h told =
    let n = l - p.l0 in
    let at : p.l0 + n ≡ l = omega (arith, low) in
    let parts : next - p.l0 ≡ suc n + (next - (l + 1)) = omega (arith, low, on) in
    let rest : lines_to_check cert p (suc n + (next - (l + 1))) ≡ lines_to_check cert p (suc n) =
    implied_alone cert p (suc n) (next - (l + 1)) (λ k a b. told k (omega (arith, a, at)) (omega (arith, b, at, on))) in
    let one : lines_to_check cert p (suc n) ≡ suc (lines_to_check cert p n) = more_to_check cert p n (ap (is_implied cert p) at ∙ h) in
    ap (λ k. k * w) (ap (lines_to_check cert p) parts ∙ (rest ∙ one)) ∙ suc_times (lines_to_check cert p n) w
  where
    suc_times : (a w : ℕ) → suc a * w ≡ a * w + w
    suc_times a w = grind arith

to_check_grows : (cert : Cert) (p : Point) (n m : ℕ) → lines_to_check cert p n ≤ lines_to_check cert p (n + m)
to_check_grows cert p n zero =
    let same = ap (lines_to_check cert p) (add-zero n) in
    omega (arith, same)
to_check_grows cert p n (suc m) =
    let more = to_check_grows cert p n m in
    let same = ap (lines_to_check cert p) (add-suc n m) in
    let step : lines_to_check cert p (n + m) ≤ lines_to_check cert p (suc (n + m)) = omega arith in
    omega (arith, more, same, step)

times_more : (a b w : ℕ) → a ≤ b → a * w ≤ b * w
times_more a b zero h = omega arith
times_more a b (suc w) h =
    let less = times_more a b w h in
    let left : a * suc w ≡ a * w + a = grind arith in
    let right : b * suc w ≡ b * w + b = grind arith in
    omega (arith, less, left, right, h)

-- a line of the box that isn't implied, with those before it, is part of the whole box
pub line_of_box : (cert : Cert) (p : Point) (l w : ℕ) → p.l0 ≤ l → l ≤ p.l1 → is_implied cert p l ≡ false → lines_to_check cert p
    (l - p.l0) * w + w ≤ lines_to_check cert p (suc p.l1 - p.l0) * w
line_of_box cert p l w low high h =
    let here = one_more_line cert p l (l + 1) w low (omega arith) h (λ k a b. absurd (omega (arith, a, b))) in
    let parts : (l + 1 - p.l0) + (p.l1 - l) ≡ suc p.l1 - p.l0 = omega (arith, low, high) in
    let grows = to_check_grows cert p (l + 1 - p.l0) (p.l1 - l) in
    let all = times_more (lines_to_check cert p (l + 1 - p.l0)) (lines_to_check cert p (suc p.l1 - p.l0)) w
    (subst (λ k. lines_to_check cert p (l + 1 - p.l0) ≤ lines_to_check cert p k) parts grows) in
    omega (arith, here, all)

-- the first line of a box isn't implied
pub first_not_implied : (cert : Cert) (p : Point) → is_implied cert p p.l0 ≡ false
first_not_implied cert p =
    let no : nat_lt p.l0 p.l0 ≡ false = grind (arith, nat_tests) in
    rw no refl

-- A point whose box has one line

pub one_line_refusal : (image : FinMap nat_cmp ℕ) (cert : Cert) (id : ℕ) (p : Point) (why : Why) → p.l0 ≡ p.l1
    → LineRefusal image cert id p p.l0 why → PointRefusal image cert id p why
unfolding PointRefusal
one_line_refusal image cert id p None same line = λ l low high.
    subst (λ k. LineRefusal image cert id p k None) (omega (arith, low, high, same)) line
one_line_refusal image cert id p (Some why) same line =
    (p.l0, omega arith, omega (arith, same), line, λ j low high. absurd (omega (arith, low, high)))

pub one_line_looked : (cert : Cert) (p : Point) (seen looked : ℕ) → p.l0 ≡ p.l1 → looked ≤ seen + (suc p.c1 - p.c0)
    → looked ≤ seen + instances_to_check_of cert p
one_line_looked cert p seen looked same few =
    let part = line_of_box cert p p.l0 (suc p.c1 - p.c0) (omega arith) (omega (arith, same)) (first_not_implied cert p) in
    omega (arith, part, few)

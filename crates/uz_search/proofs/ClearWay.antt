-- What an instance passes is clear, or there is a clock that is unsteady.
use Rattle.uz_search.proofs.Common.{◌≡◌, ◌≢◌, ℕ, zero, suc, ◌≤◌, ◌+◌, ◌⊎◌, Option, Some, None, Bool, true, false, ◌&&◌, nat_eq, nat_lt}
use Rattle.uz_search.proofs.Common.{refl, sym, ap, ◌∙◌, subst, inl, inr, ⊎_elim, if◌then◌else◌, true≢false, arith, cases_eq, and_parts}
use Rattle.uz_search.proofs.Common.{nat_tests, Main, EventKind, Sync, Pixel, Sound, Leave, Instance, Next, Program, clock_on, most_clocks}
use Rattle.uz_search.proofs.Common.{shown_at, IsUnsteady, PassesUnsteady, is_clear_at, is_clear_way, same_Some}
use Rattle.uz_search.specs.Tests.{is_fall}

one_false : (a b : Bool) → (a && b) ≡ false → (a ≡ false) ⊎ (b ≡ false)
one_false true b h = inr h
one_false false b h = inl refl

-- one clock

fall_choice : (e : EventKind) → is_fall e ≡ true → e ≡ Sync 0
fall_choice (Sync n) h = let none : n ≡ 0 = grind (arith, nat_tests) in ap Sync none
fall_choice Pixel h = absurd (true≢false (sym h))
fall_choice Sound h = absurd (true≢false (sym h))
fall_choice Leave h = absurd (true≢false (sym h))

unclear : (fall q : ℕ) (shown : Option EventKind) → is_clear_at fall q shown ≡ false → IsUnsteady fall q shown
unclear fall q None h = inr (inr (grind (arith, nat_tests), λ e. cc))
unclear fall q (Some e) h = by (is_fall e) refl
  where
    by : (b : Bool) → is_fall e ≡ b → IsUnsteady fall q (Some e)
    by true is = let test : nat_eq q fall ≡ false = ap (λ b. if b then nat_eq q fall else nat_lt fall q) (sym is) ∙ h in
        inr (inl (ap Some (fall_choice e is), grind (arith, nat_tests)))
    by false is =
        let test : nat_lt fall q ≡ false = ap (λ b. if b then nat_eq q fall else nat_lt fall q) (sym is) ∙ h in
        let le : q ≤ fall = grind (arith, nat_tests) in
        ⊎_elim
        (λ (same : q ≡ fall). inr (inr (same, λ s. true≢false (sym (ap is_fall (same_Some e (Sync 0) s)) ∙ is))))
        (λ (apart : q ≢ fall). inl (e, refl, omega (arith, le, apart)))
        (cases_eq q fall)

clear : (fall q : ℕ) (shown : Option EventKind) → is_clear_at fall q shown ≡ true → IsUnsteady fall q shown → ⊥
clear fall q None h (inl u) = let e = u.1 in absurd cc
clear fall q None h (inr (inl u)) = let e = u.0 in absurd cc
clear fall q None h (inr (inr u)) = let same = u.0 in grind (arith, nat_tests)
clear fall q (Some e) h u = by (is_fall e) refl u
  where
    by : (b : Bool) → is_fall e ≡ b → IsUnsteady fall q (Some e) → ⊥
    by true is (inl v) =
        let test : nat_eq q fall ≡ true = ap (λ b. if b then nat_eq q fall else nat_lt fall q) (sym is) ∙ h in
        let lt = v.2 in grind (arith, nat_tests)
    by true is (inr (inl v)) =
        let test : nat_eq q fall ≡ true = ap (λ b. if b then nat_eq q fall else nat_lt fall q) (sym is) ∙ h in
        let ne = v.1 in grind (arith, nat_tests)
    by true is (inr (inr v)) = v.1 (ap Some (fall_choice e is))
    by false is (inl v) =
        let test : nat_lt fall q ≡ true = ap (λ b. if b then nat_eq q fall else nat_lt fall q) (sym is) ∙ h in
        let lt = v.2 in grind (arith, nat_tests)
    by false is (inr (inl v)) = true≢false (sym (ap is_fall (same_Some e (Sync 0) v.0)) ∙ is)
    by false is (inr (inr v)) =
        let test : nat_lt fall q ≡ true = ap (λ b. if b then nat_eq q fall else nat_lt fall q) (sym is) ∙ h in
        let same = v.0 in grind (arith, nat_tests)

-- the way

module _ (program : Program) (x : Instance) (emit : Option (ℕ × EventKind)) where
  abbrev Test : ℕ → Bool
  Test k = is_clear_at program.schedule.fall (clock_on program x k) (shown_at emit k)

  pub clear_each : (n : ℕ) → is_clear_way program x emit n ≡ true → (k : ℕ) → 1 ≤ k → k ≤ n → Test k ≡ true
  unfolding is_clear_way
  clear_each zero h k some few = absurd (omega (arith, some, few))
  clear_each (suc n) h k some few =
      let b = and_parts (is_clear_way program x emit n) (Test (suc n)) h in
      ⊎_elim (λ (same : k ≡ suc n). subst (λ m. Test m ≡ true) (sym same) b.1) (λ (apart : k ≢ suc n). clear_each n b.0 k some
      (omega (arith, few, apart))) (cases_eq k (suc n))

  pub unclear_some : (n : ℕ) → is_clear_way program x emit n ≡ false → (k : ℕ) × (1 ≤ k) × (k ≤ n) × (Test k ≡ false)
  unfolding is_clear_way
  unclear_some zero h = absurd (true≢false h)
  unclear_some (suc n) h = ⊎_elim
      (λ before. let r = unclear_some n before in (r.0, r.1, (let le = r.2 in omega (arith, le)), r.3))
      (λ here. (suc n, omega arith, omega arith, here))
      (one_false (is_clear_way program x emit n) (Test (suc n)) h)

pub way_none : (program : Program) (x : Instance) (emit : Option (ℕ × EventKind)) → is_clear_way program x emit 0 ≡ true
unfolding is_clear_way
way_none program x emit = refl

pub way_more : (program : Program) (x : Instance) (emit : Option (ℕ × EventKind)) (n : ℕ)
    → is_clear_way program x emit (n + 1) ≡ (is_clear_way program x emit n && is_clear_at program.schedule.fall
    (clock_on program x (n + 1)) (shown_at emit (n + 1)))
unfolding is_clear_way
way_more program x emit n = let e : n + 1 ≡ suc n = omega arith in rw e refl

pub passes_from : (program : Program) (x : Instance) (next : Next) → x.kind ≢ Main → is_clear_way program x next.emit
    (most_clocks program x next.out.items) ≡ false → PassesUnsteady program x next
passes_from program x next apart h =
    let r = unclear_some program x next.emit (most_clocks program x next.out.items) h in
    record {
      apart = apart;
      clocks = r.0;
      some = r.1;
      few = r.2;
      unsteady = unclear program.schedule.fall (clock_on program x r.0) (shown_at next.emit r.0) r.3;
    }

pub passes_not : (program : Program) (x : Instance) (next : Next)
    → is_clear_way program x next.emit (most_clocks program x next.out.items) ≡ true
    → PassesUnsteady program x next → ⊥
passes_not program x next h u =
    clear program.schedule.fall (clock_on program x u.clocks) (shown_at next.emit u.clocks)
    (clear_each program x next.emit (most_clocks program x next.out.items) h u.clocks u.some u.few) u.unsteady

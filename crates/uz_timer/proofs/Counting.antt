-- The division counts: one clock is a step of the count, and clocks add up.
use Rattle.std.proofs.Common.{◌≡◌, ℕ, ◌+◌, ◌-◌, ◌%◌, ◌<◌, ◌≤◌, Bool, true, false, ◌||◌, if◌then◌else◌, nat_eq, nat_lt, nat_le, refl, sym}
use Rattle.std.proofs.Common.{◌∙◌, ap, arith}
use Rattle.std.proofs.lemmas.Bool.Decides.{nat_tests}
use Rattle.std.proofs.Math.Nat.{mod-lt, mod-eq_of_lt, mod_self, mod-add-mod}
use Rattle.uz_core.specs.Timer.{Timer, IsTimer, is_counting, count_after, matches_within, timer_after}
use Rattle.uz_timer.specs.OneClock.{count_up, one_clock}

-- The three cases of the division

pub low_count : (count top clocks : ℕ) → count ≤ top → count_after count top clocks ≡ (count + clocks) % (top + 1)
low_count count top clocks h = grind (arith, nat_tests)

pub mid_count : (count top clocks : ℕ) → top < count → count + clocks < 65536 → count_after count top clocks ≡ count + clocks
mid_count count top clocks h k = grind (arith, nat_tests)

high_count : (count top clocks : ℕ) → top < count → 65536 ≤ count + clocks → count_after count top clocks ≡ (count + clocks - 65536) %
    (top + 1)
high_count count top clocks h k = grind (arith, nat_tests)

pub low_match : (count top clocks : ℕ) → count ≤ top → matches_within count top clocks ≡ nat_le (top + 1) (count + clocks)
low_match count top clocks h = grind (arith, nat_tests)

pub mid_match : (count top clocks : ℕ) → top < count → count + clocks < 65536 → matches_within count top clocks ≡ false
mid_match count top clocks h k = grind (arith, nat_tests)

high_match : (count top clocks : ℕ) → top < count → 65536 ≤ count + clocks → matches_within count top clocks ≡ nat_le (top + 1)
    (count + clocks - 65536)
high_match count top clocks h k = grind (arith, nat_tests)

-- Clocks add up

abbrev Adds : ℕ → ℕ → ℕ → ℕ → Type 0
Adds count top a b =
    (count_after count top (a + b) ≡ count_after (count_after count top a) top b) ×
    (matches_within count top (a + b) ≡ (matches_within count top a || matches_within (count_after count top a) top b))

-- whether a sum passes the top, in two parts
passes : (n e b : ℕ) → 0 < n → nat_le n (e + b) ≡ (nat_le n e || nat_le n (e % n + b))
passes n e b h = by_test (nat_le n e) refl
  where
    by_test : (t : Bool) → nat_le n e ≡ t → nat_le n (e + b) ≡ (t || nat_le n (e % n + b))
    by_test true t = grind (arith, nat_tests)
    by_test false t =
        let below : e < n = grind (arith, nat_tests) in
        ap (λ x. nat_le n (x + b)) (sym (mod-eq_of_lt below))

low_adds : (count top a b : ℕ) → count ≤ top → Adds count top a b
low_adds count top a b h =
    let n = top + 1 in
    let next = (count + a) % n in
    let is_next : count_after count top a ≡ next = low_count count top a h in
    let small : next < n = mod-lt (count + a) (omega arith) in
    let sum : count + (a + b) ≡ count + a + b = omega arith in (
      low_count count top (a + b) h ∙ (ap (λ x. x % n) sum
          ∙ (sym (mod-add-mod (count + a) n b) ∙ (sym (low_count next top b (omega arith)) ∙ ap (λ x. count_after x top b) (sym is_next)))),
      low_match count top (a + b) h ∙ (ap (λ x. nat_le n x) sum ∙ (passes n (count + a) b (omega arith) ∙
          (ap (λ x. x || nat_le n (next + b)) (sym (low_match count top a h))
          ∙ (ap (λ x. matches_within count top a || x) (sym (low_match next top b (omega arith)))
          ∙ ap (λ x. matches_within count top a || matches_within x top b) (sym is_next))))),
    )

mid_adds : (count top a b : ℕ) → top < count → count + a < 65536 → Adds count top a b
mid_adds count top a b h k =
    let is_next : count_after count top a ≡ count + a = mid_count count top a h k in
    let sum : count + (a + b) ≡ count + a + b = omega arith in
    let on = by_test (nat_lt (count + a + b) 65536) refl in (
      on.0 ∙ ap (λ x. count_after x top b) (sym is_next),
      on.1 ∙ (ap (λ x. x || matches_within (count + a) top b) (sym (mid_match count top a h k))
          ∙ ap (λ x. matches_within count top a || matches_within x top b) (sym is_next)),
    )
  where
    by_test : (t : Bool) → nat_lt (count + a + b) 65536 ≡ t → (count_after count top (a + b) ≡ count_after (count + a) top b)
        × (matches_within count top (a + b) ≡ matches_within (count + a) top b)
    by_test true t =
        let below : count + a + b < 65536 = grind (arith, nat_tests) in
        let sum : count + (a + b) ≡ count + a + b = omega arith in (
          mid_count count top (a + b) h (omega arith) ∙ (sum ∙ sym (mid_count (count + a) top b (omega arith) below)),
          mid_match count top (a + b) h (omega arith) ∙ sym (mid_match (count + a) top b (omega arith) below),
        )
    by_test false t =
        let above : 65536 ≤ count + a + b = grind (arith, nat_tests) in
        let sum : count + (a + b) ≡ count + a + b = omega arith in (
          high_count count top (a + b) h (omega arith)
              ∙ (ap (λ x. (x - 65536) % (top + 1)) sum ∙ sym (high_count (count + a) top b (omega arith) above)),
          high_match count top (a + b) h (omega arith)
              ∙ (ap (λ x. nat_le (top + 1) (x - 65536)) sum ∙ sym (high_match (count + a) top b (omega arith) above)),
        )

high_adds : (count top a b : ℕ) → top < count → 65536 ≤ count + a → Adds count top a b
high_adds count top a b h k =
    let n = top + 1 in
    let e = count + a - 65536 in
    let next = e % n in
    let is_next : count_after count top a ≡ next = high_count count top a h k in
    let small : next < n = mod-lt e (omega arith) in
    let sum : count + (a + b) - 65536 ≡ e + b = omega arith in (
      high_count count top (a + b) h (omega arith)
          ∙ (ap (λ x. x % n) sum ∙ (sym (mod-add-mod e n b) ∙ (sym (low_count next top b (omega arith)) ∙ ap (λ x. count_after x top b)
          (sym is_next)))),
      high_match count top (a + b) h (omega arith) ∙ (ap (λ x. nat_le n x) sum ∙ (passes n e b (omega arith) ∙
          (ap (λ x. x || nat_le n (next + b)) (sym (high_match count top a h k))
          ∙ (ap (λ x. matches_within count top a || x) (sym (low_match next top b (omega arith)))
          ∙ ap (λ x. matches_within count top a || matches_within x top b) (sym is_next))))),
    )

adds : (count top a b : ℕ) → Adds count top a b
adds count top a b = by_top (nat_le count top) refl
  where
    by_end : (t : Bool) → nat_lt (count + a) 65536 ≡ t → top < count → Adds count top a b
    by_end true t h = mid_adds count top a b h (grind (arith, nat_tests))
    by_end false t h = high_adds count top a b h (grind (arith, nat_tests))

    by_top : (t : Bool) → nat_le count top ≡ t → Adds count top a b
    by_top true t = low_adds count top a b (grind (arith, nat_tests))
    by_top false t = by_end (nat_lt (count + a) 65536) refl (grind (arith, nat_tests))

-- The timer

abbrev counted : Timer → ℕ → Bool → Timer
counted t count matched = record t { count = count; matched = matched }

or_assoc : (x y z : Bool) → (x || (y || z)) ≡ ((x || y) || z)
or_assoc true y z = refl
or_assoc false y z = refl

pub clocks_add : (a b : ℕ) (t : Timer) → timer_after (a + b) t ≡ timer_after b (timer_after a t)
clocks_add a b t = by_mode (is_counting t) refl
  where
    by_mode : (m : Bool) → is_counting t ≡ m → timer_after (a + b) t ≡ timer_after b (timer_after a t)
    by_mode true e =
        let first : Timer = counted t (count_after t.count t.top a) (t.matched || matches_within t.count t.top a) in
        let whole : Timer = counted t (count_after t.count t.top (a + b)) (t.matched || matches_within t.count t.top (a + b)) in
        let second : Timer = counted t (count_after first.count t.top b) (first.matched || matches_within first.count t.top b) in
        let sum = adds t.count t.top a b in
        ap (λ x. if x then whole else t) e ∙
        (ap (λ x. counted t x (t.matched || matches_within t.count t.top (a + b))) sum.0 ∙
        (ap (λ x. counted t (count_after first.count t.top b) (t.matched || x)) sum.1 ∙
        (ap (λ x. counted t (count_after first.count t.top b) x) (or_assoc t.matched (matches_within t.count t.top a)
        (matches_within first.count t.top b)) ∙
        (ap (λ x. if x then second else first) (sym e) ∙
        ap (λ x. timer_after b (if x then first else t)) (sym e)))))
    by_mode false e =
        ap (λ x. if x then counted t (count_after t.count t.top (a + b)) (t.matched || matches_within t.count t.top (a + b)) else t) e ∙
        (ap (λ x. if x then counted t (count_after t.count t.top b) (t.matched || matches_within t.count t.top b) else t) (sym e) ∙
        ap (λ x. timer_after b (if x then counted t (count_after t.count t.top a) (t.matched || matches_within t.count t.top a) else t))
        (sym e))

-- One clock

or_true : (x : Bool) → (x || true) ≡ true
or_true true = refl
or_true false = refl

pub or_false : (x : Bool) → (x || false) ≡ x
or_false true = refl
or_false false = refl

abbrev up_by : Timer → Bool → Bool → Timer
up_by t at_top at_end = if at_top then counted t 0 true else if at_end then counted t 0 t.matched else counted t (t.count + 1) t.matched

up_parts : (t : Timer) → t.count < 65536 → t.top < 65536 → counted t (count_after t.count t.top 1)
    (t.matched || matches_within t.count t.top 1) ≡ count_up t
up_parts t c h = by_top (nat_eq t.count t.top) refl
  where
    from : (count : ℕ) (matched : Bool) → count_after t.count t.top 1 ≡ count → matches_within t.count t.top 1 ≡ matched
        → counted t (count_after t.count t.top 1) (t.matched || matches_within t.count t.top 1) ≡ counted t count (t.matched || matched)
    from count matched p q = ap (λ x. counted t x (t.matched || matches_within t.count t.top 1)) p
        ∙ ap (λ x. counted t count (t.matched || x)) q

    on : nat_eq t.count t.top ≡ false → nat_eq t.count 65535 ≡ false → (count_after t.count t.top 1 ≡ t.count + 1)
        × (matches_within t.count t.top 1 ≡ false)
    on e f = by_side (nat_lt t.count t.top) refl
      where
        by_side : (s : Bool) → nat_lt t.count t.top ≡ s → (count_after t.count t.top 1 ≡ t.count + 1)
            × (matches_within t.count t.top 1 ≡ false)
        by_side true s =
            let below : t.count < t.top = grind (arith, nat_tests) in
            let far : nat_le (t.top + 1) (t.count + 1) ≡ false = grind (arith, nat_tests) in
            (low_count t.count t.top 1 (omega arith) ∙ mod-eq_of_lt (omega arith), low_match t.count t.top 1 (omega arith) ∙ far)
        by_side false s =
            let above : t.top < t.count = grind (arith, nat_tests) in
            let room : t.count + 1 < 65536 = grind (arith, nat_tests) in
            (mid_count t.count t.top 1 above room, mid_match t.count t.top 1 above room)

    by_end : (f : Bool) → nat_eq t.count 65535 ≡ f → nat_eq t.count t.top ≡ false → counted t (count_after t.count t.top 1)
        (t.matched || matches_within t.count t.top 1) ≡ count_up t
    by_end true f e =
        let above : t.top < t.count = grind (arith, nat_tests) in
        let last : t.count ≡ 65535 = grind (arith, nat_tests) in
        let none : t.count + 1 - 65536 ≡ 0 = omega arith in
        let zero_mod : (t.count + 1 - 65536) % (t.top + 1) ≡ 0 = ap (λ x. x % (t.top + 1)) none ∙ mod-eq_of_lt (omega arith) in
        let far : nat_le (t.top + 1) (t.count + 1 - 65536) ≡ false = grind (arith, nat_tests) in
        from 0 false (high_count t.count t.top 1 above (omega arith) ∙ zero_mod) (high_match t.count t.top 1 above (omega arith) ∙ far) ∙
        (ap (λ x. counted t 0 x) (or_false t.matched) ∙ (ap (λ x. up_by t false x) (sym f) ∙ ap (λ x. up_by t x (nat_eq t.count 65535))
        (sym e)))
    by_end false f e =
        let step = on e f in
        from (t.count + 1) false step.0 step.1 ∙
        (ap (λ x. counted t (t.count + 1) x) (or_false t.matched)
        ∙ (ap (λ x. up_by t false x) (sym f) ∙ ap (λ x. up_by t x (nat_eq t.count 65535)) (sym e)))

    by_top : (e : Bool) → nat_eq t.count t.top ≡ e → counted t (count_after t.count t.top 1) (t.matched || matches_within t.count t.top 1)
        ≡ count_up t
    by_top true e =
        let same : t.count ≡ t.top = grind (arith, nat_tests) in
        let full : (t.count + 1) % (t.top + 1) ≡ 0 = ap (λ x. (x + 1) % (t.top + 1)) same ∙ mod_self (t.top + 1) in
        let passed : nat_le (t.top + 1) (t.count + 1) ≡ true = grind (arith, nat_tests) in
        from 0 true (low_count t.count t.top 1 (omega arith) ∙ full) (low_match t.count t.top 1 (omega arith) ∙ passed) ∙
        (ap (λ x. counted t 0 x) (or_true t.matched) ∙ ap (λ x. up_by t x (nat_eq t.count 65535)) (sym e))
    by_top false e = by_end (nat_eq t.count 65535) refl e

pub one_clock_counts : (t : Timer) → IsTimer t → timer_after 1 t ≡ one_clock t
one_clock_counts t h = ap (λ x. if is_counting t then x else t) (up_parts t h.count h.top)

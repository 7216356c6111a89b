-- The timer within a line, and past its end.
use Rattle.uz_check.proofs.Common.{◌≡◌, ℕ, ◌+◌, ◌-◌, ◌≤◌, Bool, true, false, if◌then◌else◌, refl, ◌∙◌, arith, or-false, or-true, le-leb}
use Rattle.uz_check.proofs.Common.{lt-leb, ◌||◌, Timer, is_counting, count_after, matches_within, timer_after}
use Rattle.std.proofs.Math.Nat.{mod-eq-sub-mod, mod-eq_of_lt}

pub count_within : (t m d : ℕ) → t + d ≤ m → count_after t m d ≡ t + d
count_within t m d h = rw (le-leb t m (omega arith)) (mod-eq_of_lt (omega arith))

pub match_within : (t m d : ℕ) → t + d ≤ m → matches_within t m d ≡ false
match_within t m d h = rw (le-leb t m (omega arith)) (lt-leb (m + 1) (t + d) (omega arith))

pub count_over : (t m d : ℕ) → t ≤ m → m + 1 ≤ t + d → d ≤ m → count_after t m d ≡ t + d - (m + 1)
count_over t m d h g few = rw (le-leb t m h) (mod-eq-sub-mod g ∙ mod-eq_of_lt (omega arith))

pub match_over : (t m d : ℕ) → t ≤ m → m + 1 ≤ t + d → matches_within t m d ≡ true
match_over t m d h g = rw (le-leb t m h) (le-leb (m + 1) (t + d) g)

-- the same of a timer that counts
pub count_counting : (t : Timer) (d : ℕ) → is_counting t ≡ true → (timer_after d t).count ≡ count_after t.count t.top d
count_counting t d e = rw e refl

pub match_counting : (t : Timer) (d : ℕ) → is_counting t ≡ true → (timer_after d t).matched ≡ (t.matched || matches_within t.count t.top d)
match_counting t d e = rw e refl

pub matched_within : (t : Timer) (d : ℕ) → is_counting t ≡ true → t.count + d ≤ t.top → (timer_after d t).matched ≡ t.matched
matched_within t d e h = rw (match_counting t d e, match_within t.count t.top d h) (or-false t.matched)

pub matched_over : (t : Timer) (d : ℕ) → is_counting t ≡ true → t.count ≤ t.top → t.top + 1 ≤ t.count + d → (timer_after d t).matched ≡ true
matched_over t d e h g = rw (match_counting t d e, match_over t.count t.top d h g) (or-true t.matched)

-- the clock moves count and flag alone
abbrev moved_on : ℕ → Timer → Timer
moved_on d t = record t { count = count_after t.count t.top d; matched = t.matched || matches_within t.count t.top d }

choose_same : {A : Type 0} (f : Timer → A) (b : Bool) (x y : Timer) → f x ≡ f y → f (if b then x else y) ≡ f y
choose_same f true x y e = e
choose_same f false x y e = refl

pub timer_keeps_top : (t : Timer) (d : ℕ) → (timer_after d t).top ≡ t.top
timer_keeps_top t d = choose_same (λ u. u.top) (is_counting t) (moved_on d t) t refl

pub timer_keeps_temp : (t : Timer) (d : ℕ) → (timer_after d t).temp ≡ t.temp
timer_keeps_temp t d = choose_same (λ u. u.temp) (is_counting t) (moved_on d t) t refl

pub timer_keeps_mask : (t : Timer) (d : ℕ) → (timer_after d t).interrupt_mask ≡ t.interrupt_mask
timer_keeps_mask t d = choose_same (λ u. u.interrupt_mask) (is_counting t) (moved_on d t) t refl

pub counting_kept : (t : Timer) (d : ℕ) → is_counting (timer_after d t) ≡ is_counting t
counting_kept t d = choose_same is_counting (is_counting t) (moved_on d t) t refl

-- Tests of numbers, positions, exits and points one by one.
use Rattle.uz_rules.proofs.Common.{◌-◌, ◌<◌, ◌≤◌, ◌≡◌, ℕ, suc, ◌+◌, Bool, true, false, Option, refl, sym, ap, ◌∙◌, arith, ◌&&◌, is_none}
use Rattle.uz_rules.proofs.Common.{EventKind, all_below, is_quiet, any_from}
use Rattle.uz_rules.proofs.InsideMeets.{below_tells}

pub below_none : (test : ℕ → Bool) → all_below 0 test ≡ true
unfolding all_below
below_none test = refl

pub below_more : (n : ℕ) (test : ℕ → Bool) → all_below (n + 1) test ≡ (all_below n test && test n)
unfolding all_below
below_more n test = let e : n + 1 ≡ suc n = omega arith in ap (λ m. all_below m test) e

pub below_passed : (n : ℕ) (test : ℕ → Bool) → all_below n test ≡ true → test n ≡ true → all_below (n + 1) test ≡ true
below_passed n test all here = rw (below_more n test, all, here) refl

pub below_three : (test : ℕ → Bool) → all_below 3 test ≡ (test 0 && (test 1 && test 2))
unfolding all_below
below_three test = by_first (test 0)
  where
    by_first : (t : Bool) → ((t && test 1) && test 2) ≡ (t && (test 1 && test 2))
    by_first true = refl
    by_first false = refl

-- where one test fails, not all hold
pub below_failed : (n k : ℕ) (test : ℕ → Bool) → k < n → test k ≡ false → all_below n test ≡ false
below_failed n k test h f = by_case (all_below n test) refl
  where
    by_case : (t : Bool) → all_below n test ≡ t → all_below n test ≡ false
    by_case false e = e
    by_case true e = let never : true ≡ false = sym (below_tells n test e k h) ∙ f in absurd cc

pub quiet_none : (at : ℕ → Option EventKind) (p : ℕ) → is_quiet at p 0 ≡ true
unfolding is_quiet
quiet_none at p = refl

-- at one clock more after clock k of a line, which begins at the position `start`
pub quiet_more : (at : ℕ → Option EventKind) (start k n : ℕ) → is_quiet at (start + k) (n + 1)
    ≡ (is_quiet at (start + k) n && is_none (at (start + (k + (n + 1)))))
unfolding is_quiet
quiet_more at start k n =
    let e : n + 1 ≡ suc n = omega arith in
    let p : start + k + suc n ≡ start + (k + suc n) = omega arith in
    rw (e, p) refl

pub any_none : (test : ℕ → Bool) (k last : ℕ) → last < k → any_from test k (suc last - k) ≡ false
unfolding any_from
any_none test k last h = let e : suc last - k ≡ 0 = omega arith in rw e refl

pub any_found : (test : ℕ → Bool) (k last : ℕ) → k ≤ last → test k ≡ true → any_from test k (suc last - k) ≡ true
unfolding any_from
any_found test k last h t = let e : suc last - k ≡ suc (last - k) = omega arith in rw (e, t) refl

pub any_more : (test : ℕ → Bool) (k last : ℕ) → k ≤ last → test k ≡ false → any_from test (k + 1) (suc last - (k + 1)) ≡ any_from test k
    (suc last - k)
unfolding any_from
any_more test k last h t =
    let e : suc last - k ≡ suc (last - k) = omega arith in
    let s : k + 1 ≡ suc k = omega arith in
    let n : suc last - suc k ≡ last - k = omega arith in
    rw (s, n, e, t) refl

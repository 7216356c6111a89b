-- Counting down the clocks that are left moves the count on.
use Rattle.std.proofs.Common.{◌≡◌, ℕ, ◌-◌, ◌<◌, inl, inr, Bool, true, false, ◌||◌, if◌then◌else◌, IsTrue, refl, sym, ◌∙◌, ap, arith}
use Rattle.std.proofs.lemmas.Bool.Decides.{nat_tests}
use Rattle.std.proofs.Math.Nat.{mod-eq_of_lt}
use Rattle.uz_core.specs.Timer.{Timer, count_after, matches_within, timer_after}
use Rattle.uz_timer.specs.Counts.{counts, count_of, EndsAt, GoesRound}
use Rattle.uz_timer.proofs.Counting.{low_count, low_match, mid_count, mid_match, or_false}

abbrev Moves : ℕ → ℕ → ℕ → ℕ → Type 0
Moves end left top clocks = (count_after (end - left) top clocks ≡ end - (left - clocks)) × (matches_within (end - left) top clocks ≡ false)

moves : (end left top clocks : ℕ) → GoesRound end left top → clocks < left → Moves end left top clocks
moves end left top clocks h k = by_end h.ends
  where
    by_end : EndsAt end top (end - left) → Moves end left top clocks
    by_end (inl e) = grind (arith, nat_tests, low_count, low_match, mod-eq_of_lt)
    by_end (inr e) = grind (arith, nat_tests, mid_count, mid_match)

abbrev at_count : Timer → ℕ → Timer
at_count t count = record t { count = count }

pub counted_down : (t : Timer) (still end left clocks : ℕ) → (IsTrue (counts t.control_a t.control_b) → GoesRound end left t.top)
    → clocks < left →
    at_count t (count_of t.control_a t.control_b still end (left - clocks)) ≡ timer_after clocks
    (at_count t (count_of t.control_a t.control_b still end left))
counted_down t still end left clocks h k = by_mode (counts t.control_a t.control_b) refl
  where
    there : ℕ → Bool → Timer
    there count matched = record t { count = count; matched = t.matched || matched }

    by_mode : (m : Bool) → counts t.control_a t.control_b ≡ m →
        at_count t (count_of t.control_a t.control_b still end (left - clocks)) ≡ timer_after clocks
        (at_count t (count_of t.control_a t.control_b still end left))
    by_mode true e =
        let m = moves end left t.top clocks (h e) k in
        ap (λ x. at_count t (if x then end - (left - clocks) else still)) e ∙
        (ap (λ x. record t { count = end - (left - clocks); matched = x }) (sym (or_false t.matched)) ∙
        (ap (λ x. there x false) (sym m.0) ∙
        (ap (λ x. there (count_after (end - left) t.top clocks) x) (sym m.1) ∙
        ap (λ x. let from = at_count t (if x then end - left else still) in
        if x then record from {
          count = count_after from.count from.top clocks;
          matched = from.matched || matches_within from.count
              from.top clocks;
        } else from) (sym e))))
    by_mode false e =
        ap (λ x. at_count t (if x then end - (left - clocks) else still)) e ∙
        ap (λ x. let from = at_count t (if x then end - left else still) in
        if x then record from {
          count = count_after from.count from.top clocks;
          matched = from.matched || matches_within from.count
              from.top clocks;
        } else from) (sym e)

-- and it leaves the match flag
pub matched_stays : (t : Timer) (still end left clocks : ℕ) → (IsTrue (counts t.control_a t.control_b) → GoesRound end left t.top)
    → clocks < left →
    (timer_after clocks (at_count t (count_of t.control_a t.control_b still end left))).matched ≡ t.matched
matched_stays t still end left clocks h k = ap (λ (x : Timer). x.matched) (sym (counted_down t still end left clocks h k))

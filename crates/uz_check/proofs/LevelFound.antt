-- Where the schedule is steady, each position has a level, 0 or 1.
use Rattle.uz_check.proofs.Common.{◌≡◌, All, ℕ, ◌+◌, ◌<◌, ◌≤◌, true, eqb, subst, List, [], ◌∷◌, length, get_or, refl, sym, ◌∙◌, ap, arith}
use Rattle.uz_check.proofs.Common.{Some, slice_index, nat_tests, slice_get-get_or, All-head, All-get_or, ScheduleFits, Event, Sync}
use Rattle.uz_check.proofs.Common.{Schedule, length_of, start_of, event_in, event_in_kind, events_of, event_at, sync_of, level_at}
use Rattle.uz_check.proofs.Common.{frame_some, clocks_within, event_of_place, IsSteadyLine, IsSteady}
use Rattle.uz_schedule.proofs.SomeLevel.{level_somewhere, level_bit}

-- a list whose first event is a fall at this clock has it there
pub first_event : (fall : ℕ) (events : List Event) → IsSteadyLine fall events → event_in events fall ≡ Some (Sync 0)
first_event fall events h =
    let here : event_in (h.first ∷ h.later) h.first.clock ≡ Some h.first.kind = let e : eqb h.first.clock h.first.clock ≡ true =
    grind (arith, nat_tests) in rw e refl in
    ap (λ es. event_in es fall) h.is ∙ (ap (event_in (h.first ∷ h.later)) (sym h.clock) ∙ (here ∙ ap (λ k. Some k) h.kind))

-- the first line has its fall
fall_event : (s : Schedule) → ScheduleFits s → IsSteady s → event_at s (start_of s 0 + s.fall) ≡ Some (Sync 0)
fall_event s fits steady =
    let kind : slice_index s.lines 0 < length s.kinds = All-get_or (λ k. k < length s.kinds) s.lines 0 0 (omega (arith, fits.lines.some))
    fits.lines.there in
    let events = get_or s.kinds (slice_index s.lines 0) [] in
    let is : events_of s 0 ≡ Some events = slice_get-get_or s.kinds (slice_index s.lines 0) [] kind in
    let begin = steady 0 events (omega (arith, fits.lines.some)) is in
    let within = clocks_within s fits 0 events (omega (arith, fits.lines.some)) is in
    let early = All-head (λ e. e.clock < length_of s 0) begin.first begin.later (subst (All (λ e. e.clock < length_of s 0)) begin.is within)
    in
    event_of_place s 0 s.fall (omega (arith, fits.lines.some)) (omega (arith, early, begin.clock))
    ∙ (ap (λ o. event_in_kind o s.fall) is ∙ first_event s.fall events begin)

pub level_found : (s : Schedule) → ScheduleFits s → IsSteady s → (p : ℕ) → (v : ℕ) × (v ≤ 1) × (level_at s p ≡ Some v)
level_found s fits steady p =
    let level = level_somewhere s p (start_of s 0 + s.fall) 0 (frame_some s fits) (ap sync_of (fall_event s fits steady)) in
    (level.0, level_bit s p level.0 fits level.1, level.1)

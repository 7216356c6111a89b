-- The lines of a picture whose events are a steady schedule's.
use Rattle.uz_check.proofs.Common.{◌≡◌, ◌≢◌, ◌⊎◌, inl, inr, All, ℕ, zero, suc, ◌+◌, ◌-◌, ◌%◌, ◌<◌, true, false, cond, List, [], ◌∷◌, length}
use Rattle.uz_check.proofs.Common.{refl, sym, ◌∙◌, ap, subst, arith, Some, slice_index, get_or, ◌==◌, eqb_tells, leb_tells, All-get_or}
use Rattle.uz_check.proofs.Common.{All-head, All-tail, slice_get-get_or, ScheduleFits, Event, EventKind, Sync, Schedule, At, event_at}
use Rattle.uz_check.proofs.Common.{event_in, event_in_kind, events_of, frame_of, length_of, next_line, start_of, IsSteady, IsSteadyLine}
use Rattle.uz_check.proofs.LevelFound.{first_event}
use Rattle.std.proofs.Math.Nat.{mod-mod}
use Rattle.uz_schedule.specs.Schedule.{event_from}

-- What a schedule says of places
pub record PlaceLaws (s : Schedule) : Type 0 where
  pub by_line : (l k : ℕ) → l < length s.lines → k < length_of s l → event_at s (start_of s l + k) ≡ event_in_kind (events_of s l) k
  pub more : (p l k c : ℕ) → At s p l k → At s (p + c) l (k + c)
  pub next : (p l k : ℕ) → At s p l (length_of s l + k) → At s p (next_line s l) k
  pub here : (p l k : ℕ) → At s p l k → event_at s p ≡ event_at s (start_of s l + k)
  pub clocks : ScheduleFits s → (l : ℕ) (events : List Event) → l < length s.lines → events_of s l ≡ Some events
      → All (λ e. e.clock < length_of s l) events

-- One line

never_in : (events : List Event) (k : ℕ) → All (λ e. e.kind ≢ Sync 0) events → event_in events k ≡ Some (Sync 0) → ⊥
never_in [] k none is = absurd (cc is)
never_in (e ∷ events) k none is =
    elim (eqb_tells e.clock k) [
      | inl t ↦ absurd (All-head (λ x. x.kind ≢ Sync 0) e events none
          (kind_of e.kind (ap (λ b. cond b (Some e.kind) (event_in events k)) (sym t.0) ∙ is)))
      | inr t ↦ never_in events k (All-tail (λ x. x.kind ≢ Sync 0) e events none) (ap (λ b. cond b (Some e.kind) (event_in events k))
          (sym t.0) ∙ is)
    ]
  where
    kind_of : (kind : EventKind) → Some kind ≡ Some (Sync 0) → kind ≡ Sync 0
    kind_of kind h = cc

-- sync 0 stands at the fall, and nowhere else
in_line : (fall : ℕ) (events : List Event) (k : ℕ) → IsSteadyLine fall events → event_in events k ≡ Some (Sync 0) → k ≡ fall
in_line fall events k h is = by_test (eqb_tells h.first.clock k) (ap (λ es. event_in es k) (sym h.is) ∙ is)
  where
    by_test : ((h.first.clock == k) ≡ true) × (h.first.clock ≡ k) ⊎ ((h.first.clock == k) ≡ false) × (h.first.clock ≢ k)
        → event_in (h.first ∷ h.later) k ≡ Some (Sync 0) → k ≡ fall
    by_test (inl t) e = sym t.1 ∙ h.clock
    by_test (inr t) e = absurd (never_in h.later k h.once (ap (λ b. cond b (Some h.first.kind) (event_in h.later k)) (sym t.0) ∙ e))

module _ (s : Schedule) (laws : PlaceLaws s) (fits : ScheduleFits s) (steady : IsSteady s) where
  -- the events of a line
  record HasEvents (l : ℕ) : Type 0 where
    events : List Event
    is : events_of s l ≡ Some events
    line : IsSteadyLine s.fall events

  events_here : (l : ℕ) → l < length s.lines → HasEvents l
  events_here l below =
      let kind : slice_index s.lines l < length s.kinds = All-get_or (λ k. k < length s.kinds) s.lines l 0 below fits.lines.there in
      let events = get_or s.kinds (slice_index s.lines l) [] in
      let is : events_of s l ≡ Some events = slice_get-get_or s.kinds (slice_index s.lines l) [] kind in
      record { events = events; is = is; line = steady l events below is }

  fall_of_line : (l k : ℕ) → l < length s.lines → event_in_kind (events_of s l) k ≡ Some (Sync 0) → k ≡ s.fall
  fall_of_line l k below is =
      let here = events_here l below in
      in_line s.fall here.events k here.line (ap (λ o. event_in_kind o k) (sym here.is) ∙ is)

  line_has_fall : (l : ℕ) → l < length s.lines → event_in_kind (events_of s l) s.fall ≡ Some (Sync 0)
  line_has_fall l below =
      let here = events_here l below in
      ap (λ o. event_in_kind o s.fall) here.is ∙ first_event s.fall here.events here.line

  next_below : (l : ℕ) → l < length s.lines → next_line s l < length s.lines
  next_below l below =
      elim (eqb_tells (suc l) (length s.lines)) [
        | inl t ↦ (let some = fits.lines.some in subst (λ b. cond b 0 (suc l) < length s.lines) (sym t.0) (omega arith))
        | inr t ↦ (let apart = t.1 in subst (λ b. cond b 0 (suc l) < length s.lines) (sym t.0) (before l below apart))
      ]
    where
      before : (l : ℕ) → l < length s.lines → suc l ≢ length s.lines → suc l < length s.lines
      before l below apart =
          elim (leb_tells (suc (suc l)) (length s.lines)) [
            | inl t ↦ t.1
            | inr t ↦ absurd (let past = t.1 in apart (omega arith))
          ]

  -- Places of falls

  -- the line and the clock of an event
  record IsFound (l count k : ℕ) (kind : EventKind) : Type 0 where
    line : ℕ
    clock : ℕ
    below : line < l + count
    within : clock < length_of s line
    place : start_of s l + k ≡ start_of s line + clock
    event : event_in_kind (events_of s line) clock ≡ Some kind

  found : (l count k : ℕ) (kind : EventKind) → event_from s l count k ≡ Some kind → IsFound l count k kind
  found l zero k kind is = absurd (cc is)
  found l (suc count) k kind is =
      elim (leb_tells (suc k) (length_of s l)) [
        | inl t ↦ record {
          line = l;
          clock = k;
          below = omega arith;
          within = t.1;
          place = refl;
          event = ap (λ b. cond b (event_in_kind (events_of s l) k) (event_from s (suc l) count (k - length_of s l))) (sym t.0) ∙ is;
        }
        | inr t ↦
            let more = found (suc l) count (k - length_of s l) kind
            (ap (λ b. cond b (event_in_kind (events_of s l) k) (event_from s (suc l) count (k - length_of s l))) (sym t.0) ∙ is) in
            let past = t.1 in
            record {
              line = more.line;
              clock = more.clock;
              below = (let below = more.below in omega arith);
              within = more.within;
              place = (let place = more.place in omega arith);
              event = more.event;
            }
      ]

  -- a position of sync 0 is the fall of a line
  pub record IsFallOf (p : ℕ) : Type 0 where
    pub line : ℕ
    pub below : line < length s.lines
    pub place : At s p line s.fall

  pub falls_at : (p : ℕ) → event_at s p ≡ Some (Sync 0) → IsFallOf p
  falls_at p is =
      let here = found 0 (length s.lines) (p % frame_of s) (Sync 0) is in
      let below : here.line < length s.lines = (let b = here.below in omega arith) in
      let clock : here.clock ≡ s.fall = fall_of_line here.line here.clock below here.event in
      let place : p % frame_of s ≡ start_of s here.line + here.clock = (let g = here.place in omega arith) in
      record {
        line = here.line;
        below = below;
        place = subst (λ k. At s p here.line k) clock (sym (mod-mod p (frame_of s)) ∙ ap (λ x. x % frame_of s) place);
      }

  -- the fall is an event of the line
  within_line : (l : ℕ) → l < length s.lines → s.fall < length_of s l
  within_line l below =
      let here = events_here l below in
      let clocks = laws.clocks fits l here.events below here.is in
      let first : here.line.first.clock < length_of s l = All-head (λ e. e.clock < length_of s l) here.line.first here.line.later
      (subst (All (λ e. e.clock < length_of s l)) here.line.is clocks) in
      subst (λ k. k < length_of s l) here.line.clock first

  pub line_some : (l : ℕ) → l < length s.lines → 0 < length_of s l
  line_some l below = (let g = within_line l below in omega arith)

  -- the next fall is a line's length later
  pub next_falls : (p l : ℕ) → l < length s.lines → At s p l s.fall → event_at s (p + length_of s l) ≡ Some (Sync 0)
  next_falls p l below at =
      let moved : At s (p + length_of s l) l (length_of s l + s.fall) = subst (λ k. At s (p + length_of s l) l k) (omega arith)
      (laws.more p l s.fall (length_of s l) at) in
      let there = laws.next (p + length_of s l) l s.fall moved in
      laws.here (p + length_of s l) (next_line s l) s.fall there
      ∙ (laws.by_line (next_line s l) s.fall (next_below l below) (within_line (next_line s l) (next_below l below))
      ∙ line_has_fall (next_line s l)
      (next_below l below))

  -- and none is before it
  pub none_between : (p l k : ℕ) → l < length s.lines → At s p l s.fall → 0 < k → k < length_of s l → event_at s (p + k) ≡ Some (Sync 0) → ⊥
  none_between p l k below at some few is =
      let moved = laws.more p l s.fall k at in
      elim (leb_tells (suc (s.fall + k)) (length_of s l)) [
        | inl t ↦
            let event = sym (laws.here (p + k) l (s.fall + k) moved ∙ laws.by_line l (s.fall + k) below t.1) ∙ is in
            let same = fall_of_line l (s.fall + k) below event in
            absurd (omega arith)
        | inr t ↦
            let past = t.1 in
            let rest : s.fall + k ≡ length_of s l + (s.fall + k - length_of s l) = omega arith in
            let there = laws.next (p + k) l (s.fall + k - length_of s l) (subst (λ j. At s (p + k) l j) rest moved) in
            let few_more : s.fall + k - length_of s l < length_of s (next_line s l) = (let g = within_line (next_line s l)
            (next_below l below) in
            omega arith) in
            let event = sym (laws.here (p + k) (next_line s l) (s.fall + k - length_of s l) there ∙ laws.by_line (next_line s l)
            (s.fall + k - length_of s l) (next_below l below) few_more) ∙ is in
            let same = fall_of_line (next_line s l) (s.fall + k - length_of s l) (next_below l below) event in
            let inside = within_line l below in
            absurd (omega arith)
      ]

-- The schedule that is made of the marks, position by position.
use Rattle.uz_search.proofs.Common.{◌≡◌, ℕ, zero, suc, ◌<◌, ◌≤◌, ◌+◌, ◌-◌, ◌%◌, ◌==◌, List, Option, Some, None, refl, sym, ap, ◌∙◌, subst}
use Rattle.uz_search.proofs.Common.{length, slice_get, if◌then◌else◌, arith, mod-eq_of_lt, mod-lt, add-mod_right, order_of, length_of}
use Rattle.uz_search.proofs.Common.{start_of, frame_of, event_at, level_at, EventKind, Sync, Pixel, Sound, Leave, Schedule, level_mod}
use Rattle.uz_search.proofs.Common.{place_below, Mark, Program, lines_of, mark_of, event_of_mark, Seen, IsScheduleOf}
use Rattle.uz_schedule.specs.Schedule.{sync_at, sync_of, or_else}
use Rattle.uz_schedule.proofs.Modulo.{event_at_mod, level_step}
use Rattle.uz_search.specs.Made.{event_of, marked_at}
use Rattle.uz_search.proofs.FramePlaces.{at}
use Rattle.uz_search.proofs.MarkingLemmas.{event_back}
use Rattle.uz_search.proofs.Levels.{LevelIs, SyncAt}
use Rattle.uz_search.proofs.Positions.{some_place}
use Rattle.uz_search.specs.declared.marks.Mark.TheVariants as variants

-- what is marked is shown
pub seen_shows : (marks : List Mark) (y : ℕ) (e : Option EventKind) → Seen marks y e → marked_at marks y ≡ e
seen_shows marks y e seen = ap event_of seen ∙ event_back e

-- a mark that stands for an event is that event's
mark_is : (m : Mark) (e : EventKind) → event_of_mark m ≡ Some e → m ≡ mark_of (Some e)
mark_is variants.Unpassed e h = cc
mark_is variants.Quiet e h = cc
mark_is (variants.Sync level) e h = ap mark_of h
mark_is variants.Pixel e h = ap mark_of h
mark_is variants.Sound e h = ap mark_of h
mark_is variants.Leave e h = ap mark_of h

pub shown_seen : (marks : List Mark) (y : ℕ) (e : EventKind) → marked_at marks y ≡ Some e → Seen marks y (Some e)
shown_seen marks y e h = by (slice_get marks y) refl
  where
    by : (o : Option Mark) → slice_get marks y ≡ o → Seen marks y (Some e)
    by None is = let none : None ≡ Some e = sym (ap event_of is) ∙ h in cc
    by (Some m) is = is ∙ ap Some (mark_is m e (sym (ap event_of is) ∙ h))

-- where no event is marked none is shown
pub none_shown : (marks : List Mark) (y : ℕ) → ((e : EventKind) → Seen marks y (Some e) → ⊥) → marked_at marks y ≡ None
none_shown marks y none = by (marked_at marks y) refl
  where
    by : (o : Option EventKind) → marked_at marks y ≡ o → marked_at marks y ≡ None
    by None is = is
    by (Some e) is = absurd (none e (shown_seen marks y e is))

module _ (program : Program) (marks : List Mark) (s : Schedule) (of : IsScheduleOf program marks s) where
  -- the lines are the program's

  pub order_same : order_of s ≡ order_of program.schedule
  order_same = λ i. record { length = λ l. of.lengths l i; next = λ l. if suc l == of.lines i then 0 else suc l }

  pub start_same : (l : ℕ) → start_of s l ≡ start_of program.schedule l
  start_same zero = refl
  start_same (suc l) = λ i. start_same l i + of.lengths l i

  pub frame_same : frame_of s ≡ frame_of program.schedule
  frame_same = start_same (length s.lines) ∙ ap (start_of program.schedule) of.lines

  -- by line and clock
  pub event_on : (l k : ℕ) → l < lines_of program → k < length_of program.schedule l → event_at s (start_of s l + k) ≡ marked_at marks
      (at l k)
  event_on l k below in_line = of.events l k below (subst (λ n. k < n) (sym (of.lengths l)) in_line)

  -- by position
  pub event_is : (y l k : ℕ) → l < lines_of program → k < length_of program.schedule l
      → y % frame_of program.schedule ≡ start_of program.schedule l + k → event_at s y ≡ marked_at marks (at l k)
  event_is y l k below in_line place =
      let inside : start_of program.schedule l + k < frame_of program.schedule = place_below program.schedule l k below in_line in
      let round : (start_of program.schedule l + k) % frame_of program.schedule ≡ start_of program.schedule l + k = mod-eq_of_lt inside in
      let same : y % frame_of s ≡ (start_of s l + k) % frame_of s =
      ap (λ n. y % n) frame_same ∙ place ∙ sym round ∙ ap (λ n. (n + k) % frame_of program.schedule) (sym (start_same l))
      ∙ ap (λ n. (start_of s l + k) % n) (sym frame_same) in
      event_at_mod s y (start_of s l + k) same ∙ event_on l k below in_line

  -- Levels

  sync_none : (y : ℕ) → 0 < frame_of program.schedule → ((u : ℕ) → SyncAt program.schedule marks y u → ⊥) → sync_at s y ≡ None
  sync_none y some none = by (event_at s y) refl
    where
      place : (l : ℕ) × (q : ℕ) × (l < lines_of program) × (q < length_of program.schedule l)
          × (start_of program.schedule l + q ≡ y % frame_of program.schedule)
      place = some_place program.schedule (lines_of program) (y % frame_of program.schedule) (mod-lt y some)

      by : (o : Option EventKind) → event_at s y ≡ o → sync_at s y ≡ None
      by None is = ap sync_of is
      by (Some (Sync u)) is = absurd (none u (record {
        line = place.0;
        clock = place.1;
        below = place.2;
        in_line = place.3;
        place = sym place.4;
        seen = shown_seen marks (at place.0 place.1) (Sync u) (sym (event_is y place.0 place.1 place.2 place.3 (sym place.4)) ∙ is);
      }))
      by (Some Pixel) is = ap sync_of is
      by (Some Sound) is = ap sync_of is
      by (Some Leave) is = ap sync_of is

  -- the level goes on where no level is set
  level_kept : (n d v : ℕ) → 0 < frame_of program.schedule → level_at s n ≡ Some v → ((j : ℕ) → n < j → j ≤ n + d → sync_at s j ≡ None)
      → level_at s (n + d) ≡ Some v
  level_kept n zero v some h none = ap (level_at s) (plus_zero n) ∙ h
    where
      plus_zero : (n : ℕ) → n + 0 ≡ n
      plus_zero n = omega arith
  level_kept n (suc d) v some h none =
      let before = level_kept n d v some h (λ j after le. none j after (omega (arith, le))) in
      let next : n + suc d ≡ suc (n + d) = omega arith in
      ap (level_at s) next ∙ level_step s (n + d) (subst (λ m. 0 < m) (sym frame_same) some)
      ∙ ap (λ o. or_else o (level_at s (n + d))) (ap (sync_at s) (sym next) ∙ none (n + suc d) (omega arith) (omega arith)) ∙ before

  pub level_is : (p v : ℕ) → 0 < frame_of program.schedule → LevelIs program.schedule marks p v → level_at s p ≡ Some v
  level_is p v some h =
      let le = h.le in
      let frame : ℕ = frame_of program.schedule in
      let n : ℕ = h.last + frame in
      -- a frame later, so that the position before it is there
      let m : ℕ = n - 1 in
      let n_is : n ≡ suc m = omega (arith, some) in
      let same : n % frame ≡ h.last % frame = add-mod_right h.last frame in
      let set : sync_at s n ≡ Some v = ap sync_of (event_is n h.sync.line h.sync.clock h.sync.below h.sync.in_line (same ∙ h.sync.place)
      ∙ seen_shows marks (at h.sync.line h.sync.clock) (Some (Sync v)) h.sync.seen) in
      let at_n : level_at s n ≡ Some v =
      ap (level_at s) n_is ∙ level_step s m (subst (λ f. 0 < f) (sym frame_same) some) ∙ ap (λ o. or_else o (level_at s m))
      (ap (sync_at s) (sym n_is) ∙ set) in
      let d : ℕ = p - h.last in
      let quiet : (j : ℕ) → n < j → j ≤ n + d → sync_at s j ≡ None = λ j after last. sync_none j some (λ u seen.
      let i : ℕ = j - frame in
      let i_is : i + frame ≡ j = omega (arith, after) in
      let round : j % frame ≡ i % frame = ap (λ k. k % frame) (sym i_is) ∙ add-mod_right i frame in
      h.quiet i (omega (arith, after, i_is)) (omega (arith, last, i_is, le)) u (record {
        line = seen.line;
        clock = seen.clock;
        below = seen.below;
        in_line = seen.in_line;
        place = sym round ∙ seen.place;
        seen = seen.seen;
      })) in
      let at_p : level_at s (n + d) ≡ Some v = level_kept n d v some at_n quiet in
      let n_d : n + d ≡ p + frame = omega (arith, le) in
      let back : p % frame_of s ≡ (p + frame) % frame_of s =
      ap (λ f. p % f) frame_same ∙ sym (add-mod_right p frame) ∙ ap (λ f. (p + frame) % f) (sym frame_same) in
      level_mod s p (p + frame) back ∙ ap (level_at s) (sym n_d) ∙ at_p

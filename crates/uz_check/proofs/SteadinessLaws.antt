-- A schedule is steady exactly where no event breaks the steadiness of any of its lines.
use Rattle.uz_check.proofs.Common.{and_parts, ◌≡◌, ◌≢◌, inl, inr, All, ℕ, zero, suc, ◌+◌, ◌<◌, ◌≤◌, Bool, true, false, cond, eqb, List, []}
use Rattle.uz_check.proofs.Common.{◌∷◌, length, refl, sym, ◌∙◌, ap, subst, arith, Option, Some, None, ◌&&◌, slice_index, eqb-true}
use Rattle.uz_check.proofs.Common.{nat_tests, eqb_tells, get_or_from_slice_get, slice_get_within, All-get_or, All-tail, All-cons}
use Rattle.uz_check.proofs.Common.{ScheduleFits, Event, EventKind, Sync, Schedule, events_of, IsSteadyLine, IsSteady, second_fall}
use Rattle.uz_check.proofs.Common.{break_in_line, at_line, break_from, first_break}
use Rattle.uz_schedule.specs.Limits.{EventsFit}
use Rattle.uz_check.specs.Steadiness.{is_fall, break_clock, break_in}

-- One line

fall_tells : (kind : EventKind) → is_fall kind ≡ true → kind ≡ Sync 0
fall_tells (Sync level) e = ap Sync (eqb-true level 0 e)
fall_tells kind e = absurd cc

fall_not : (kind : EventKind) → is_fall kind ≡ false → kind ≢ Sync 0
fall_not kind e = λ f. absurd (let g : true ≡ false = sym (ap is_fall f) ∙ e in cc g)

not_fall : (kind : EventKind) (b : Bool) → is_fall kind ≡ b → kind ≢ Sync 0 → b ≡ false
not_fall kind true e h = absurd (h (fall_tells kind e))
not_fall kind false e h = refl

none_later : (b : Bool) (clock : ℕ) (o : Option ℕ) → cond b (Some clock) o ≡ None → (b ≡ false) × (o ≡ None)
none_later true clock o e = absurd cc
none_later false clock o e = (refl, e)

once_tells : (events : List Event) → second_fall events ≡ None → All (λ e. e.kind ≢ Sync 0) events
once_tells [] e = λ k d b. absurd (omega (arith, b))
once_tells (first ∷ later) e =
    let both = none_later (is_fall first.kind) first.clock (second_fall later) e in
    All-cons (λ x. x.kind ≢ Sync 0) first later (fall_not first.kind both.0) (once_tells later both.1)

once_told : (events : List Event) → All (λ e. e.kind ≢ Sync 0) events → second_fall events ≡ None
once_told [] h = refl
once_told (first ∷ later) h =
    let no : is_fall first.kind ≡ false = not_fall first.kind (is_fall first.kind) refl (h zero first (omega arith)) in
    rw no (once_told later (All-tail (λ x. x.kind ≢ Sync 0) first later h))

first_tells : (b : Bool) (clock : ℕ) (o : Option ℕ) → cond b o (Some clock) ≡ None → (b ≡ true) × (o ≡ None)
first_tells true clock o e = (refl, e)
first_tells false clock o e = absurd cc

line_tells : (fall : ℕ) (events : List Event) → 1 ≤ length events → break_clock fall events ≡ None → IsSteadyLine fall events
line_tells fall [] some e = absurd (omega (arith, some))
line_tells fall (first ∷ later) some e =
    let both = first_tells (eqb first.clock fall && is_fall first.kind) first.clock (second_fall later) e in
    let tests = and_parts (eqb first.clock fall) (is_fall first.kind) both.0 in
    record {
      first = first;
      later = later;
      is = refl;
      clock = eqb-true first.clock fall tests.0;
      kind = fall_tells first.kind tests.1;
      once = once_tells later both.1;
    }

line_told : (fall : ℕ) (events : List Event) → IsSteadyLine fall events → break_clock fall events ≡ None
line_told fall events h =
    let clock : eqb h.first.clock fall ≡ true = grind (arith, nat_tests, h.clock) in
    let kind : is_fall h.first.kind ≡ true = ap is_fall h.kind in
    let here : break_clock fall (h.first ∷ h.later) ≡ None = rw (clock, kind) (once_told h.later h.once) in
    ap (break_clock fall) h.is ∙ here

-- All lines

none_at : (l : ℕ) (o : Option ℕ) (later : Option (ℕ × ℕ)) → at_line l o later ≡ None → (o ≡ None) × (later ≡ None)
none_at l None later e = (refl, e)
none_at l (Some clock) later e = absurd cc

lines_tell : (s : Schedule) (l count j : ℕ) → break_from s l count ≡ None → l ≤ j → j < l + count → break_in_line s j ≡ None
lines_tell s l zero j e h g = absurd (omega (arith, h, g))
lines_tell s l (suc count) j e h g =
    let both = none_at l (break_in_line s l) (break_from s (suc l) count) e in
    elim (eqb_tells l j) [
      | inl t ↦ subst (λ i. break_in_line s i ≡ None) t.1 both.0
      | inr t ↦ lines_tell s (suc l) count j both.1 (omega (arith, h, t.1)) (omega (arith, g))
    ]

lines_told : (s : Schedule) (l count : ℕ) → ((j : ℕ) → j < l + count → break_in_line s j ≡ None) → break_from s l count ≡ None
lines_told s l zero h = refl
lines_told s l (suc count) h =
    ap (λ o. at_line l o (break_from s (suc l) count)) (h l (omega arith)) ∙ lines_told s (suc l) count (λ j b. h j (omega (arith, b)))

in_tells : (fall : ℕ) (o : Option (List Event)) (events : List Event) → o ≡ Some events → break_in fall o ≡ None → break_clock fall
    events ≡ None
in_tells fall o events e f = sym (ap (break_in fall) e) ∙ f

in_told : (fall : ℕ) (o : Option (List Event)) → ((events : List Event) → o ≡ Some events → break_clock fall events ≡ None)
    → break_in fall o ≡ None
in_told fall None h = refl
in_told fall (Some events) h = h events refl

pub steady_tells : (s : Schedule) → ScheduleFits s → first_break s ≡ None → IsSteady s
steady_tells s fits e l events h f =
    let k = slice_index s.lines l in
    let each = All-get_or EventsFit s.kinds k [] (slice_get_within s.kinds k events f) fits.kinds.each in
    let here : EventsFit events = subst EventsFit (get_or_from_slice_get s.kinds k events [] f) each in
    line_tells s.fall events here.some
    (in_tells s.fall (events_of s l) events f (lines_tell s 0 (length s.lines) l e (omega arith) (omega (arith, h))))

pub steady_told : (s : Schedule) → IsSteady s → first_break s ≡ None
steady_told s h = lines_told s 0 (length s.lines)
    (λ j b. in_told s.fall (events_of s j) (λ events f. line_told s.fall events (h j events (omega (arith, b)) f)))

-- the line that is named is one of the frame
line_there : (l count : ℕ) (place : ℕ × ℕ) (o : Option ℕ) (later : Option (ℕ × ℕ)) → (later ≡ Some place → place.0 < suc l + count)
    → at_line l o later ≡ Some place → place.0 < l + suc count
line_there l count place None later rest e = omega (arith, rest e)
line_there l count place (Some clock) later rest e = let is : (l, clock) ≡ place = cc in subst (λ q. q.0 < l + suc count) is (omega arith)

pub break_there : (s : Schedule) (l count : ℕ) (place : ℕ × ℕ) → break_from s l count ≡ Some place → place.0 < l + count
break_there s l zero place e = absurd cc
break_there s l (suc count) place e =
    line_there l count place (break_in_line s l) (break_from s (suc l) count)
    (λ f. break_there s (suc l) count place f) e

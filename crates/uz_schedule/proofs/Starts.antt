-- Where lines begin, and the event at a place of a line.
use Rattle.std.proofs.Common.{All, List, [], ◌∷◌, Option, None, Some, slice_get, ◌≡◌, ℕ, zero, suc, ◌+◌, ◌-◌, ◌*◌, ◌%◌, ◌<◌, ◌≤◌}
use Rattle.std.proofs.Common.{Bool, true, false, cond, ltb, length, refl, sym, subst, ◌∙◌, ap, arith}
use Rattle.std.specs.Prelude.{slice_index, slice_index_or, ◌&&◌}
use Rattle.std.proofs.Math.Nat.{mod-eq_of_lt}
use Rattle.std.proofs.lemmas.Bool.{leb-true}
use Rattle.std.proofs.lemmas.Bool.Decides.{nat_tests}
use Rattle.std.proofs.lemmas.List.Elements.{All-nil, All-cons, All-head, All-tail}
use Rattle.std.proofs.lemmas.Option.{slice_get-get_or}
use Rattle.uz_schedule.specs.declared.lines.Event.{Event}
use Rattle.uz_schedule.specs.declared.lines.Schedule.{Schedule}
use Rattle.uz_schedule.specs.Limits.{is_length, clocks_below, lengths_fit, ScheduleFits}
use Rattle.uz_schedule.specs.Lines.{order_of, uniform}
use Rattle.uz_schedule.specs.Schedule.{scanline, half_line, length_of_kind, length_of, start_of, frame_of, next_line, event_in_kind}
use Rattle.uz_schedule.specs.Schedule.{events_of, event_from, event_at}

-- Lengths

is_length_few : (n : ℕ) → is_length n ≡ true → (half_line ≤ n) × (n ≤ scanline)
is_length_few n e = (grind (arith, nat_tests), grind (arith, nat_tests))

and_true : (a b : Bool) → (a && b) ≡ true → (a ≡ true) × (b ≡ true)
and_true true b e = (refl, e)
and_true false b e = absurd cc

each_length : (kinds : List (List Event)) (lengths : List ℕ) (kind : ℕ) → lengths_fit kinds lengths ≡ true
    → (half_line ≤ slice_index_or lengths kind scanline) × (slice_index_or lengths kind scanline ≤ scanline)
each_length kinds [] kind h = (omega arith, omega arith)
each_length [] (n ∷ lengths) kind h = absurd cc
each_length (es ∷ kinds) (n ∷ lengths) zero h =
    is_length_few n (and_true (is_length n) _ (and_true (is_length n && clocks_below es n) _ h).0).0
each_length (es ∷ kinds) (n ∷ lengths) (suc kind) h = each_length kinds lengths kind (and_true (is_length n && clocks_below es n) _ h).1

-- a line has at least the clocks of half a scanline, and at most those of a whole one
pub length_within : (s : Schedule) → ScheduleFits s → (l : ℕ) → (half_line ≤ length_of s l) × (length_of s l ≤ scanline)
length_within s fits l = by_kind (slice_get s.lines l)
  where
    by_kind : (o : Option ℕ) → (half_line ≤ length_of_kind s.lengths o) × (length_of_kind s.lengths o ≤ scanline)
    by_kind None = (omega arith, omega arith)
    by_kind (Some kind) = each_length s.kinds s.lengths kind fits.lengths

-- events stand at clocks of their line

events_below : (events : List Event) (n : ℕ) → clocks_below events n ≡ true → All (λ e. e.clock < n) events
events_below [] n h = All-nil (λ e. e.clock < n)
events_below (e ∷ events) n h =
    let tests = and_true (ltb e.clock n) (clocks_below events n) h in
    All-cons (λ x. x.clock < n) e events (leb-true (suc e.clock) n tests.0) (events_below events n tests.1)

kind_below : (kinds : List (List Event)) (lengths : List ℕ) (kind : ℕ) (events : List Event) → lengths_fit kinds lengths ≡ true
    → slice_get kinds kind ≡ Some events → All (λ e. e.clock < slice_index_or lengths kind scanline) events
kind_below [] [] kind events h is = absurd cc
kind_below [] (n ∷ lengths) kind events h is = absurd cc
kind_below (es ∷ kinds) [] kind events h is = absurd cc
kind_below (es ∷ kinds) (n ∷ lengths) zero events h is =
    let same : es ≡ events = (let e : Some es ≡ Some events = is in cc) in
    let here = and_true (is_length n) (clocks_below es n) (and_true (is_length n && clocks_below es n) (lengths_fit kinds lengths) h).0 in
    subst (All (λ e. e.clock < n)) same (events_below es n here.1)
kind_below (es ∷ kinds) (n ∷ lengths) (suc kind) events h is =
    kind_below kinds lengths kind events (and_true (is_length n && clocks_below es n) (lengths_fit kinds lengths) h).1 is

pub clocks_within : (s : Schedule) → ScheduleFits s → (l : ℕ) (events : List Event) → l < length s.lines → events_of s l ≡ Some events
    → All (λ e. e.clock < length_of s l) events
clocks_within s fits l events there is =
    let kind = slice_index s.lines l in
    let long : length_of s l ≡ slice_index_or s.lengths kind scanline =
    ap (length_of_kind s.lengths) (slice_get-get_or s.lines l 0 there) in
    subst (λ n. All (λ e. e.clock < n) events) (sym long) (kind_below s.kinds s.lengths kind events fits.lengths is)

-- Sums of lengths

pub start_few : (s : Schedule) → ScheduleFits s → (l : ℕ) → start_of s l ≤ scanline * l
start_few s fits zero = omega arith
start_few s fits (suc l) = omega (arith, start_few s fits l, (length_within s fits l).1)

pub frame_some : (s : Schedule) → ScheduleFits s → 0 < frame_of s
frame_some s fits = by_count (length s.lines) fits.lines.some
  where
    by_count : (n : ℕ) → 1 ≤ n → 0 < start_of s n
    by_count zero h = absurd (omega (arith, h))
    by_count (suc n) h = omega (arith, (length_within s fits n).0)

-- where each kind is a scanline, so is each line
scanline_kind : (lengths : List ℕ) (kind : ℕ) → All (λ n. n ≡ scanline) lengths → slice_index_or lengths kind scanline ≡ scanline
scanline_kind [] kind h = refl
scanline_kind (n ∷ lengths) zero h = All-head (λ n. n ≡ scanline) n lengths h
scanline_kind (n ∷ lengths) (suc kind) h = scanline_kind lengths kind (All-tail (λ n. n ≡ scanline) n lengths h)

pub scanline_line : (s : Schedule) → All (λ n. n ≡ scanline) s.lengths → (l : ℕ) → length_of s l ≡ scanline
scanline_line s h l = by_kind (slice_get s.lines l)
  where
    by_kind : (o : Option ℕ) → length_of_kind s.lengths o ≡ scanline
    by_kind None = refl
    by_kind (Some kind) = scanline_kind s.lengths kind h

pub order_is : (s : Schedule) → All (λ n. n ≡ scanline) s.lengths → order_of s ≡ uniform (length s.lines)
order_is s h = λ i. record { length = λ l. scanline_line s h l i; next = next_line s }

-- a later line begins no earlier
pub start_more : (s : Schedule) (l d : ℕ) → start_of s l ≤ start_of s (l + d)
start_more s l zero =
    let same = ap (start_of s) (line_zero l) in
    omega (arith, same)
  where
    line_zero : (l : ℕ) → l + 0 ≡ l
    line_zero l = omega arith
start_more s l (suc d) =
    let next = ap (start_of s) (line_suc l d) in
    let before = start_more s l d in
    let step : start_of s (suc (l + d)) ≡ start_of s (l + d) + length_of s (l + d) = refl in
    omega (arith, next, before, step)
  where
    line_suc : (l d : ℕ) → l + suc d ≡ suc (l + d)
    line_suc l d = omega arith

-- a place of a line lies in the frame
pub place_below : (s : Schedule) (l k : ℕ) → l < length s.lines → k < length_of s l → start_of s l + k < frame_of s
place_below s l k h j =
    let whole : suc l + (length s.lines - suc l) ≡ length s.lines = omega (arith, h) in
    let later = start_more s (suc l) (length s.lines - suc l) in
    let frame = ap (start_of s) whole in
    let step : start_of s (suc l) ≡ start_of s l + length_of s l = refl in
    omega (arith, later, frame, step, j)

chosen : {A : Type 0} (b : Bool) (x y : A) → b ≡ true → cond b x y ≡ x
chosen true x y e = refl
chosen false x y e = absurd cc

passed : {A : Type 0} (b : Bool) (x y : A) → b ≡ false → cond b x y ≡ y
passed true x y e = absurd cc
passed false x y e = refl

below_true : (k n : ℕ) → k < n → ltb k n ≡ true
below_true k n h = grind (arith, nat_tests)

below_false : (k n : ℕ) → n ≤ k → ltb k n ≡ false
below_false k n h = grind (arith, nat_tests)

-- the walk over lines ends at the line whose place it is
walked : (s : Schedule) (l count k q r : ℕ) → start_of s l + k ≡ start_of s (l + q) + r → r < length_of s (l + q) → q < count
    → event_from s l count k ≡ event_in_kind (events_of s (l + q)) r
walked s l zero k q r e h b = absurd (omega (arith, b))
walked s l (suc count) k zero r e h b =
    let here : l + 0 ≡ l = omega arith in
    let same = ap (start_of s) here in
    let is : k ≡ r = omega (arith, e, same) in
    let long = ap (length_of s) here in
    chosen (ltb k (length_of s l)) _ _ (below_true k (length_of s l) (omega (arith, is, h, long))) ∙ rw (is, here) refl
walked s l (suc count) k (suc q) r e h b =
    let next : suc l + q ≡ l + suc q = omega arith in
    let same = ap (start_of s) next in
    let later = start_more s (suc l) q in
    let step : start_of s (suc l) ≡ start_of s l + length_of s l = refl in
    let long : length_of s l ≤ k = omega (arith, e, same, later, step) in
    passed (ltb k (length_of s l)) _ _ (below_false k (length_of s l) long)
    ∙ (walked s (suc l) count (k - length_of s l) q r (omega (arith, e, same, step, long)) (omega (arith, h, ap (length_of s) next))
    (omega (arith, b))
    ∙ ap (λ m. event_in_kind (events_of s m) r) next)

-- the event at a position that is clock k of line l
pub event_there : (s : Schedule) (p l k : ℕ) → l < length s.lines → k < length_of s l → start_of s l + k ≡ p % frame_of s
    → event_at s p ≡ event_in_kind (events_of s l) k
event_there s p l k h j e =
    let same : 0 + l ≡ l = omega arith in
    let begin = ap (start_of s) same in
    walked s 0 (length s.lines) (p % frame_of s) l k (omega (arith, e, begin)) (omega (arith, j, ap (length_of s) same)) h
    ∙ ap (λ m. event_in_kind (events_of s m) k) same

-- a place of a line is its own position
pub place_is : (s : Schedule) (l k : ℕ) → l < length s.lines → k < length_of s l → start_of s l + k ≡ (start_of s l + k) % frame_of s
place_is s l k h j = sym (mod-eq_of_lt (place_below s l k h j))

-- a look-up by line and clock
pub event_of_place : (s : Schedule) (l k : ℕ) → l < length s.lines → k < length_of s l → event_at s (start_of s l + k) ≡ event_in_kind
    (events_of s l) k
event_of_place s l k h j = event_there s (start_of s l + k) l k h j (place_is s l k h j)

pub start_next : (s : Schedule) (l : ℕ) → start_of s (l + 1) ≡ start_of s l + length_of s l
start_next s l = ap (start_of s) (one_more l)
  where
    one_more : (l : ℕ) → l + 1 ≡ suc l
    one_more l = omega arith

-- The search for the last level goes round the frame, and goes on a line at a time.
use Rattle.std.proofs.Common.{◌≡◌, ℕ, zero, suc, ◌+◌, ◌-◌, ◌*◌, ◌%◌, ◌<◌, ◌≤◌, Bool, true, false, ◌&&◌, cond, eqb, leb, ltb, List, [], ◌∷◌}
use Rattle.std.proofs.Common.{length, map, All, lit≤, refl, sym, subst, ◌∙◌, ap, arith}
use Rattle.std.specs.Prelude.{Option, Some, None, is_some, slice_get, slice_index}
use Rattle.std.proofs.Math.Nat.{add-mod_left, mod-mod}
use Rattle.std.proofs.lemmas.Bool.{eqb-true}
use Rattle.std.proofs.lemmas.Bool.Decides.{nat_tests}
use Rattle.std.proofs.lemmas.List.Elements.{All-head, All-tail}
use Rattle.uz_schedule.specs.declared.lines.Schedule.{Schedule}
use Rattle.uz_schedule.specs.declared.lines.Event.{Event}
use Rattle.uz_schedule.specs.Limits.{rises_from, rises, EventsFit, ScheduleFits}
use Rattle.uz_schedule.specs.Schedule.{length_of, start_of, frame_of, event_from, event_in, event_in_kind, events_of, level_set, sync_of}
use Rattle.uz_schedule.specs.Schedule.{sync_at, or_else, last_level, level_at}
use Rattle.uz_schedule.specs.Levels.{set_by, last_set, last_of_kind, line_round}
use Rattle.uz_schedule.proofs.Starts.{place_below, event_of_place}
use Rattle.uz_schedule.proofs.Modulo.{level_mod}

-- choices

pub else_else : (a b c : Option ℕ) → or_else (or_else a b) c ≡ or_else a (or_else b c)
else_else None b c = refl
else_else (Some v) b c = refl

else_none : (a : Option ℕ) → or_else a None ≡ a
else_none None = refl
else_none (Some v) = refl

-- a search of some positions, and then of more

pub search_more : (set : ℕ → Option ℕ) (n m p : ℕ) → last_level set (n + m) p ≡ or_else (last_level set n p) (last_level set m (p - n))
search_more set zero m p =
    let a : zero + m ≡ m = omega arith in
    let b : p - 0 ≡ p = omega arith in
    rw (a, b) refl
search_more set (suc n) m p =
    let a : suc n + m ≡ suc (n + m) = omega arith in
    let b : p - suc n ≡ p - 1 - n = omega arith in
    rw (a, b) (ap (or_else (set p)) (search_more set n m (p - 1))
    ∙ sym (else_else (set p) (last_level set n (p - 1)) (last_level set m (p - 1 - n))))

same_search : (set : ℕ → Option ℕ) (n p q : ℕ) → p ≡ q → last_level set n p ≡ last_level set n q
same_search set n p q e = ap (last_level set n) e

-- the events of a line

none_early : (least n : ℕ) (events : List Event) → n ≤ least → rises_from least (map (λ e. e.clock) events) ≡ true → last_set events
    n ≡ None
none_early least n [] h r = refl
none_early least n (e ∷ es) h r =
    let two = and_true (leb least e.clock) (rises_from (e.clock + 1) (map (λ e. e.clock) es)) r in
    let later : least ≤ e.clock = leb_is least e.clock two.0 in
    let rest = none_early (e.clock + 1) n es (omega arith) two.1 in
    ap (λ o. or_else o (set_by e n)) rest ∙ none_set e n (omega arith)
  where
    and_true : (a b : Bool) → (a && b) ≡ true → (a ≡ true) × (b ≡ true)
    and_true true b e = (refl, e)
    and_true false b e = absurd cc

    leb_is : (a b : ℕ) → leb a b ≡ true → a ≤ b
    leb_is a b e = grind (arith, nat_tests)

    none_set : (e : Event) (n : ℕ) → n ≤ e.clock → set_by e n ≡ None
    none_set e n h = false_cond (ltb e.clock n) (level_set e.kind) (grind (arith, nat_tests))
      where
        false_cond : (b : Bool) (o : Option ℕ) → b ≡ false → cond b o None ≡ None
        false_cond true o f = absurd cc
        false_cond false o f = refl

same_clock : (y z : Bool) (level later early here : Option ℕ) → y ≡ false → z ≡ true → later ≡ None → early ≡ None → here ≡ level
    → or_else later (cond z level None) ≡ or_else here (or_else early (cond y level None))
same_clock y z level later early here e f g h k = rw (e, f, g, h, k) (sym (else_none level))

other_clock : (t z : Bool) (level later early here : Option ℕ) → z ≡ t → later ≡ or_else here early → or_else later (cond z level None)
    ≡ or_else here (or_else early (cond t level None))
other_clock true z level later early here e f = rw (e, f) (else_else here early level)
other_clock false z level later early here e f = rw (e, f) (else_else here early None)

rest_rises : (a b : Bool) → (a && b) ≡ true → b ≡ true
rest_rises true b e = e
rest_rises false b e = absurd cc

before_is : (a b : ℕ) → eqb a b ≡ false → ltb a (suc b) ≡ ltb a b
before_is a b f = grind (arith, nat_tests)

not_before : (a b : ℕ) → eqb a b ≡ true → ltb a b ≡ false
not_before a b f = grind (arith, nat_tests)

now_before : (a b : ℕ) → eqb a b ≡ true → ltb a (suc b) ≡ true
now_before a b f = grind (arith, nat_tests)

by_clock : (n : ℕ) (e : Event) (es : List Event) → rises_from (e.clock + 1) (map (λ e. e.clock) es) ≡ true → last_set es (suc n) ≡ or_else
    (sync_of (event_in es n)) (last_set es n) → (x : Bool) → eqb e.clock n ≡ x → or_else (last_set es (suc n))
    (cond (ltb e.clock (suc n)) (level_set e.kind) None) ≡ or_else (sync_of (cond x (Some e.kind) (event_in es n)))
    (or_else (last_set es n) (cond (ltb e.clock n) (level_set e.kind) None))
by_clock n e es rise later true f =
    let same : e.clock ≡ n = eqb-true e.clock n f in
    same_clock (ltb e.clock n) (ltb e.clock (suc n)) (level_set e.kind) (last_set es (suc n)) (last_set es n) (level_set e.kind)
    (not_before e.clock n f) (now_before e.clock n f) (none_early (e.clock + 1) (suc n) es (omega arith) rise)
    (none_early (e.clock + 1) n es (omega arith) rise) refl
by_clock n e es rise later false f =
    other_clock (ltb e.clock n) (ltb e.clock (suc n)) (level_set e.kind) (last_set es (suc n)) (last_set es n) (sync_of (event_in es n))
    (before_is e.clock n f) later

-- one clock more
set_step : (least n : ℕ) (events : List Event) → rises_from least (map (λ e. e.clock) events) ≡ true → last_set events (suc n) ≡ or_else
    (sync_of (event_in events n)) (last_set events n)
set_step least n [] r = refl
set_step least n (e ∷ es) r =
    let rise = rest_rises (leb least e.clock) (rises_from (e.clock + 1) (map (λ e. e.clock) es)) r in
    by_clock n e es rise (set_step (e.clock + 1) n es rise) (eqb e.clock n) refl

-- the events of a kind

abbrev Rises : Option (List Event) → Type 0
Rises None = Unit {0}
Rises (Some events) = rises (map (λ e. e.clock) events) ≡ true

kind_rises : (kinds : List (List Event)) (k : ℕ) → All EventsFit kinds → Rises (slice_get kinds k)
kind_rises [] k h = tt
kind_rises (es ∷ kinds) zero h = (All-head EventsFit es kinds h).rise
kind_rises (es ∷ kinds) (suc k) h = kind_rises kinds k (All-tail EventsFit es kinds h)

kind_none : (o : Option (List Event)) → Rises o → last_of_kind o 0 ≡ None
kind_none None h = refl
kind_none (Some events) h = none_early 0 0 events (lit≤ tt) h

kind_step : (o : Option (List Event)) (n : ℕ) → Rises o → last_of_kind o (suc n) ≡ or_else (sync_of (event_in_kind o n)) (last_of_kind o n)
kind_step None n h = refl
kind_step (Some events) n h = set_step 0 n events h

-- a search goes round the frame

same_round : (s : Schedule) (p : ℕ) → sync_at s (p + frame_of s) ≡ sync_at s p
same_round s p =
    let swap : p + frame_of s ≡ frame_of s + p = omega arith in
    let same : (p + frame_of s) % frame_of s ≡ p % frame_of s = ap (λ k. k % frame_of s) swap ∙ add-mod_left (frame_of s) p in
    ap (λ k. sync_of (event_from s 0 (length s.lines) k)) same

search_round : (s : Schedule) (n p : ℕ) → n ≤ p + 1 → last_level (sync_at s) n (p + frame_of s) ≡ last_level (sync_at s) n p
search_round s zero p h = refl
search_round s (suc zero) p h = ap (λ o. or_else o None) (same_round s p)
search_round s (suc (suc n)) p h =
    let down : p + frame_of s - 1 ≡ p - 1 + frame_of s = omega arith in
    ap (λ o. or_else o (last_level (sync_at s) (suc n) (p + frame_of s - 1))) (same_round s p)
    ∙ ap (or_else (sync_at s p)) (same_search (sync_at s) (suc n) (p + frame_of s - 1) (p - 1 + frame_of s) down ∙ search_round s (suc n)
    (p - 1) (omega arith))

none_first : (a b : Option ℕ) → a ≡ None → or_else a b ≡ b
none_first a b e = ap (λ o. or_else o b) e

some_first : (a b : Option ℕ) (v : ℕ) → a ≡ Some v → or_else a b ≡ Some v
some_first a b v e = ap (λ o. or_else o b) e

-- where nothing is set from the line's begin to this place, the search begins at the line before
pub search_before : (s : Schedule) (place n p : ℕ) → p ≡ place + frame_of s → n ≤ place + 1 → last_level (sync_at s) n p ≡ None
    → last_level (sync_at s) (frame_of s) (p - n) ≡ last_level (sync_at s) (frame_of s) p
search_before s place n p e h none =
    let first = search_more (sync_at s) n (frame_of s) p ∙ none_first (last_level (sync_at s) n p)
    (last_level (sync_at s) (frame_of s) (p - n)) none in
    let back : p - frame_of s ≡ place = omega arith in
    let again : last_level (sync_at s) n (p - frame_of s) ≡ None = same_search (sync_at s) n (p - frame_of s) place back
    ∙ (sym (search_round s n place h) ∙ (same_search (sync_at s) n (place + frame_of s) p (sym e) ∙ none)) in
    let second = search_more (sync_at s) (frame_of s) n p ∙ (ap (or_else (last_level (sync_at s) (frame_of s) p)) again
    ∙ else_none (last_level (sync_at s) (frame_of s) p)) in
    let swap : n + frame_of s ≡ frame_of s + n = omega arith in
    sym first ∙ (ap (λ k. last_level (sync_at s) k p) swap ∙ second)

pub search_found : (s : Schedule) (n m p v : ℕ) → n ≤ m → last_level (sync_at s) n p ≡ Some v → last_level (sync_at s) m p ≡ Some v
search_found s n m p v h e =
    let whole : m ≡ n + (m - n) = omega arith in
    ap (λ k. last_level (sync_at s) k p) whole ∙ (search_more (sync_at s) n (m - n) p ∙ some_first (last_level (sync_at s) n p)
    (last_level (sync_at s) (m - n) (p - n)) v e)

pub search_passed : (s : Schedule) (n m p : ℕ) → n ≤ m → last_level (sync_at s) n p ≡ None → last_level (sync_at s) m p ≡ last_level
    (sync_at s) (m - n) (p - n)
search_passed s n m p h e =
    let whole : m ≡ n + (m - n) = omega arith in
    ap (λ k. last_level (sync_at s) k p) whole ∙ (search_more (sync_at s) n (m - n) p ∙ none_first (last_level (sync_at s) n p)
    (last_level (sync_at s) (m - n) (p - n)) e)

-- lines, counted on round the frame

-- where line q begins, lines counted on round the frame once
unfoldable pub start_round : Schedule → ℕ → ℕ
start_round s q = cond (ltb q (length s.lines)) (start_of s q) (frame_of s + start_of s (q - length s.lines))

below : (a b : ℕ) → ltb a b ≡ true → a < b
below a b f = grind (arith, nat_tests)

not_below : (a b : ℕ) → ltb a b ≡ false → b ≤ a
not_below a b f = grind (arith, nat_tests)

ltb_true : (a b : ℕ) → a < b → ltb a b ≡ true
ltb_true a b h = grind (arith, nat_tests)

ltb_false : (a b : ℕ) → b ≤ a → ltb a b ≡ false
ltb_false a b h = grind (arith, nat_tests)

round_is : (s : Schedule) (q : ℕ) → start_round s q ≡ cond (ltb q (length s.lines)) (start_of s q)
    (frame_of s + start_of s (q - length s.lines))
unfolding start_round
round_is s q = refl

chosen : {A : Type 0} (b : Bool) (x y : A) → b ≡ true → cond b x y ≡ x
chosen true x y e = refl
chosen false x y e = absurd cc

passed : {A : Type 0} (b : Bool) (x y : A) → b ≡ false → cond b x y ≡ y
passed true x y e = absurd cc
passed false x y e = refl

first_round : (s : Schedule) (q : ℕ) → q < length s.lines → start_round s q ≡ start_of s q
first_round s q h = round_is s q ∙ chosen (ltb q (length s.lines)) _ _ (ltb_true q (length s.lines) h)

next_round : (s : Schedule) (q : ℕ) → length s.lines ≤ q → start_round s q ≡ frame_of s + start_of s (q - length s.lines)
next_round s q h = round_is s q ∙ passed (ltb q (length s.lines)) _ _ (ltb_false q (length s.lines) h)

-- the line after q begins where q ends
round_step : (s : Schedule) (q : ℕ) → start_round s (suc q) ≡ start_round s q + length_of s (line_round s q)
round_step s q = by_tests (ltb (suc q) (length s.lines)) (ltb q (length s.lines)) refl refl
  where
    by_tests : (t u : Bool) → ltb (suc q) (length s.lines) ≡ t → ltb q (length s.lines) ≡ u → start_round s (suc q) ≡ start_round s
        q + length_of s (line_round s q)
    by_tests true u e f =
        let less = below (suc q) (length s.lines) e in
        let before : q < length s.lines = omega (arith, less) in
        let here : line_round s q ≡ q = chosen (ltb q (length s.lines)) _ _ (ltb_true q (length s.lines) before) in
        first_round s (suc q) less ∙ (ap (λ l. start_of s q + length_of s l) (sym here)
        ∙ sym (ap (λ n. n + length_of s (line_round s q)) (first_round s q before)))
    by_tests false true e f =
        let less = below q (length s.lines) f in
        let more = not_below (suc q) (length s.lines) e in
        let none : suc q - length s.lines ≡ 0 = omega (arith, less, more) in
        let last : suc q ≡ length s.lines = omega (arith, less, more) in
        let one = next_round s (suc q) more in
        let two = first_round s q less in
        let zero_begin = ap (start_of s) none in
        let frame = ap (start_of s) last in
        let step : start_of s (suc q) ≡ start_of s q + length_of s q = refl in
        let long : length_of s (line_round s q) ≡ length_of s q = rw f refl in
        omega (arith, one, two, zero_begin, frame, step, long)
    by_tests false false e f =
        let more = not_below q (length s.lines) f in
        let one = next_round s (suc q) (omega (arith, more)) in
        let two = next_round s q more in
        let next : suc q - length s.lines ≡ suc (q - length s.lines) = omega (arith, more) in
        let begin = ap (start_of s) next in
        let step : start_of s (suc (q - length s.lines)) ≡ start_of s (q - length s.lines) + length_of s (q - length s.lines) = refl in
        let long : length_of s (line_round s q) ≡ length_of s (q - length s.lines) = rw f refl in
        omega (arith, one, two, begin, step, long)

round_more : (s : Schedule) (q d : ℕ) → start_round s q ≤ start_round s (q + d)
round_more s q zero =
    let same = ap (start_round s) (line_zero q) in
    omega (arith, same)
  where
    line_zero : (l : ℕ) → l + 0 ≡ l
    line_zero l = omega arith
round_more s q (suc d) =
    let next = ap (start_round s) (line_suc q d) in
    let before = round_more s q d in
    let step = round_step s (q + d) in
    omega (arith, next, before, step)
  where
    line_suc : (l d : ℕ) → l + suc d ≡ suc (l + d)
    line_suc l d = omega arith

-- what is set at a clock of a line, lines counted on round the frame
set_at : (s : Schedule) (q n : ℕ) → n < length_of s (line_round s q) → q < 2 * length s.lines → sync_at s (start_round s q + n) ≡ sync_of
    (event_in_kind (events_of s (line_round s q)) n)
set_at s q n h k = by_test (ltb q (length s.lines)) refl
  where
    line_is : (l m : ℕ) → l ≡ m → sync_of (event_in_kind (events_of s l) n) ≡ sync_of (event_in_kind (events_of s m) n)
    line_is l m e = ap (λ i. sync_of (event_in_kind (events_of s i) n)) e

    by_test : (t : Bool) → ltb q (length s.lines) ≡ t → sync_at s (start_round s q + n) ≡ sync_of
        (event_in_kind (events_of s (line_round s q)) n)
    by_test true e =
        let less = below q (length s.lines) e in
        let line : line_round s q ≡ q = chosen (ltb q (length s.lines)) q (q - length s.lines) e in
        ap (λ i. sync_at s (i + n)) (first_round s q less)
        ∙ (ap sync_of (event_of_place s q n less (omega (arith, h, ap (length_of s) line))) ∙ line_is q (line_round s q) (sym line))
    by_test false e =
        let more = not_below q (length s.lines) e in
        let line : line_round s q ≡ q - length s.lines = passed (ltb q (length s.lines)) q (q - length s.lines) e in
        let begin = next_round s q more in
        let place : start_round s q + n ≡ (start_of s (q - length s.lines) + n) + frame_of s = omega (arith, begin) in
        ap (sync_at s) place
        ∙ (same_round s (start_of s (q - length s.lines) + n)
        ∙ (ap sync_of (event_of_place s (q - length s.lines) n (omega (arith, more, k)) (omega (arith, h, ap (length_of s) line)))
        ∙ line_is (q - length s.lines) (line_round s q) (sym line)))

kind_rises_at : (s : Schedule) (l : ℕ) → ScheduleFits s → Rises (events_of s l)
kind_rises_at s l fits = kind_rises s.kinds (slice_index s.lines l) fits.kinds.each

-- a search of the first n clocks of a line
line_search : (s : Schedule) (q n : ℕ) → ScheduleFits s → n ≤ length_of s (line_round s q) → q < 2 * length s.lines → last_level (sync_at s)
    n (start_round s q + n - 1) ≡ last_of_kind (events_of s (line_round s q)) n
line_search s q zero fits h k = sym (kind_none (events_of s (line_round s q)) (kind_rises_at s (line_round s q) fits))
line_search s q (suc n) fits h k =
    let here : start_round s q + suc n - 1 ≡ start_round s q + n = omega arith in
    let rest = line_search s q n fits (omega (arith, h)) k in
    same_search (sync_at s) (suc n) (start_round s q + suc n - 1) (start_round s q + n) here
    ∙ (ap (λ o. or_else o (last_level (sync_at s) n (start_round s q + n - 1))) (set_at s q n (omega (arith, h)) k)
    ∙ (ap (or_else (sync_of (event_in_kind (events_of s (line_round s q)) n))) rest
    ∙ sym (kind_step (events_of s (line_round s q)) n (kind_rises_at s (line_round s q) fits))))

-- the level, by lines

none_is : (o : Option ℕ) → is_some o ≡ false → o ≡ None
none_is None e = refl
none_is (Some v) e = absurd cc

-- from clock k of line l back to the line's begin
first_search : (s : Schedule) (l k : ℕ) → ScheduleFits s → l < length s.lines → k < length_of s l → last_level (sync_at s) (k + 1)
    (start_of s l + k + frame_of s) ≡ last_of_kind (events_of s l) (k + 1)
first_search s l k fits h j =
    let more : length s.lines ≤ l + length s.lines = omega arith in
    let back : l + length s.lines - length s.lines ≡ l = omega arith in
    let begin = next_round s (l + length s.lines) more in
    let begin_of = ap (start_of s) back in
    let at : start_of s l + k + frame_of s ≡ start_round s (l + length s.lines) + (k + 1) - 1 = omega (arith, begin, begin_of) in
    let line : line_round s (l + length s.lines) ≡ l = passed (ltb (l + length s.lines) (length s.lines)) (l + length s.lines)
    (l + length s.lines - length s.lines) (ltb_false (l + length s.lines) (length s.lines) more) ∙ back in
    same_search (sync_at s) (k + 1) (start_of s l + k + frame_of s) (start_round s (l + length s.lines) + (k + 1) - 1) at
    ∙ (line_search s (l + length s.lines) (k + 1) fits (omega (arith, j, ap (length_of s) line)) (omega (arith, h))
    ∙ ap (λ i. last_of_kind (events_of s i) (k + 1)) line)

level_place : (s : Schedule) (p l k : ℕ) → start_of s l + k ≡ p % frame_of s → level_at s p ≡ last_level (sync_at s) (frame_of s)
    (start_of s l + k + frame_of s)
level_place s p l k e = ap (λ i. last_level (sync_at s) (frame_of s) (i + frame_of s)) (sym e)

-- the level at a position is that at its line and clock
pub level_there : (s : Schedule) (p l k : ℕ) → start_of s l + k ≡ p % frame_of s → level_at s (start_of s l + k) ≡ level_at s p
level_there s p l k e = level_mod s (start_of s l + k) p (ap (λ i. i % frame_of s) e ∙ mod-mod p (frame_of s))

-- the line itself has the level
pub level_first : (s : Schedule) (p l k : ℕ) (o : Option ℕ) → ScheduleFits s → l < length s.lines → k < length_of s l → start_of s l + k ≡ p
    % frame_of s → o ≡ last_of_kind (events_of s l) (k + 1) → is_some o ≡ true → o ≡ level_at s p
level_first s p l k None fits h j e f some = absurd cc
level_first s p l k (Some v) fits h j e f some =
    let small = place_below s l k h j in
    sym (level_place s p l k e ∙ search_found s (k + 1) (frame_of s) (start_of s l + k + frame_of s) v (omega (arith, small))
    (first_search s l k fits h j ∙ sym f))

-- it has none, so lines are searched from the one before it, all round the frame
level_before : (s : Schedule) (p l k : ℕ) (o : Option ℕ) → ScheduleFits s → l < length s.lines → k < length_of s l → start_of s l + k ≡ p %
    frame_of s → o ≡ last_of_kind (events_of s l) (k + 1) → is_some o ≡ false → level_at s p ≡ last_level (sync_at s)
    (start_round s (l + length s.lines) - start_of s l) (start_round s (l + length s.lines) - 1)
level_before s p l k o fits h j e f none =
    let small = place_below s l k h j in
    let empty = first_search s l k fits h j ∙ (sym f ∙ none_is o none) in
    let begin = next_round s (l + length s.lines) (omega arith) in
    let begin_of = ap (start_of s) (line_back l (length s.lines)) in
    let count : frame_of s ≡ start_round s (l + length s.lines) - start_of s l = omega (arith, begin, begin_of) in
    let back : start_of s l + k + frame_of s - (k + 1) ≡ start_round s (l + length s.lines) - 1 = omega (arith, begin, begin_of) in
    level_place s p l k e
    ∙ (sym (search_before s (start_of s l + k) (k + 1) (start_of s l + k + frame_of s) refl (omega arith) empty)
    ∙ (ap (λ i. last_level (sync_at s) i (start_of s l + k + frame_of s - (k + 1))) count ∙ same_search (sync_at s)
    (start_round s (l + length s.lines) - start_of s l) (start_of s l + k + frame_of s - (k + 1))
    (start_round s (l + length s.lines) - 1) back))
  where
    line_back : (l n : ℕ) → l + n - n ≡ l
    line_back l n = omega arith

-- the whole line before the count-th
whole_line : (s : Schedule) (count : ℕ) → ScheduleFits s → 0 < count → count ≤ 2 * length s.lines → last_level (sync_at s)
    (length_of s (line_round s (count - 1))) (start_round s count - 1) ≡ last_of_kind (events_of s (line_round s (count - 1)))
    (length_of s (line_round s (count - 1)))
whole_line s count fits h k =
    let is : suc (count - 1) ≡ count = omega (arith, h) in
    let begin = round_step s (count - 1) in
    let same = ap (start_round s) is in
    let at : start_round s count - 1 ≡ start_round s (count - 1) + length_of s (line_round s (count - 1)) - 1 =
    omega (arith, begin, same) in
    same_search (sync_at s) (length_of s (line_round s (count - 1))) (start_round s count - 1)
    (start_round s (count - 1) + length_of s (line_round s (count - 1)) - 1) at
    ∙ line_search s (count - 1) (length_of s (line_round s (count - 1))) fits (omega arith) (omega (arith, h, k))

-- the lines that are left to search are as long as those from l on
whole_fits : (s : Schedule) (l count : ℕ) → l < length s.lines → l < count → start_of s l + length_of s (line_round s (count - 1))
    ≤ start_round s count
whole_fits s l count h k =
    let is : suc (count - 1) ≡ count = omega (arith, k) in
    let begin = round_step s (count - 1) in
    let same = ap (start_round s) is in
    let whole : l + (count - 1 - l) ≡ count - 1 = omega (arith, k) in
    let later = round_more s l (count - 1 - l) in
    let at = ap (start_round s) whole in
    let first = first_round s l h in
    omega (arith, begin, same, later, at, first)

pub level_of_line : (s : Schedule) (p l count : ℕ) (o : Option ℕ) → ScheduleFits s → l < length s.lines → l < count → count ≤ 2 * length
    s.lines → o ≡ last_of_kind (events_of s (line_round s (count - 1))) (length_of s (line_round s (count - 1))) → is_some o ≡ true
    → level_at s p ≡ last_level (sync_at s) (start_round s count - start_of s l) (start_round s count - 1) → o ≡ level_at s p
level_of_line s p l count None fits h k j e some now = absurd cc
level_of_line s p l count (Some v) fits h k j e some now =
    let long = whole_fits s l count h k in
    sym (now ∙ search_found s (length_of s (line_round s (count - 1))) (start_round s count - start_of s l) (start_round s count - 1) v
    (omega (arith, long)) (whole_line s count fits (omega (arith, k)) j ∙ sym e))

passed_line : (s : Schedule) (p l count : ℕ) (o : Option ℕ) → ScheduleFits s → l < length s.lines → l < count → count ≤ 2 * length s.lines
    → o ≡ last_of_kind (events_of s (line_round s (count - 1))) (length_of s (line_round s (count - 1))) → is_some o ≡ false
    → level_at s p ≡ last_level (sync_at s) (start_round s count - start_of s l) (start_round s count - 1) → level_at s p ≡ last_level
    (sync_at s) (start_round s (count - 1) - start_of s l) (start_round s (count - 1) - 1)
passed_line s p l count o fits h k j e none now =
    let long = whole_fits s l count h k in
    let is : suc (count - 1) ≡ count = omega (arith, k) in
    let begin = round_step s (count - 1) in
    let same = ap (start_round s) is in
    let n = length_of s (line_round s (count - 1)) in
    let left : start_round s count - start_of s l - n ≡ start_round s (count - 1) - start_of s l = omega (arith, begin, same, long) in
    let at : start_round s count - 1 - n ≡ start_round s (count - 1) - 1 = omega (arith, begin, same) in
    now ∙ (search_passed s n (start_round s count - start_of s l) (start_round s count - 1) (omega (arith, long))
    (whole_line s count fits (omega (arith, k)) j ∙ (sym e ∙ none_is o none))
    ∙ (ap (λ i. last_level (sync_at s) i (start_round s count - 1 - n)) left ∙ same_search (sync_at s)
    (start_round s (count - 1) - start_of s l) (start_round s count - 1 - n) (start_round s (count - 1) - 1) at))

-- no line has it
no_line_left : (s : Schedule) (p l : ℕ) → l < length s.lines → level_at s p ≡ last_level (sync_at s) (start_round s l - start_of s l)
    (start_round s l - 1) → level_at s p ≡ None
no_line_left s p l h now =
    let first = first_round s l h in
    let none : start_round s l - start_of s l ≡ 0 = omega (arith, first) in
    now ∙ ap (λ i. last_level (sync_at s) i (start_round s l - 1)) none

-- the same with the count of lines by another name, as the code has it

abbrev pub LevelLeft : Schedule → ℕ → ℕ → ℕ → Type 0
LevelLeft s p l count = level_at s p ≡ last_level (sync_at s) (start_round s count - start_of s l) (start_round s count - 1)

pub level_before_line : (s : Schedule) (p l k count : ℕ) (o : Option ℕ) → ScheduleFits s → l < length s.lines → k < length_of s l
    → start_of s l + k ≡ p % frame_of s → o ≡ last_of_kind (events_of s l) (k + 1) → is_some o ≡ false → l + length s.lines ≡ count
    → LevelLeft s p l count
level_before_line s p l k count o fits h j e f none is = subst (λ n. LevelLeft s p l n) is (level_before s p l k o fits h j e f none)

pub level_passed : (s : Schedule) (p l count next : ℕ) (o : Option ℕ) → ScheduleFits s → l < length s.lines → l < count → count ≤ 2 * length
    s.lines → o ≡ last_of_kind (events_of s (line_round s (count - 1))) (length_of s (line_round s (count - 1))) → is_some o ≡ false
    → count - 1 ≡ next → LevelLeft s p l count → LevelLeft s p l next
level_passed s p l count next o fits h k j e none is now = subst (λ n. LevelLeft s p l n) is
    (passed_line s p l count o fits h k j e none now)

pub level_none : (s : Schedule) (p l count : ℕ) → l < length s.lines → count ≡ l → LevelLeft s p l count → level_at s p ≡ None
level_none s p l count h is now = no_line_left s p l h (subst (λ n. LevelLeft s p l n) is now)

-- Places of rests rise in the frame; counted from one of them on they rise round the frame.
use Rattle.std.proofs.Common.{◌≡◌, inl, inr, ℕ, zero, suc, ◌+◌, ◌-◌, ◌%◌, ◌<◌, ◌≤◌, Bool, true, false, cond, leb, List, [], ◌∷◌, ◌++◌}
use Rattle.std.proofs.Common.{map, refl, sym, ◌∙◌, ap, arith}
use Rattle.std.specs.Prelude.{◌&&◌}
use Rattle.std.proofs.Math.Nat.{mod-add-mod, mod-eq_of_lt, mod-eq-sub-mod}
use Rattle.std.proofs.lemmas.Bool.{leb-true}
use Rattle.std.proofs.lemmas.Bool.Decides.{leb_tells}
use Rattle.uz_schedule.specs.Limits.{rises_from}
use Rattle.uz_schedule.specs.Schedule.{length_of, start_of}
use Rattle.uz_schedule.specs.declared.lines.Schedule.{Schedule}
use Rattle.uz_schedule.specs.declared.states.Rest.{Rest}
use Rattle.uz_report.proofs.Rising.{Among, Rising, among_right, rising_across, rising_both, rising_by, rising_left, rising_right}

-- Places

abbrev pub place : Schedule → Rest → ℕ
place s rest = start_of s rest.line + rest.clock

ahead : (s : Schedule) (a n : ℕ) → start_of s a ≤ start_of s (a + n)
ahead s a zero = (let same : start_of s a ≡ start_of s (a + zero) = ap (start_of s) (omega arith) in omega (arith, same))
ahead s a (suc n) =
    let more = ahead s a n in
    let next : start_of s (a + n) + length_of s (a + n) ≡ start_of s (a + suc n) = ap (start_of s) {x = suc (a + n)} (omega arith) in
    omega (arith, more, next)

later_line : (s : Schedule) (a b k m : ℕ) → a < b → k < length_of s a → start_of s a + k < start_of s b + m
later_line s a b k m before inside =
    let further = ahead s (suc a) (b - suc a) in
    let there : start_of s (suc a + (b - suc a)) ≡ start_of s b = ap (start_of s) (omega (arith, before)) in
    omega (arith, further, there, inside)

and_true : (a b : Bool) → (a && b) ≡ true → (a ≡ true) × (b ≡ true)
and_true true b e = (refl, e)
and_true false b e = absurd cc

lines_from : (least : ℕ) (rests : List Rest) → rises_from least (map (λ (r : Rest). r.line) rests) ≡ true → (y : Rest) → Among y rests
    → least ≤ y.line
lines_from least [] h y none = absurd none
lines_from least (x ∷ rests) h y (inl is) =
    let first = leb-true least x.line (and_true (leb least x.line) _ h).0 in
    let same = ap (λ (r : Rest). r.line) is in
    omega (arith, first, same)
lines_from least (x ∷ rests) h y (inr later) =
    let two = and_true (leb least x.line) (rises_from (x.line + 1) (map (λ (r : Rest). r.line) rests)) h in
    let first = leb-true least x.line two.0 in
    let more = lines_from (x.line + 1) rests two.1 y later in
    omega (arith, first, more)

pub lines_rise : (least : ℕ) (rests : List Rest) → rises_from least (map (λ (r : Rest). r.line) rests) ≡ true
    → Rising (λ (r : Rest). r.line) rests
lines_rise least [] h = tt
lines_rise least (x ∷ rests) h =
    let two = and_true (leb least x.line) (rises_from (x.line + 1) (map (λ (r : Rest). r.line) rests)) h in
    (λ y among. (let more = lines_from (x.line + 1) rests two.1 y among in omega (arith, more)), lines_rise (x.line + 1) rests two.1)

pub places_rise : (s : Schedule) (rests : List Rest) → Rising (λ (r : Rest). r.line) rests
    → ((r : Rest) → Among r rests → r.clock < length_of s r.line) → Rising (place s) rests
places_rise s rests h inside =
    rising_by (λ (r : Rest). r.line) (place s) rests h
    (λ x y first second before. later_line s x.line y.line x.clock y.clock before (inside x first))

-- From one place on

-- so many clocks after a place comes another, round a frame
abbrev pub clocks_from : ℕ → ℕ → ℕ → ℕ
clocks_from frame from to = cond (leb from to) (to - from) (to + frame - from)

pub from_onward : (frame from to : ℕ) → from ≤ to → clocks_from frame from to ≡ to - from
from_onward frame from to h =
    elim (leb_tells from to) [
      | inl t ↦ ap (λ b. cond b (to - from) (to + frame - from)) t.0
      | inr t ↦ absurd (let past = t.1 in omega (arith, past, h))
    ]

pub from_round : (frame from to : ℕ) → to < from → clocks_from frame from to ≡ to + frame - from
from_round frame from to h =
    elim (leb_tells from to) [
      | inl t ↦ absurd (let past = t.1 in omega (arith, past, h))
      | inr t ↦ ap (λ b. cond b (to - from) (to + frame - from)) t.0
    ]

-- less than a frame
pub from_short : (frame from to : ℕ) → from < frame → to < frame → clocks_from frame from to < frame
from_short frame from to h g =
    elim (leb_tells from to) [
      | inl t ↦ (let is = from_onward frame from to t.1 in omega (arith, is, g))
      | inr t ↦ (let is = from_round frame from to t.1 in let past = t.1 in omega (arith, is, past, h))
    ]

-- and that is where it is
pub from_reaches : (frame from to : ℕ) → from < frame → to < frame → (from + clocks_from frame from to) % frame ≡ to
from_reaches frame from to h g =
    elim (leb_tells from to) [
      | inl t ↦
          let is = from_onward frame from to t.1 in
          let past = t.1 in
          let sum : from + clocks_from frame from to ≡ to = omega (arith, is, past) in
          ap (λ n. n % frame) sum ∙ mod-eq_of_lt g
      | inr t ↦
          let is = from_round frame from to t.1 in
          let past = t.1 in
          let sum : from + clocks_from frame from to ≡ to + frame = omega (arith, is, past, h) in
          let whole : frame ≤ to + frame = omega arith in
          let rest : to + frame - frame ≡ to = omega arith in
          ap (λ n. n % frame) sum ∙ (mod-eq-sub-mod whole ∙ (ap (λ n. n % frame) rest ∙ mod-eq_of_lt g))
    ]

-- nowhere else
pub from_is : (frame q d from to : ℕ) → d < frame → from < frame → q % frame ≡ from → (q + d) % frame ≡ to
    → d ≡ clocks_from frame from to
from_is frame q d from to few h at there =
    let reached : (from + d) % frame ≡ to = ap (λ n. (n + d) % frame) (sym at) ∙ (mod-add-mod q frame d ∙ there) in
    elim (leb_tells (suc (from + d)) frame) [
      | inl t ↦
          let same : from + d ≡ to = sym (mod-eq_of_lt t.1) ∙ reached in
          let is = from_onward frame from to (omega (arith, same)) in
          omega (arith, same, is)
      | inr t ↦
          let past : frame ≤ from + d = (let p = t.1 in omega (arith, p)) in
          let short : from + d - frame < frame = omega (arith, past, few, h) in
          let same : from + d - frame ≡ to = sym (mod-eq-sub-mod past ∙ mod-eq_of_lt short) ∙ reached in
          let is = from_round frame from to (omega (arith, same, past, few)) in
          omega (arith, same, is, past, few)
    ]

-- rests in the frame's order from one on
pub turned_rise : {X : Type 0} (key : X → ℕ) (frame : ℕ) (earlier : List X) (r : X) (later : List X) → Rising key (earlier ++ r ∷ later)
    → ((x : X) → Among x (earlier ++ r ∷ later) → key x < frame) → Rising (λ x. clocks_from frame (key r) (key x)) ((r ∷ later) ++ earlier)
turned_rise {X} key frame earlier r later h below = rising_both offset (r ∷ later) earlier first second across
  where
    offset : X → ℕ
    offset x = clocks_from frame (key r) (key x)

    onward : (x : X) → Among x (r ∷ later) → key r ≤ key x
    onward x (inl is) = (let same = ap key is in omega (arith, same))
    onward x (inr among) = (let less = (rising_right key earlier (r ∷ later) h).0 x among in omega (arith, less))

    before : (x : X) → Among x earlier → key x < key r
    before x among = rising_across key earlier (r ∷ later) x r h among (inl refl)

    first : Rising offset (r ∷ later)
    first = rising_by key offset (r ∷ later) (rising_right key earlier (r ∷ later) h)
        (λ x y one other less.
        let low = onward x one in
        let high = onward y other in
        let is = from_onward frame (key r) (key x) low in
        let also = from_onward frame (key r) (key y) high in
        omega (arith, low, high, is, also, less))

    second : Rising offset earlier
    second = rising_by key offset earlier (rising_left key earlier (r ∷ later) h)
        (λ x y one other less.
        let low = before x one in
        let high = before y other in
        let is = from_round frame (key r) (key x) low in
        let also = from_round frame (key r) (key y) high in
        let inside = below r (among_right r earlier (r ∷ later) (inl refl)) in
        omega (arith, low, high, is, also, less, inside))

    across : (x y : X) → Among x (r ∷ later) → Among y earlier → offset x < offset y
    across x y one other =
        let low = onward x one in
        let high = before y other in
        let is = from_onward frame (key r) (key x) low in
        let also = from_round frame (key r) (key y) high in
        let inside = below x (among_right x earlier (r ∷ later) one) in
        let whole = below r (among_right r earlier (r ∷ later) (inl refl)) in
        omega (arith, low, high, is, also, inside, whole)

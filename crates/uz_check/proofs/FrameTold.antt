-- The tests of a rest and of the entry hold exactly where their rules do.
use Rattle.uz_check.proofs.Common.{and_parts, ◌≡◌, inl, inr, All, Contains, ℕ, zero, suc, ◌+◌, ◌<◌, ◌≤◌, Bool, true, false, eqb, leb, ltb}
use Rattle.uz_check.proofs.Common.{List, [], ◌∷◌, length, refl, sym, ◌∙◌, ap, arith, Option, Some, None, ◌||◌, le-leb, leb-true, nat_tests}
use Rattle.uz_check.proofs.Common.{eqb_tells, leb_tells, All-tail, length_within, clocks_within, event_of_place, ScheduleFits, length_of}
use Rattle.uz_check.proofs.Common.{start_of, next_line, event_in, event_in_kind, events_of, event_at, response_clocks, Kind, Main, Handler}
use Rattle.uz_check.proofs.Common.{Alone, Event, EventKind, Rest, Cert, RestPasses, EntryPasses, none_after, none_until}
use Rattle.uz_check.proofs.Fitting.{response_few}
use Rattle.uz_check.proofs.LineEvents.{next_inside}
use Rattle.uz_schedule.specs.declared.lines.EventKind.TheVariants.{Leave}
use Rattle.uz_check.specs.FrameTests.{none_after_in, none_until_in, is_leave, leaves_at, is_quiet_rest, enters_at, enters_always, rest_test}
use Rattle.uz_check.specs.FrameTests.{needs_no_rest, entry_test}

-- Events

leave_tells : (o : Option EventKind) → is_leave o ≡ true → o ≡ Some Leave
leave_tells (Some Leave) e = refl
leave_tells o e = absurd cc

after_tells : (clock : ℕ) (events : List Event) → none_after clock events ≡ true → (k : ℕ) → clock < k → event_in events k ≡ None
after_tells clock [] e k h = refl
after_tells clock (first ∷ later) e k h =
    let both = and_parts (leb first.clock clock) (none_after clock later) e in
    let low = leb-true first.clock clock both.0 in
    let other : eqb first.clock k ≡ false = grind (arith, nat_tests) in
    rw other (after_tells clock later both.1 k h)

until_tells : (clock : ℕ) (events : List Event) → none_until clock events ≡ true → (k : ℕ) → k ≤ clock → event_in events k ≡ None
until_tells clock [] e k h = refl
until_tells clock (first ∷ later) e k h =
    let both = and_parts (ltb clock first.clock) (none_until clock later) e in
    let high = leb-true (suc clock) first.clock both.0 in
    let other : eqb first.clock k ≡ false = grind (arith, nat_tests) in
    rw other (until_tells clock later both.1 k h)

-- no event is found at the clock of one
found_here : (first : Event) (later : List Event) → event_in (first ∷ later) first.clock ≡ None → ⊥
found_here first later e =
    let same : eqb first.clock first.clock ≡ true = grind (arith, nat_tests) in
    let here : Some first.kind ≡ None = rw same at e in
    cc here

found_later : (first : Event) (later : List Event) (k : ℕ) → event_in (first ∷ later) k ≡ None → event_in later k ≡ None
found_later first later k e =
    elim (eqb_tells first.clock k) [
      | inl t ↦ absurd (let here : Some first.kind ≡ None = rw t.0 at e in cc here)
      | inr t ↦ rw t.0 at e
    ]

after_told : (clock limit : ℕ) (events : List Event) → All (λ e. e.clock < limit) events
    → ((k : ℕ) → clock < k → k < limit → event_in events k ≡ None) → none_after clock events ≡ true
after_told clock limit [] fits h = refl
after_told clock limit (first ∷ later) fits h =
    let rest = after_told clock limit later (All-tail (λ e. e.clock < limit) first later fits)
    (λ k low high. found_later first later k (h k low high)) in
    elim (leb_tells first.clock clock) [
      | inl t ↦ rw (t.0, rest) refl
      | inr t ↦ absurd (found_here first later (h first.clock (omega (arith, t.1)) (fits zero first (omega arith))))
    ]

until_told : (clock : ℕ) (events : List Event) → ((k : ℕ) → k ≤ clock → event_in events k ≡ None) → none_until clock events ≡ true
until_told clock [] h = refl
until_told clock (first ∷ later) h =
    let rest = until_told clock later (λ k low. found_later first later k (h k low)) in
    elim (leb_tells (suc clock) first.clock) [
      | inl t ↦ rw (t.0, rest) refl
      | inr t ↦ absurd (found_here first later (h first.clock (omega (arith, t.1))))
    ]

-- Lines

after_in_tells : (clock : ℕ) (o : Option (List Event)) → none_after_in clock o ≡ true → (k : ℕ) → clock < k → event_in_kind o k ≡ None
after_in_tells clock None e k h = refl
after_in_tells clock (Some events) e k h = after_tells clock events e k h

until_in_tells : (clock : ℕ) (o : Option (List Event)) → none_until_in clock o ≡ true → (k : ℕ) → k ≤ clock → event_in_kind o k ≡ None
until_in_tells clock None e k h = refl
until_in_tells clock (Some events) e k h = until_tells clock events e k h

after_in_told : (clock limit : ℕ) (o : Option (List Event)) → ((events : List Event) → o ≡ Some events → All (λ e. e.clock < limit) events)
    → ((k : ℕ) → clock < k → k < limit → event_in_kind o k ≡ None) → none_after_in clock o ≡ true
after_in_told clock limit None fits h = refl
after_in_told clock limit (Some events) fits h = after_told clock limit events (fits events refl) h

until_in_told : (clock : ℕ) (o : Option (List Event)) → ((k : ℕ) → k ≤ clock → event_in_kind o k ≡ None) → none_until_in clock o ≡ true
until_in_told clock None h = refl
until_in_told clock (Some events) h = until_told clock events h

-- A rest

quiet_tells : (cert : Cert) (rest : Rest) → ScheduleFits cert.schedule → rest.line < length cert.schedule.lines → is_quiet_rest cert
    rest ≡ true
    → (rest.clock < length_of cert.schedule rest.line)
    × (event_at cert.schedule (start_of cert.schedule rest.line + rest.clock) ≡ Some Leave)
    × ((k : ℕ) → rest.clock < k → k < length_of cert.schedule rest.line → event_at cert.schedule (start_of cert.schedule rest.line + k)
    ≡ None)
    × ((k : ℕ) → k ≤ response_clocks cert.head.irq + 3 → event_at cert.schedule
    (start_of cert.schedule (next_line cert.schedule rest.line) + k) ≡ None)
quiet_tells cert rest fits line e =
    let s = cert.schedule in
    let leave = and_parts (leaves_at s rest.line rest.clock) _ e in
    let stands = and_parts (ltb rest.clock (length_of s rest.line)) _ leave.0 in
    let both = and_parts (none_after_in rest.clock (events_of s rest.line)) _ leave.1 in
    let few = response_few cert.head.irq in
    let room = (length_within s fits (next_line s rest.line)).0 in (
      leb-true (suc rest.clock) (length_of s rest.line) stands.0,
      leave_tells _ stands.1,
      λ k low high. event_of_place s rest.line k line high ∙ after_in_tells rest.clock (events_of s rest.line) both.0 k low,
      λ k low. event_of_place s (next_line s rest.line) k (next_inside s rest.line line) (omega (arith, low, few, room)) ∙ until_in_tells
          (response_clocks cert.head.irq + 3) (events_of s (next_line s rest.line)) both.1 k low,
    )

quiet_told : (cert : Cert) (rest : Rest) → ScheduleFits cert.schedule → rest.line < length cert.schedule.lines → RestPasses cert rest
    → is_quiet_rest cert rest ≡ true
quiet_told cert rest fits line h =
    let s = cert.schedule in
    let few = response_few cert.head.irq in
    let room = (length_within s fits (next_line s rest.line)).0 in
    let here : ltb rest.clock (length_of s rest.line) ≡ true = le-leb (suc rest.clock) (length_of s rest.line) h.within in
    let leave : is_leave (event_at s (start_of s rest.line + rest.clock)) ≡ true = ap is_leave h.leave in
    let after = after_in_told rest.clock (length_of s rest.line) (events_of s rest.line)
    (λ events is. clocks_within s fits rest.line events line is)
    (λ k low high. sym (event_of_place s rest.line k line high) ∙ h.quiet k low high) in
    let until = until_in_told (response_clocks cert.head.irq + 3) (events_of s (next_line s rest.line))
    (λ k low. sym (event_of_place s (next_line s rest.line) k (next_inside s rest.line line) (omega (arith, low, few, room)))
    ∙ h.quiet_next k
    low) in
    rw (here, leave, after, until) refl

enters_tells : (cert : Cert) (rest : Rest) → enters_always cert rest ≡ true → (c : ℕ) → c ≤ 3 → enters_at cert rest c ≡ true
enters_tells cert rest e zero few = (and_parts (enters_at cert rest 0) _ e).0
enters_tells cert rest e (suc zero) few =
    let rest1 = (and_parts (enters_at cert rest 0) _ e).1 in
    (and_parts (enters_at cert rest 1) _ rest1).0
enters_tells cert rest e (suc (suc zero)) few =
    let rest1 = (and_parts (enters_at cert rest 0) _ e).1 in
    let rest2 = (and_parts (enters_at cert rest 1) _ rest1).1 in
    (and_parts (enters_at cert rest 2) (enters_at cert rest 3) rest2).0
enters_tells cert rest e (suc (suc (suc zero))) few =
    let rest1 = (and_parts (enters_at cert rest 0) _ e).1 in
    let rest2 = (and_parts (enters_at cert rest 1) _ rest1).1 in
    (and_parts (enters_at cert rest 2) (enters_at cert rest 3) rest2).1
enters_tells cert rest e (suc (suc (suc (suc n)))) few = absurd (omega (arith, few))

pub rest_tells : (cert : Cert) (rest : Rest) → ScheduleFits cert.schedule → rest.line < length cert.schedule.lines → rest_test cert
    rest ≡ true → RestPasses cert rest
unfolding rest_test
rest_tells cert rest fits line e =
    let both = and_parts (is_quiet_rest cert rest) (enters_always cert rest) e in
    let quiet = quiet_tells cert rest fits line both.0 in
    record { within = quiet.0; leave = quiet.1; quiet = quiet.2; quiet_next = quiet.3; vector = enters_tells cert rest both.1 }

pub rest_told : (cert : Cert) (rest : Rest) → ScheduleFits cert.schedule → rest.line < length cert.schedule.lines → RestPasses cert rest
    → rest_test cert rest ≡ true
unfolding rest_test
rest_told cert rest fits line h = rw (
  quiet_told cert rest fits line h,
  h.vector 0 (omega arith),
  h.vector 1 (omega arith),
  h.vector 2 (omega arith),
  h.vector 3 (omega arith),
) refl

-- The entry

some_rest : (rests : List Rest) → ltb 0 (length rests) ≡ true → (rest : Rest) × Contains rests rest
some_rest [] e = absurd cc
some_rest (rest ∷ rests) e = (rest, (zero, omega arith, refl))

rest_some : (rests : List Rest) (rest : Rest) → Contains rests rest → ltb 0 (length rests) ≡ true
rest_some rests rest has = le-leb 1 (length rests) (omega (arith, has.1))

rest_needed : (kind : Kind) (some : Bool) → (needs_no_rest kind || some) ≡ true → kind ≡ Main → some ≡ true
rest_needed Main some e main = e
rest_needed Handler some e main = absurd cc
rest_needed Alone some e main = absurd cc

rest_given : (kind : Kind) (some : Bool) → (kind ≡ Main → some ≡ true) → (needs_no_rest kind || some) ≡ true
rest_given Main some h = h refl
rest_given Handler some h = refl
rest_given Alone some h = refl

pub entry_tells : (cert : Cert) → entry_test cert ≡ true → EntryPasses cert
unfolding entry_test
entry_tells cert e =
    let both = and_parts (needs_no_rest cert.entry.kind || ltb 0 (length cert.rests)) _ e in
    record { rest = λ main. some_rest cert.rests (rest_needed cert.entry.kind (ltb 0 (length cert.rests)) both.0 main); lies = both.1 }

pub entry_told : (cert : Cert) → EntryPasses cert → entry_test cert ≡ true
unfolding entry_test
entry_told cert h =
    let given = rest_given cert.entry.kind (ltb 0 (length cert.rests)) (λ main. let rest = h.rest main in
    rest_some cert.rests rest.0 rest.1) in
    rw (given, h.lies) refl

-- Lines that fall once are steady.
use Rattle.uz_search.proofs.Common.{◌≡◌, ◌≢◌, ℕ, ◌<◌, ◌≤◌, ◌+◌, List, [], ◌∷◌, map, All, Some, Bool, true, false, nat_le, nat_eq, refl, sym}
use Rattle.uz_search.proofs.Common.{ap, ◌∙◌, subst, ⊎_elim, ◌==◌, if◌then◌else◌, arith, cases_eq, eq-eqb, and_parts, nat_tests, All-head}
use Rattle.uz_search.proofs.Common.{All-tail, length_of, start_of, event_at, EventKind, Sync, Schedule, Mark, Program, ProgramFits}
use Rattle.uz_search.proofs.Common.{lines_of, IsScheduleOf}
use Rattle.std.proofs.Common.{slice_index}
use Rattle.std.proofs.lemmas.List.Elements.{All-cons, All-nil}
use Rattle.uz_schedule.specs.Schedule.{event_in, event_in_kind, events_of}
use Rattle.uz_schedule.specs.Limits.{EventsFit, ScheduleFits, rises_from}
use Rattle.uz_schedule.proofs.Starts.{clocks_within, event_of_place}
use Rattle.uz_schedule.specs.declared.lines.Event.{Event}
use Rattle.uz_rules.proofs.LimitsHold.{element_holds}
use Rattle.uz_check.specs.Steady.{IsSteady, IsSteadyLine}
use Rattle.uz_search.specs.Complete.{FallsOnce}

-- of rising clocks none comes before the first
in_rise : (events : List Event) (least k : ℕ) (e : EventKind) → rises_from least (map (λ e. e.clock) events) ≡ true → event_in events
    k ≡ Some e → least ≤ k
in_rise [] least k e rise h = cc
in_rise (d ∷ ds) least k e rise h = by (d.clock == k) refl
    (λ later. in_rise ds (d.clock + 1) k e (and_parts (nat_le least d.clock) (rises_from (d.clock + 1) (map (λ e. e.clock) ds)) rise).1
    later) h
  where
    by : (b : Bool) → (d.clock == k) ≡ b → (event_in ds k ≡ Some e → d.clock + 1 ≤ k) → (if b then Some d.kind else event_in ds k) ≡ Some e
        → least ≤ k
    by true is more g =
        let low = (and_parts (nat_le least d.clock) (rises_from (d.clock + 1) (map (λ e. e.clock) ds)) rise).0 in
        grind (arith, nat_tests)
    by false is more g =
        let low = (and_parts (nat_le least d.clock) (rises_from (d.clock + 1) (map (λ e. e.clock) ds)) rise).0 in
        let first : least ≤ d.clock = grind (arith, nat_tests) in
        let after = more g in omega (arith, first, after)

-- an event stands at its clock, and before later ones
event_first : (d : Event) (ds : List Event) → event_in (d ∷ ds) d.clock ≡ Some d.kind
event_first d ds = ap (λ b. if b then Some d.kind else event_in ds d.clock) (eq-eqb d.clock d.clock refl)

event_later : (d : Event) (ds : List Event) (k : ℕ) → d.clock + 1 ≤ k → event_in (d ∷ ds) k ≡ event_in ds k
event_later d ds k after = ap (λ b. if b then Some d.kind else event_in ds k) (differ d.clock k after)
  where
    differ : (a b : ℕ) → a + 1 ≤ b → nat_eq a b ≡ false
    differ a b h = grind (arith, nat_tests)

kind_is : (a b : EventKind) → Some a ≡ Some b → a ≡ b
kind_is a b h = cc

-- no later event of a line is its fall
none_later : (long fall least : ℕ) (es : List Event) → All (λ e. e.clock < long) es → rises_from least (map (λ e. e.clock) es) ≡ true
    → fall < least
    → ((k : ℕ) → k < long → event_in es k ≡ Some (Sync 0) → k ≡ fall) → All (λ e. e.kind ≢ Sync 0) es
none_later long fall least [] fits rise low once = All-nil (λ e. e.kind ≢ Sync 0)
none_later long fall least (d ∷ ds) fits rise low once =
    let both = and_parts (nat_le least d.clock) (rises_from (d.clock + 1) (map (λ e. e.clock) ds)) rise in
    let first : least ≤ d.clock = below least d.clock both.0 in
    All-cons (λ e. e.kind ≢ Sync 0) d ds
    (λ falls. let same = once d.clock (All-head (λ e. e.clock < long) d ds fits) (event_first d ds ∙ ap Some falls) in
    omega (arith, same, first, low))
    (none_later long fall (d.clock + 1) ds (All-tail (λ e. e.clock < long) d ds fits) both.1 (omega (arith, first, low))
    (λ k in_line at. once k in_line (event_later d ds k (in_rise ds (d.clock + 1) k (Sync 0) both.1 at) ∙ at)))
  where
    below : (a b : ℕ) → nat_le a b ≡ true → a ≤ b
    below a b h = grind (arith, nat_tests)

steady_line : (long fall : ℕ) (events : List Event) → All (λ e. e.clock < long) events → rises_from 0 (map (λ e. e.clock) events) ≡ true
    → event_in events fall ≡ Some (Sync 0)
    → ((k : ℕ) (e : EventKind) → k < long → event_in events k ≡ Some e → fall ≤ k) → ((k : ℕ) → k < long → event_in events k ≡ Some (Sync 0)
    → k ≡ fall) → IsSteadyLine fall events
steady_line long fall [] fits rise falls above once = cc
steady_line long fall (e ∷ es) fits rise falls above once = record {
  first = e;
  later = es;
  is = refl;
  clock = clock;
  kind = kind_is e.kind (Sync 0) (sym (event_first e es) ∙ ap (event_in (e ∷ es)) clock ∙ falls);
  once = none_later long fall (e.clock + 1) es (All-tail (λ e. e.clock < long) e es fits) rises (omega (arith, clock))
      (λ k in_line at. once k in_line (event_later e es k (in_rise es (e.clock + 1) k (Sync 0) rises at) ∙ at));
}
  where
    rises : rises_from (e.clock + 1) (map (λ e. e.clock) es) ≡ true
    rises = (and_parts (nat_le 0 e.clock) (rises_from (e.clock + 1) (map (λ e. e.clock) es)) rise).1

    le : fall ≤ e.clock
    le = above e.clock e.kind (All-head (λ e. e.clock < long) e es fits) (event_first e es)

    clock : e.clock ≡ fall
    clock = ⊎_elim
        (λ (same : e.clock ≡ fall). same)
        (λ (other : e.clock ≢ fall).
        let later : event_in es fall ≡ Some (Sync 0) =
        sym (ap (λ b. if b then Some e.kind else event_in es fall) (differ e.clock fall other)) ∙ falls in
        let after = in_rise es (e.clock + 1) fall (Sync 0) rises later in
        omega (arith, after, le))
        (cases_eq e.clock fall)
      where
        differ : (a b : ℕ) → a ≢ b → nat_eq a b ≡ false
        differ a b h = grind (arith, nat_tests)

pub steady : (p : Program) (marks : List Mark) (s : Schedule) → ScheduleFits s → IsScheduleOf p marks s → ProgramFits p
    → FallsOnce p s → IsSteady s
steady p marks s fits of program falls l events below at =
    let low : l < lines_of p = subst (λ n. l < n) of.lines below in
    let long : ℕ = length_of s l in
    let in_line : p.schedule.fall < long = subst (λ n. p.schedule.fall < n) (sym (of.lengths l)) (program.fall_in_line l) in
    let on : (k : ℕ) → k < long → event_at s (start_of s l + k) ≡ event_in events k = λ k inside. event_of_place s l k below inside
    ∙ ap (λ o. event_in_kind o k) at in
    let kind : EventsFit events = kind_fits events at in
    subst (λ n. IsSteadyLine n events) (sym of.fall)
    (steady_line long p.schedule.fall events (clocks_within s fits l events below at) kind.rise
    (sym (on p.schedule.fall in_line) ∙ falls.first l low)
    (λ k e inside shown. falls.above l k e low inside (on k inside ∙ shown))
    (λ k inside shown. falls.once l k low inside (on k inside ∙ shown)))
  where
    kind_fits : (events : List Event) → events_of s l ≡ Some events → EventsFit events
    kind_fits events at = element_holds EventsFit s.kinds (slice_index s.lines l) events at fits.kinds.each

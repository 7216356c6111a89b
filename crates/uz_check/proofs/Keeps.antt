-- What a played run keeps.
use Rattle.uz_check.proofs.Common.{◌≡◌, inl, inr, All, ℕ, zero, suc, ◌+◌, ◌-◌, ◌<◌, ◌≤◌, Bool, true, false, not, cond, List, [], ◌∷◌, ◌++◌}
use Rattle.uz_check.proofs.Common.{refl, sym, ◌∙◌, ap, subst, arith, ◌&&◌, Option, Some, nat_le, nat_lt, nat_cmp, FinMap, leb_tells}
use Rattle.uz_check.proofs.Common.{reverse-append, All-filter, filter-append, Cert, ScheduleFits, EventKind, Sync, Schedule, event_at}
use Rattle.uz_check.proofs.Common.{length_of, Edge, EdgeKind, PadHistory, State, sync_level, Run, TurnBefore, edges_until, IsState}
use Rattle.uz_check.proofs.Common.{AreTimed, event_of, shown, is_high, newest_first, InTime, scheduled, Plays, PlaysTo, IsSteady}
use Rattle.uz_check.proofs.Common.{edges_after}
use Rattle.uz_core.specs.Run.{IsClockRun, IsStoppedRun}
use Rattle.uz_core.proofs.StateKept.{run_part_kept}
use Rattle.uz_console.specs.Approaches.{EntersFirst}
use Rattle.uz_check.specs.Keeping.{HasLine, IsScheduledLine, KeepsSchedule}
use Rattle.uz_check.proofs.Changes.{Changes, changes_rest, run_changes}
use Rattle.uz_check.proofs.EventLists.{Among, StandsAt, among_both, among_left, among_right, edge_shown, event_edge, none_after}
use Rattle.uz_check.proofs.EventLists.{scheduled_has, scheduled_stands, stretch_is_after}
use Rattle.uz_check.proofs.Falls.{began, ending_falls, fall_is, no_zero, rose_since}
use Rattle.uz_check.proofs.LinesKept.{PlaceLaws, falls_at, next_falls, none_between, line_some}
use Rattle.uz_check.proofs.Order.{among_newest, among_oldest, line_order}
use Rattle.uz_check.proofs.RunParts.{in_time_first, passes, run_timed, within_until}
use Rattle.uz_core.specs.declared.machine.EdgeKind.TheVariants as edge

-- an edge after a clock is one of those after it
after_among : (clock : ℕ) (e : Edge) (edges : List Edge) → Among e edges → clock < e.clock → Among e (edges_after clock edges)
after_among clock e [] none later = absurd none
after_among clock e (x ∷ edges) (inl is) later =
    let same : x.clock ≡ e.clock = ap (λ (y : Edge). y.clock) is in
    elim (leb_tells (suc clock) x.clock) [
      | inl t ↦ subst (λ b. Among e (cond b (x ∷ edges_after clock edges) (edges_after clock edges))) (sym t.0) (inl is)
      | inr t ↦ absurd (let past = t.1 in omega arith)
    ]
after_among clock e (x ∷ edges) (inr more) later = chosen (nat_lt clock x.clock) (after_among clock e edges more later)
  where
    chosen : (b : Bool) → Among e (edges_after clock edges) → Among e (cond b (x ∷ edges_after clock edges) (edges_after clock edges))
    chosen true h = inr h
    chosen false h = h

kept_among : (e x : Edge) (edges later : List Edge) (b : Bool) → Among e (cond b (x ∷ later) later) → (Among e later → Among e edges)
    → Among e (x ∷ edges)
kept_among e x edges later true (inl is) more = inl is
kept_among e x edges later true (inr h) more = inr (more h)
kept_among e x edges later false h more = inr (more h)

among_after : (clock : ℕ) (e : Edge) (edges : List Edge) → Among e (edges_after clock edges) → Among e edges
among_after clock e [] none = absurd none
among_after clock e (x ∷ edges) h = kept_among e x edges (edges_after clock edges) (nat_lt clock x.clock) h (among_after clock e edges)

zero_edge : (kind : EdgeKind) → event_of kind ≡ Some (Sync 0) → kind ≡ edge.Sync 0
zero_edge (edge.Sync value) is = (let same : value ≡ 0 = cc is in ap edge.Sync same)
zero_edge kind is = absurd (cc is)

module _ (s : Schedule) (laws : PlaceLaws s) (fits : ScheduleFits s) (steady : IsSteady s) (clock p n first last : ℕ) (edges : List Edge)
    (timed : AreTimed first last edges) (changes : Changes (newest_first edges)) (exact : shown (edges_after clock edges) ≡ scheduled
    (event_at s) p clock n) where
  -- an edge of the run after that clock is an event of the schedule
  edge_stands : (e : Edge) (kind : EventKind) → Among e edges → clock < e.clock → event_of e.kind ≡ Some kind → StandsAt (event_at s) p
      clock n (record { clock = e.clock; kind = kind })
  edge_stands e kind among later is =
      scheduled_stands (event_at s) p clock n _ (subst (Among (record { clock = e.clock; kind = kind })) exact
      (edge_shown (edges_after clock edges) e kind (after_among clock e edges among later) is))

  -- and an event of the schedule is an edge of it
  record IsEdgeAt (at : ℕ) : Type 0 where
    edge_there : Edge
    among : Among edge_there edges
    clock_is : edge_there.clock ≡ at
    falls : edge_there.kind ≡ edge.Sync 0

  event_is_edge : (i : ℕ) → 1 ≤ i → i ≤ n → event_at s (p + i) ≡ Some (Sync 0) → IsEdgeAt (clock + i)
  event_is_edge i some few is =
      let there = event_edge (edges_after clock edges) (record { clock = clock + i; kind = Sync 0 })
      (subst (Among (record { clock = clock + i; kind = Sync 0 })) (sym exact) (scheduled_has (event_at s) p clock n i (Sync 0) some few
      is)) in
      record {
        edge_there = there.edge;
        among = among_after clock there.edge edges there.among;
        clock_is = there.clock;
        falls = zero_edge (there.edge).kind there.kind;
      }

  zero_event : (e : Edge) → e.kind ≡ edge.Sync 0 → event_of e.kind ≡ Some (Sync 0)
  zero_event e is = ap event_of is

  same_value : (v w : ℕ) (a b : Option EventKind) → a ≡ b → a ≡ Some (Sync v) → b ≡ Some (Sync w) → v ≡ w
  same_value v w a b e f g = cc

  pub line_kept : (from to : ℕ) → HasLine edges from to → clock < from → IsScheduledLine s clock p from to
  line_kept from to line later =
      let start = began (newest_first line.before) from line.begins in
      let order = line_order first last line.before start.since start.earlier line.later start.fall line.ending
      (subst (AreTimed first last) line.cut timed) start.cut in
      let fall_kind = fall_is start.fall start.earlier start.falls in
      let end_kind = fall_is line.ending (newest_first line.before) (ending_falls line.ending (newest_first line.before) line.ends) in
      let fall_among : Among start.fall edges = subst (Among start.fall) (sym line.cut)
      (among_left start.fall line.before (line.ending ∷ line.later)
      (among_newest start.fall line.before
      (subst (Among start.fall) (sym start.cut) (among_right start.fall start.since (start.fall ∷ start.earlier) (inl refl))))) in
      let end_among : Among line.ending edges = subst (Among line.ending) (sym line.cut)
      (among_right line.ending line.before (line.ending ∷ line.later) (inl refl)) in
      let at_from = start.clock in
      let at_to = line.ends_at in
      let not_back = order.before_end in
      let begins = edge_stands start.fall (Sync 0) fall_among (omega arith) (zero_event start.fall fall_kind.1) in
      let ends = edge_stands line.ending (Sync 0) end_among (omega arith) (zero_event line.ending end_kind.1) in
      let begins_at = begins.clock_is in
      let ends_at = ends.clock_is in
      let begin_step : begins.steps ≡ from - clock = omega arith in
      let place = falls_at s laws fits steady (p + (from - clock)) (ap (λ i. event_at s (p + i)) (sym begin_step) ∙ begins.event) in
      let changed : Changes (start.since ++ start.fall ∷ start.earlier) = subst Changes start.cut
      (changes_rest (newest_first (line.ending ∷ line.later)) (newest_first line.before)
      (subst Changes (ap newest_first line.cut ∙ reverse-append line.before (line.ending ∷ line.later)) changes)) in
      let low : is_high (start.fall ∷ start.earlier) ≡ false = low_after (is_high start.earlier) (is_high (start.fall ∷ start.earlier))
      start.falls in
      let rise = rose_since start.since (start.fall ∷ start.earlier) low (ap is_high (sym start.cut) ∙ end_kind.0) in
      let rise_among : Among rise.edge edges = subst (Among rise.edge) (sym line.cut)
      (among_left rise.edge line.before (line.ending ∷ line.later)
      (among_newest rise.edge line.before
      (subst (Among rise.edge) (sym start.cut) (among_left rise.edge start.since (start.fall ∷ start.earlier) rise.among)))) in
      let rise_after = order.since_fall rise.edge rise.among in
      let rise_before = order.until_end rise.edge rise.among in
      let rises = edge_stands rise.edge (Sync rise.value) rise_among (omega arith) (ap event_of rise.kind) in
      let rises_at = rises.clock_is in
      -- the line doesn't end where it begins
      let apart : from ≡ to → ⊥ = λ same.
      (let step : begins.steps ≡ rises.steps = omega arith in
      rise.high (same_value rise.value 0 (event_at s (p + rises.steps)) (event_at s (p + begins.steps))
      (ap (λ i. event_at s (p + i)) (sym step)) rises.event begins.event)) in
      -- nor before the next fall
      let not_before : to < from + length_of s place.line → ⊥ = λ short.
      (let some : from < to = ahead from to (omega arith) apart in
      let there : p + (from - clock) + (to - from) ≡ p + ends.steps = omega arith in
      none_between s laws fits steady (p + (from - clock)) place.line (to - from) place.below place.place (omega arith) (omega arith)
      (ap (event_at s) there ∙ ends.event)) in
      -- nor after it
      let not_after : from + length_of s place.line < to → ⊥ = λ long.
      (let few = ends.few in
      let next : event_at s (p + (from - clock + length_of s place.line)) ≡ Some (Sync 0) = ap (event_at s) (omega arith)
      ∙ next_falls s laws fits steady (p + (from - clock)) place.line place.below place.place in
      let there = event_is_edge (from - clock + length_of s place.line) (omega arith) (omega arith) next in
      let when = there.clock_is in
      elim (among_both there.edge_there line.before (line.ending ∷ line.later) (subst (Among there.edge_there) line.cut there.among)) [
        | inl in_before ↦
            elim (among_both there.edge_there start.since (start.fall ∷ start.earlier)
            (subst (Among there.edge_there) start.cut (among_oldest there.edge_there line.before in_before))) [
              | inl in_since ↦ no_zero start.since (start.fall ∷ start.earlier) there.edge_there changed start.none in_since there.falls
              | inr in_earlier ↦ (let early = order.earlier_ones there.edge_there in_earlier in
                  let long : 0 < length_of s place.line = line_some s laws fits steady place.line place.below in absurd (omega arith))
            ]
        | inr in_later ↦ (let late = order.later_ones there.edge_there in_later in absurd (omega arith))
      ]) in
      record {
        line = place.line;
        below = place.below;
        place = place.place;
        as_long = equal to (from + length_of s place.line) not_before not_after;
      }
    where
      low_after : (a b : Bool) → (a && not b) ≡ true → b ≡ false
      low_after true true h = sym h
      low_after true false h = refl
      low_after false true h = absurd (cc h)
      low_after false false h = refl

      ahead : (a b : ℕ) → a ≤ b → (a ≡ b → ⊥) → a < b
      ahead a b most apart =
          elim (leb_tells (suc a) b) [
            | inl t ↦ t.1
            | inr t ↦ absurd (let past = t.1 in apart (omega arith))
          ]

      equal : (a b : ℕ) → (a < b → ⊥) → (b < a → ⊥) → a ≡ b
      equal a b below above =
          elim (leb_tells (suc a) b) [
            | inl t ↦ absurd (below t.1)
            | inr t ↦ elim (leb_tells (suc b) a) [
              | inl u ↦ absurd (above u.1)
              | inr u ↦ (let x = t.1 in let y = u.1 in omega arith)
            ]
          ]

-- A whole run

pub image_kept : (limit n : ℕ) (s last : State PadHistory) (edges : List Edge) → Run (TurnBefore limit) n s edges last
    → last.image ≡ s.image
image_kept limit zero s last edges run = ap (λ (x : State PadHistory). x.image) run.1
image_kept limit (suc n) s last edges (first, mid, rest, (before, inl enter), run, cut) =
    image_kept limit n mid last rest run ∙ ap (λ (x : State PadHistory). x.image) enter.goes_to
image_kept limit (suc n) s last edges (first, mid, rest, (before, inr step), run, cut) =
    image_kept limit n mid last rest run ∙ ap (λ (x : State PadHistory). x.image) step.goes_to

-- the state that enters is in range
entered_in_range : (cert : Cert) (limit : ℕ) (start : State PadHistory) (clock p : ℕ) → IsState start
    → (enters : EntersFirst cert limit start clock p) → IsState (enters.state)
entered_in_range cert limit start clock p in_range enters =
    run_part_kept limit start enters.state (edges_until limit enters.edges)
    (record { turns = enters.turns; all_edges = enters.edges; run = enters.run; in_time = refl }) in_range

-- the rest of the run keeps to the schedule
plays_on : (image : FinMap nat_cmp ℕ) (cert : Cert) (start : State PadHistory) (limit clock p : ℕ) → Plays image cert → IsState start
    → start.image ≡ image → (enters : EntersFirst cert limit start clock p) → PlaysTo cert enters.state p limit
plays_on image cert start limit clock p plays in_range flash enters =
    let inside = enters.in_run in
    plays enters.state p limit (entered_in_range cert limit start clock p in_range enters) (image_kept limit enters.turns start enters.state
    enters.edges enters.run ∙ flash) (enters.meets).meets (omega arith)

pub never_stops : (image : FinMap nat_cmp ℕ) (cert : Cert) (start : State PadHistory) (limit clock p : ℕ) → Plays image cert → IsState start
    → start.image ≡ image → EntersFirst cert limit start clock p →
    (edges : List Edge) (last : State PadHistory) → IsStoppedRun limit start edges last → ⊥
never_stops image cert start limit clock p plays in_range flash enters edges last run =
    let part = run.part in
    let after = passes limit enters.turns part.turns start enters.state last enters.edges part.all_edges enters.run part.run
    (inr run.stopped) in
    (plays_on image cert start limit clock p plays in_range flash enters).never_stops (edges_until limit after.rest) last
    (record {
      part = record { turns = after.turns; all_edges = after.rest; run = after.run; in_time = refl };
      in_run = run.in_run;
      stopped = run.stopped;
    })

pub keeps : (image : FinMap nat_cmp ℕ) (cert : Cert) (start : State PadHistory) (limit clock p : ℕ) → Plays image cert
    → PlaceLaws cert.schedule → IsSteady cert.schedule → ScheduleFits cert.schedule → IsState start → start.image ≡ image
    → sync_level start.space ≡ 0 → EntersFirst cert limit start clock p →
    (edges : List Edge) (last : State PadHistory) → IsClockRun limit start edges last → KeepsSchedule cert limit clock p edges
keeps image cert start limit clock p plays laws steady fits in_range flash low enters edges last run =
    let part = run.part in
    let all = part.all_edges in
    let after = passes limit enters.turns part.turns start enters.state last enters.edges all enters.run part.run (inl run.over) in
    let on = plays_on image cert start limit clock p plays in_range flash enters in
    let rest : IsClockRun limit enters.state (edges_until limit after.rest) last =
    record { part = record { turns = after.turns; all_edges = after.rest; run = after.run; in_time = refl }; over = run.over } in
    let first_timed = run_timed limit enters.turns start enters.state enters.edges enters.run in
    let all_timed = run_timed limit part.turns start last all part.run in
    let at = enters.clock_is in
    -- the edges in time are those before the state that enters, and those after it
    let parts : edges ≡ edges_until limit enters.edges ++ edges_until limit after.rest = part.in_time
    ∙ (ap (edges_until limit) after.cut ∙ filter-append (λ e. nat_le e.clock limit) enters.edges after.rest) in
    let none : edges_after clock (edges_until limit enters.edges) ≡ [] = none_after limit clock start.clock enters.state.clock enters.edges
    first_timed (omega arith) in
    let later : edges_after clock edges ≡ edges_after clock (edges_until limit after.rest) =
    ap (edges_after clock) parts ∙ (filter-append (λ e. nat_lt clock e.clock) (edges_until limit enters.edges)
    (edges_until limit after.rest) ∙ ap (λ x. x ++ edges_after clock (edges_until limit after.rest)) none) in
    let stretch : shown (edges_until limit after.rest) ≡ scheduled (event_at cert.schedule) p clock (limit - clock) =
    on.exact (edges_until limit after.rest) last rest ∙ ap (λ c. scheduled (event_at cert.schedule) p c (limit - c)) at in
    let events : shown (edges_after clock edges) ≡ scheduled (event_at cert.schedule) p clock (limit - clock) =
    ap shown later ∙ stretch_is_after (event_at cert.schedule) p clock (limit - clock) (edges_until limit after.rest) stretch in
    let timed : AreTimed start.clock last.clock edges = subst (AreTimed start.clock last.clock) (sym part.in_time)
    (within_until limit start.clock last.clock all all_timed) in
    let past = in_time_first limit start.clock last.clock all all_timed in
    let changes : Changes (newest_first edges) =
    subst (λ es. Changes (newest_first es)) (sym part.in_time)
    (changes_rest (newest_first past.0) (newest_first (edges_until limit all))
    (subst Changes (ap newest_first past.1 ∙ reverse-append (edges_until limit all) past.0)
    (run_changes limit part.turns start last all part.run low))) in
    record {
      events = events;
      entries = subst (All (λ e. InTime e.kind)) (sym later) (All-filter (λ e. nat_lt clock e.clock) (λ e. InTime e.kind)
          (edges_until limit after.rest) (on.entries (edges_until limit after.rest) last rest));
      lines = line_kept cert.schedule laws fits steady clock p (limit - clock) start.clock last.clock edges timed changes events;
    }

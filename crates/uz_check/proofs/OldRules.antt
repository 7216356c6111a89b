-- The local rule in a frame of scanlines.
use Rattle.uz_check.proofs.Common.{and_parts, and_from, or_cases, or_left, or_right, not-false, eqb-true, ◌≡◌, ◌≢◌, ◌⊎◌, inl, inr, All}
use Rattle.uz_check.proofs.Common.{Contains, ℕ, zero, suc, ◌+◌, ◌-◌, ◌≤◌, Bool, true, false, cond, List, [], ◌∷◌, length, refl, sym, ◌∙◌}
use Rattle.uz_check.proofs.Common.{ap, subst, arith, pos, ◌+ℤ◌, ◌*ℤ◌, ◌&&◌, not, nat_eq, is_none, Option, Some, None, Result, Ok, Err}
use Rattle.uz_check.proofs.Common.{option_and_then, slice_get, nat_cmp, FinMap, or-false, eqb_tells, eq-eqb, get_or_from_slice_get}
use Rattle.uz_check.proofs.Common.{slice_get_within, All-get_or, Instr, whole_byte, is_in_box, clock_below, instance_of, instance_at}
use Rattle.uz_check.proofs.Common.{ScheduleFits, order_of, uniform, scanline, event_at, PointFits, WellFormed, Cert, Kind, Main, Handler}
use Rattle.uz_check.proofs.Common.{Alone, EventKind, Sync, Schedule, Instance, Point, Rest, Fail, Exit, Step, each_exit, is_main, refuse_if}
use Rattle.uz_check.proofs.Common.{narrowed, IsReadAt, step_of_row, successor, position_of, is_kind, is_event, is_quiet, emits_as_scheduled}
use Rattle.uz_check.proofs.Common.{edges_fit, cells_inside, restored, first_exit, is_no_opcode, rest_in, return_fail, row_emits_in_main}
use Rattle.uz_check.proofs.Common.{end_of, has_successors, compares_edges, passes, result_fail, step_fail, local_fail, IsLocal, lies_in_any}
use Rattle.uz_check.proofs.Common.{lies_in_point, LiesInPoint, Accepts, AreScanlines, position, event_by_position, level_by_position}
use Rattle.uz_check.proofs.Common.{LiesByPosition, instance_by_level, instance_by_point, instance_by_position}
use Rattle.uz_check.proofs.Fitting.{opened}
use Rattle.uz_check.proofs.LocalTells.{unrefused, event_tells, none_tells, exit_tells}
use Rattle.uz_schedule.proofs.Starts.{order_is}
use Rattle.uz_schedule.specs.WellFormed.{IsTimerLeftOut, RulesFit}
use Rattle.uz_schedule.specs.declared.kinds.RuleVersion.{RuleVersion}
use Rattle.uz_schedule.specs.declared.kinds.RuleVersion.TheVariants.{Two, Three}
use Rattle.uz_rules.proofs.AskedLaws.{row_unasked}
use Rattle.uz_check.specs.OldRules.{IsOld, EmitsByPosition, ReturnsAtRest, LiesInOne, LeadsByPosition, PassesByPosition, AcceptsOld}
use Rattle.uz_check.specs.OldRules.{result_by_scanlines}
use Rattle.uz_check.proofs.FrameRules.{event_past, lies_is, rest_is, entry_is}
use Rattle.uz_check.proofs.Positions.{instance_is}
use Rattle.uz_transfer.specs.declared.fail.Fail.TheVariants as fail
use Rattle.uz_transfer.specs.declared.step.Test.TheVariants as asks

-- Tests

-- a test that holds refuses nothing
passed : (b : Bool) (why : Fail) (later : Option Fail) → b ≡ true → None ≡ later → None ≡ refuse_if (not b) why later
passed true why later e h = h
passed false why later e h = absurd cc

free : (b : Bool) (why : Fail) (later : Option Fail) → b ≡ false → None ≡ later → None ≡ refuse_if b why later
free true why later e h = absurd cc
free false why later e h = h

-- Events

same_kind_true : (e : EventKind) → is_kind e e ≡ true
same_kind_true (Sync v) = eq-eqb v v refl
same_kind_true e = refl

same_event_true : (e : Option EventKind) → is_event e e ≡ true
same_event_true None = refl
same_event_true (Some e) = same_kind_true e

quiet_all : (event : ℕ → Option EventKind) (p n : ℕ) → ((k : ℕ) → 1 ≤ k → k ≤ n → event (p + k) ≡ None) → is_quiet event p n ≡ true
unfolding is_quiet
quiet_all event p zero none = refl
quiet_all event p (suc n) none = λ i. quiet_all event p n (λ k some few. none k some (omega (arith, few))) i
    && is_none (none (suc n) (omega arith) (omega arith) i)

quiet_tells : (event : ℕ → Option EventKind) (p n k : ℕ) → is_quiet event p n ≡ true → 1 ≤ k → k ≤ n → event (p + k) ≡ None
unfolding is_quiet
quiet_tells event p zero k e some few = absurd (omega (arith, some, few))
quiet_tells event p (suc n) k e some few =
    let both = and_parts (is_quiet event p n) _ e in
    elim (eqb_tells k (suc n)) [
      | inl t ↦ ap (λ m. event (p + m)) t.1 ∙ none_tells _ both.1
      | inr t ↦ quiet_tells event p n k both.0 some (omega (arith, few, t.1))
    ]

-- Exits

each_all : (test : Exit → Bool) (exits : List Exit) → ((exit : Exit) → Contains exits exit → test exit ≡ true) → each_exit test exits ≡ true
each_all test [] all = refl
each_all test (x ∷ exits) all = and_from (test x) (each_exit test exits) (all x (zero, omega arith, refl))
    (each_all test exits (λ exit has. all exit (suc has.0, omega (arith, has.1), has.2)))

pub each_true : (test : Exit → Bool) (exits : List Exit) → ((exit : Exit) → test exit ≡ true) → each_exit test exits ≡ true
each_true test exits all = each_all test exits (λ exit _. all exit)

-- at an instance of a frame of scanlines

module _ (cert : Cert) (fits : ScheduleFits cert.schedule) (h : AreScanlines cert.schedule) where
  there : (at : Instance) (k : ℕ) → event_at cert.schedule (position_of cert.schedule at + k) ≡ event_by_position cert.schedule
      (position at.line at.clock + k)
  there at k = event_past cert.schedule at.line at.clock k fits h

  emits_told : (at : Instance) (emitted : Option EventKind) (exit : Exit) → emits_as_scheduled cert.schedule
      (position_of cert.schedule at) emitted exit.clocks ≡ true → EmitsByPosition cert.schedule at emitted exit
  emits_told at emitted exit e =
      let s = cert.schedule in
      let both = and_parts (is_quiet (event_at s) (position_of s at) (exit.clocks - 1)) _ e in
      record {
        quiet = λ k some few. sym (there at k) ∙ quiet_tells (event_at s) (position_of s at) (exit.clocks - 1) k both.0 some
            (omega (arith, few));
        end = sym (there at exit.clocks) ∙ event_tells (event_at s (position_of s at + exit.clocks)) emitted both.1;
      }

  emits_back : (at : Instance) (emitted : Option EventKind) (exit : Exit) → EmitsByPosition cert.schedule at emitted exit
      → emits_as_scheduled cert.schedule (position_of cert.schedule at) emitted exit.clocks ≡ true
  emits_back at emitted exit told =
      let s = cert.schedule in
      let last : is_event (event_at s (position_of s at + exit.clocks)) emitted ≡ true =
      ap (λ o. is_event o emitted) (there at exit.clocks ∙ told.end) ∙ same_event_true emitted in
      and_from (is_quiet (event_at s) (position_of s at) (exit.clocks - 1)) _
      (quiet_all (event_at s) (position_of s at) (exit.clocks - 1)
      (λ k some few. there at k ∙ told.quiet k some (omega (arith, some, few)))) last

  -- Named points

  named_told : LiesInPoint → (ids : List ℕ) (x : Instance) → lies_in_any cert ids x ≡ true → LiesInOne cert ids x
  named_told laws [] x e = absurd cc
  named_told laws (id ∷ ids) x e =
      elim (or_cases (lies_in_point cert id x) (lies_in_any cert ids x) e) [
        | inl here ↦ record { id = id; named = (zero, omega arith, refl); lies = (lies_is laws cert id x fits h).0 here }
        | inr there ↦ let one = named_told laws ids x there in record {
          id = one.id;
          named = (suc one.named.0, omega (arith, one.named.1), one.named.2);
          lies = one.lies;
        }
      ]

  named_back : LiesInPoint → (ids : List ℕ) (x : Instance) (id : ℕ) → Contains ids id → LiesByPosition cert id x
      → lies_in_any cert ids x ≡ true
  named_back laws [] x id (i, below, is) lies = absurd (omega (arith, below))
  named_back laws (own ∷ ids) x id (zero, below, is) lies =
      let same : own ≡ id = is in
      or_left (lies_in_point cert own x) (lies_in_any cert ids x)
      (ap (λ n. lies_in_point cert n x) same ∙ (lies_is laws cert id x fits h).1 lies)
  named_back laws (own ∷ ids) x id (suc i, below, is) lies =
      or_right (lies_in_point cert own x) (lies_in_any cert ids x) (named_back laws ids x id (i, omega (arith, below), is) lies)

  -- Where a step leads

  result_is : (at : Instance) (step : Step) (exit : Exit) → successor (order_of cert.schedule) at step exit
      ≡ result_by_scanlines cert at step exit
  result_is at step exit = ap (λ lines. successor lines at step exit) (order_is cert.schedule h)

  return_told : (rest : Option Rest) (end : Instance) → rest_in cert.rests end.line ≡ rest → None ≡ return_fail rest end
      → ReturnsAtRest cert end
  return_told None end is e = absurd cc
  return_told (Some rest) end is e =
      let first = unrefused (not (nat_eq end.clock rest.clock)) fail.Clock _ e in
      let second = unrefused (not (restored end && cells_inside end.cells.items rest.cells.items)) fail.Restore None first.1 in
      let both = and_parts (restored end) _ (not-false _ second.0) in
      record { rest = rest; there = is; clock = eqb-true end.clock rest.clock (not-false _ first.0); restored = both.0; cells = both.1 }

  return_back : (end : Instance) → ReturnsAtRest cert end → None ≡ return_fail (rest_in cert.rests end.line) end
  return_back end told =
      let rest = told.rest in
      let here : None ≡ return_fail (Some rest) end =
      passed (nat_eq end.clock rest.clock) fail.Clock _ (eq-eqb end.clock rest.clock told.clock)
      (passed (restored end && cells_inside end.cells.items rest.cells.items) fail.Restore None
      (and_from (restored end) _ told.restored told.cells) refl) in
      here ∙ sym (ap (λ r. return_fail r end) told.there)

  -- where nothing is asked, nothing is narrowed, and a point without a register of a cover covers nothing by its values
  plain : (next : List ℕ) (at : Instance) (step : Step) (exit : Exit) → step.test ≡ asks.Nothing
      → passes cert next None (narrowed step.test exit (successor (order_of cert.schedule) at step exit))
      ≡ lies_in_any cert next (successor (order_of cert.schedule) at step exit)
  plain next at step exit none =
      ap (λ t. passes cert next None (narrowed t exit (successor (order_of cert.schedule) at step exit))) none ∙ or-false _

  leads_told : LiesInPoint → (next : List ℕ) (at : Instance) (step : Step) (back : Bool) → step.test ≡ asks.Nothing → step.back ≡ back
      → None ≡ result_fail cert next None at step → LeadsByPosition cert next at step
  leads_told laws next at step true none is e = record {
    back = λ _. subst (ReturnsAtRest cert) (result_is at step (first_exit step.exits.items))
        (return_told (rest_in cert.rests (end_of cert at step).line) (end_of cert at step) refl (rw is at e));
    forth = λ other. absurd (cc (is, other));
  }
  leads_told laws next at step false none is e =
      let test = unrefused (not (has_successors cert next None at step)) fail.Successor None (rw is at e) in
      record {
        back = λ other. absurd (cc (is, other));
        forth = λ _ exit has. subst (LiesInOne cert next) (result_is at step exit)
            (named_told laws next _ (sym (plain next at step exit none)
            ∙ exit_tells (λ x. passes cert next None (narrowed step.test x (successor (order_of cert.schedule) at step x))) step.exits.items
            exit (not-false _ test.0) has));
      }

  leads_back : LiesInPoint → (next : List ℕ) (at : Instance) (step : Step) (back : Bool) → step.test ≡ asks.Nothing → step.back ≡ back
      → LeadsByPosition cert next at step → None ≡ result_fail cert next None at step
  leads_back laws next at step true none is told =
      let end = end_of cert at step in
      let returns : ReturnsAtRest cert end =
      subst (ReturnsAtRest cert) (sym (result_is at step (first_exit step.exits.items))) (told.back is) in
      rw is (return_back end returns)
  leads_back laws next at step false none is told =
      let all : has_successors cert next None at step ≡ true =
      each_all (λ x. passes cert next None (narrowed step.test x (successor (order_of cert.schedule) at step x))) step.exits.items
      (λ exit has. let one = subst (LiesInOne cert next) (sym (result_is at step exit)) (told.forth is exit has) in
      plain next at step exit none ∙ named_back laws next _ one.id one.named one.lies) in
      rw is (passed (has_successors cert next None at step) fail.Successor None all refl)

-- Instances of points of which OCR1A and TEMP are left out

record IsUntimed (at : Instance) : Type 0 where
  top : at.top ≡ scanline - 1
  temp : at.temp ≡ whole_byte

timer_of : (s : Schedule) (p : Point) (l c : ℕ) (at : Instance) → IsTimerLeftOut p → instance_by_point s p l c ≡ Some at → IsUntimed at
timer_of s p l c at none e = at_clock (is_in_box p l c) (clock_below scanline (pos p.clock +ℤ p.slope *ℤ pos c)) e
  where
    at_level : (k : ℕ) (o : Option ℕ) → option_and_then (λ level. Some (instance_of p l c k level)) o ≡ Some at → IsUntimed at
    at_level k None e = absurd cc
    at_level k (Some level) e =
        let same : instance_of p l c k level ≡ at = cc in
        record {
          top = ap (λ (i : Instance). i.top) (sym same) ∙ none.top;
          temp = ap (λ (i : Instance). i.temp) (sym same) ∙ none.temp;
        }

    at_clock : (t : Bool) (o : Option ℕ) → cond t (option_and_then (instance_by_level s p l c) o) None ≡ Some at → IsUntimed at
    at_clock true (Some k) e = at_level k (level_by_position s (position l k)) e
    at_clock t o e = absurd cc

untimed : (cert : Cert) → All IsTimerLeftOut cert.points → (id l c : ℕ) (at : Instance) → instance_by_position cert id l c ≡ Some at
    → IsUntimed at
untimed cert none id l c at e =
    let found = opened (λ p. instance_by_point cert.schedule p l c) (slice_get cert.points id) at e in
    let p = found.0 in
    let own : IsTimerLeftOut p = subst IsTimerLeftOut (get_or_from_slice_get cert.points id p p found.1)
    (All-get_or IsTimerLeftOut cert.points id p (slice_get_within cert.points id p found.1) none) in
    timer_of cert.schedule p l c at own found.2

-- The local rule

apart_main : (k : Kind) → k ≢ Main → is_main k ≡ false
apart_main Main h = absurd (h refl)
apart_main k h = refl

main_or : (k : Kind) → (k ≡ Main) ⊎ (k ≢ Main)
main_or Main = inl refl
main_or Handler = inr (λ e. cc e)
main_or Alone = inr (λ e. cc e)

-- an instance that isn't refused has a step, which passes
record Passed (image : FinMap nat_cmp ℕ) (cert : Cert) (next : List ℕ) (split : Option ℕ) (row : Instr) (at : Instance) : Type 0 where
  step : Step
  steps : step_of_row cert.head (order_of cert.schedule) image (Some row) at ≡ Ok step
  unseen : row_emits_in_main (Some row) at ≡ false
  edges : compares_edges cert at step ≡ true
  leads : None ≡ result_fail cert next split at step

step_passed : (image : FinMap nat_cmp ℕ) (cert : Cert) (next : List ℕ) (split : Option ℕ) (row : Instr) (at : Instance)
    (r : Result Step Fail) → step_of_row cert.head (order_of cert.schedule) image (Some row) at ≡ r
    → None ≡ step_fail cert next split at (row_emits_in_main (Some row) at) r → Passed image cert next split row at
step_passed image cert next split row at (Err why) is e = absurd cc
step_passed image cert next split row at (Ok step) is e =
    let first = unrefused (row_emits_in_main (Some row) at) fail.Edge _ e in
    let second = unrefused (not (compares_edges cert at step)) fail.Edge _ first.1 in
    record { step = step; steps = is; unseen = first.0; edges = not-false _ second.0; leads = second.1 }

module _ (laws : LiesInPoint) (image : FinMap nat_cmp ℕ) (cert : Cert) (formed : WellFormed cert) (old : IsOld cert) where
  fits : ScheduleFits cert.schedule
  fits = formed.schedule

  order : order_of cert.schedule ≡ uniform (length cert.schedule.lines)
  order = order_is cert.schedule old.lengths

  -- by the rules of version 2 no point has a register of a cover
  without_split : (version : RuleVersion) (kind : Kind) (p : Point) → version ≡ Two → RulesFit version kind p → p.split ≡ None
  without_split Two kind p is rules = rules.1
  without_split Three kind p is rules = absurd cc

  unsplit : (id : ℕ) (p : Point) → slice_get cert.points id ≡ Some p → p.split ≡ None
  unsplit id p found =
      let lines = length cert.schedule.lines in
      let points = length cert.points in
      let point : PointFits cert.head lines points p =
      subst (PointFits cert.head lines points) (get_or_from_slice_get cert.points id p p found)
      (All-get_or (PointFits cert.head lines points) cert.points id p (slice_get_within cert.points id p found) formed.points.each) in
      without_split cert.head.version p.kind p old.version point.rules

  point_told : (id l c : ℕ) (point : Point) (row : Option Instr) (at : Option Instance) → IsReadAt image point.pc row
      → instance_at cert id l c ≡ at → None ≡ local_fail image cert point.next.items None row at → PassesByPosition image cert id l c point
  point_told id l c point None at reads is e = absurd cc
  point_told id l c point (Some row) None reads is e =
      absurd (cc (unrefused (is_no_opcode (Some row)) fail.Opcode _ e).1)
  point_told id l c point (Some row) (Some at) reads is e =
      let first = unrefused (is_no_opcode (Some row)) fail.Opcode _ e in
      let own = step_passed image cert point.next.items None row at (step_of_row cert.head (order_of cert.schedule) image (Some row) at)
      refl
      first.1 in
      let there : instance_by_position cert id l c ≡ Some at = sym (instance_is cert id l c fits old.lengths) ∙ is in
      let timer = untimed cert old.points id l c at there in
      record {
        row = row;
        reads = reads;
        runs = first.0;
        at = at;
        is = there;
        top = timer.top;
        temp = timer.temp;
        step = own.step;
        steps = ap (λ lines. step_of_row cert.head lines image (Some row) at) (sym order) ∙ own.steps;
        unseen = own.unseen;
        emits = λ apart exit has. emits_told cert fits old.lengths at own.step.emit exit
            (exit_tells (λ x. emits_as_scheduled cert.schedule (position_of cert.schedule at) own.step.emit x.clocks)
            own.step.exits.items exit (other_edges at own.step own.edges (apart_main at.kind apart)) has);
        leads = leads_told cert fits old.lengths laws point.next.items at own.step own.step.back
            (row_unasked cert.head (order_of cert.schedule) image (Some row) at own.step old.version own.steps) refl own.leads;
      }
    where
      other_edges : (at : Instance) (step : Step) → compares_edges cert at step ≡ true → is_main at.kind ≡ false
          → edges_fit cert.schedule (position_of cert.schedule at) step.emit step.exits.items ≡ true
      other_edges at step e apart = rw apart at e

  point_back : (id l c : ℕ) (point : Point) → slice_get cert.points id ≡ Some point → PassesByPosition image cert id l c point
      → IsLocal image cert id l c None
  point_back id l c point is_point told =
      let at = told.at in
      let step = told.step in
      let there : instance_at cert id l c ≡ Some at = instance_is cert id l c fits old.lengths ∙ told.is in
      let steps : step_of_row cert.head (order_of cert.schedule) image (Some told.row) at ≡ Ok step =
      ap (λ lines. step_of_row cert.head lines image (Some told.row) at) order ∙ told.steps in
      let rest : None ≡ step_fail cert point.next.items None at (row_emits_in_main (Some told.row) at) (Ok step) =
      free (row_emits_in_main (Some told.row) at) fail.Edge _ told.unseen
      (passed (compares_edges cert at step) fail.Edge _ (edges (main_or at.kind))
      (leads_back cert fits old.lengths laws point.next.items at step step.back
      (row_unasked cert.head (order_of cert.schedule) image (Some told.row) at step old.version steps) refl told.leads)) in
      let local : None ≡ local_fail image cert point.next.items None (Some told.row) (Some at) =
      free (is_no_opcode (Some told.row)) fail.Opcode _ told.runs
      (rest ∙ sym (ap (step_fail cert point.next.items None at (row_emits_in_main (Some told.row) at)) steps)) in
      record {
        point = point;
        is_point = is_point;
        row = Some told.row;
        reads = told.reads;
        is = local ∙ (sym (ap (local_fail image cert point.next.items None (Some told.row)) there)
            ∙ ap (λ split. local_fail image cert point.next.items split (Some told.row) (instance_at cert id l c))
            (sym (unsplit id point is_point)));
      }
    where
      edges : (told.at.kind ≡ Main) ⊎ (told.at.kind ≢ Main) → compares_edges cert told.at told.step ≡ true
      edges (inl main) = or_left (is_main told.at.kind) _ (ap is_main main)
      edges (inr apart) = or_right (is_main told.at.kind) _ (each_all
          (λ x. emits_as_scheduled cert.schedule (position_of cert.schedule told.at) told.step.emit x.clocks) told.step.exits.items
          (λ exit has. emits_back cert fits old.lengths told.at told.step.emit exit (told.emits apart exit has)))

  pub accepts_told : Accepts image cert → AcceptsOld image cert
  accepts_told accepts = record {
    steady = accepts.steady;
    rests = λ rest has. (rest_is laws cert rest formed old.lengths has).0 (accepts.rests rest has);
    entry = (entry_is laws cert formed old.lengths).0 accepts.entry;
    points = λ id l c point there inside. by_local id l c point there (accepts.points id l c point there inside);
  }
    where
      some_point : (a b : Point) → ◌≡◌ {A = Option Point} (Some a) (Some b) → a ≡ b
      some_point a b e = cc

      by_local : (id l c : ℕ) (point : Point) → slice_get cert.points id ≡ Some point → IsLocal image cert id l c None
          → PassesByPosition image cert id l c point
      by_local id l c point there local =
          subst (PassesByPosition image cert id l c) (some_point local.point point (sym local.is_point ∙ there))
          (point_told id l c local.point local.row (instance_at cert id l c) local.reads refl (local.is
          ∙ ap (λ split. local_fail image cert local.point.next.items split local.row (instance_at cert id l c))
          (unsplit id local.point local.is_point)))

  pub accepts_back : AcceptsOld image cert → Accepts image cert
  accepts_back told = record {
    steady = told.steady;
    rests = λ rest has. (rest_is laws cert rest formed old.lengths has).1 (told.rests rest has);
    entry = (entry_is laws cert formed old.lengths).1 told.entry;
    points = λ id l c point there inside. point_back id l c point there (told.points id l c point there inside);
  }

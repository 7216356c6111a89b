-- An instance of an ended search passes the local rule.
use Rattle.uz_search.proofs.Common.{◌≡◌, ◌≢◌, ℕ, zero, suc, ◌<◌, ◌≤◌, ◌+◌, ◌-◌, ◌%◌, List, [], ◌∷◌, map, Option, Some, None, Result, Ok}
use Rattle.uz_search.proofs.Common.{Err, Bool, true, false, not, ◌&&◌, ◌||◌, nat_eq, nat_le, refl, sym, ap, ◌∙◌, subst, inl, inr, ⊎_elim}
use Rattle.uz_search.proofs.Common.{length, slice_get, if◌then◌else◌, arith, eq-eqb, cases_Bool, mod-eq_of_lt, nat_tests, Instr, words_of}
use Rattle.uz_search.proofs.Common.{effect_of, Effect, NoOperation, Ends, Lines, line_after, clock_after, order_of as lines_of_schedule}
use Rattle.uz_search.proofs.Common.{length_of, frame_of, event_at, place_below, Cert, Head, Kind, Main, Handler, Alone, EventKind, Sync}
use Rattle.uz_search.proofs.Common.{Pixel, Sound, Leave, Instance, Fail, Edge, Exit, narrowed, test_of, Step, Test, is_main, emission}
use Rattle.uz_search.proofs.Common.{outcomes, clock_holds, fail_of, range_inside, refuse_if, IsReadAt, following_of, step_of_row}
use Rattle.uz_search.proofs.Common.{step_unless, successor, Next, timed, next_of, results_of, position_of, all_below, cells_inside}
use Rattle.uz_search.proofs.Common.{restored, first_exit, passes, results_plain, asks_none, decoded_same, Found, Program, ProgramFits}
use Rattle.uz_search.proofs.Common.{Stands, Among, Flash, order_of_program, line_on, clock_on, most_clocks, clocks_between, shown_at}
use Rattle.uz_search.proofs.Common.{Treated, same_Some}
use Rattle.uz_core.specs.declared.machine.Effect.TheVariants.{Stop}
use Rattle.uz_transfer.specs.declared.fail.Fail.TheVariants.{Opcode, Clock, Restore, Successor}
use Rattle.uz_rules.specs.EdgeRule.{is_kind, is_event, is_quiet, emits_as_scheduled, each_exit, edges_fit}
use Rattle.uz_rules.specs.Local.{compares_edges, end_of, has_successors, instance_fail, is_no_opcode, is_stop, rest_in, result_fail}
use Rattle.uz_rules.specs.Local.{return_fail, row_emits_in_main, step_fail}
use Rattle.uz_search.specs.Searching.{IsEnded}
use Rattle.std.specs.Prelude.{is_none}
use Rattle.uz_transfer.specs.Values.{span_at}
use Rattle.uz_search.proofs.FramePlaces.{Reaches, at, length_some, reach_after, reach_line, between_of}
use Rattle.uz_search.proofs.Lists.{in_map, kind_cases}
use Rattle.uz_search.proofs.Exits.{exit_clocks}
use Rattle.uz_search.proofs.OneResult.{exits_at, left_is_result}
use Rattle.uz_search.specs.Complete.{EndedPassesLocal, HasSuccessors}
use Rattle.uz_search.specs.Made.{IsMadeOf}
use Rattle.uz_search.proofs.Closing.{clocks_few}
use Rattle.uz_search.proofs.NodeLaws.{Owes}
use Rattle.uz_search.proofs.Positions.{reach_position}
use Rattle.uz_search.proofs.ScheduleOf.{order_same, start_same, event_is, seen_shows}
use Rattle.uz_transfer.specs.declared.step.Test.TheVariants as asks
use Rattle.uz_search.proofs.Coverage as cover

-- Tests

same_kind_true : (e : EventKind) → is_kind e e ≡ true
same_kind_true (Sync v) = eq-eqb v v refl
same_kind_true Pixel = refl
same_kind_true Sound = refl
same_kind_true Leave = refl

same_event_true : (e : Option EventKind) → is_event e e ≡ true
same_event_true None = refl
same_event_true (Some e) = same_kind_true e

quiet_all : (event : ℕ → Option EventKind) (p n : ℕ) → ((k : ℕ) → 1 ≤ k → k ≤ n → event (p + k) ≡ None) → is_quiet event p n ≡ true
unfolding is_quiet
quiet_all event p zero none = refl
quiet_all event p (suc n) none = λ i. quiet_all event p n (λ k some few. none k some (omega (arith, few))) i
    && is_none (none (suc n) (omega arith) (omega arith) i)

each_all : (test : Exit → Bool) (exits : List Exit) → ((exit : Exit) → Among exits exit → test exit ≡ true) → each_exit test exits ≡ true
each_all test [] all = refl
each_all test (exit ∷ exits) all = λ i. all exit (0, refl) i && each_all test exits (λ e there. all e (suc there.0, there.1)) i

below_all : (n : ℕ) (test : ℕ → Bool) → ((k : ℕ) → test k ≡ true) → all_below n test ≡ true
unfolding all_below
below_all zero test all = refl
below_all (suc n) test all = λ i. below_all n test all i && all n i

cells_same : (cells : List Ends) → cells_inside cells cells ≡ true
cells_same cells =
    λ i. eq-eqb (length cells) (length cells) refl i && below_all (length cells) (λ j. range_inside (span_at cells j) (span_at cells j))
    (λ j. range_same (span_at cells j)) i
  where
    range_same : (e : Ends) → range_inside e e ≡ true
    range_same e = λ i. le_self e.lo i && le_self e.hi i
      where
        le_self : (n : ℕ) → nat_le n n ≡ true
        le_self n = grind (arith, nat_tests)

-- The step

ok_is : (a b : Next) → ◌≡◌ {A = Result Next Fail} (Ok a) (Ok b) → a ≡ b
ok_is a b h = cc

apart_main : (k : Kind) → k ≢ Main → is_main k ≡ false
apart_main Main h = absurd (h refl)
apart_main Handler h = refl
apart_main Alone h = refl

-- an instance with results has a step
record HasStep (program : Program) (x : Instance) (next : Next) (result : Result Step Fail) : Type 0 where
  step : Step
  is : result ≡ Ok step
  emit : next.emit ≡ timed step.emit (first_exit step.exits.items).clocks
  back : next.back ≡ step.back
  out : next.out.items ≡ results_of (order_of_program program) x step step.exits.items
  -- outside main nothing is narrowed
  plain : is_main x.kind ≡ false → next.out.items ≡ map (successor (order_of_program program) x step) step.exits.items

has_step : (program : Program) (x : Instance) (next : Next) (result : Result Step Fail)
    → ((step : Step) → result ≡ Ok step → is_main x.kind ≡ false → step.test ≡ asks.Nothing)
    → Ok next ≡ next_of (order_of_program program) x result
    → HasStep program x next result
has_step program x next (Err why) none h = cc
has_step program x next (Ok step) none h = let same = ok_is next _ h in record {
  step = step;
  is = refl;
  emit = ap (λ (n : Next). n.emit) same;
  back = ap (λ (n : Next). n.back) same;
  out = ap (λ (n : Next). n.out.items) same;
  plain = λ apart. ap (λ (n : Next). n.out.items) same ∙ results_plain (order_of_program program) x step (none step refl apart)
      step.exits.items;
}

-- the exits of a step are its row's
record Parts (why : Option Fail) (exits : List Exit) (asked : Test) (step : Step) : Type 0 where
  fine : why ≡ None
  same : step.exits.items ≡ exits
  test : step.test ≡ asked

parts : (why : Option Fail) (emitted : Option (Option EventKind)) (in_time : Bool) (draft step : Step)
    → step_unless why emitted in_time draft ≡ Ok step → Parts why draft.exits.items draft.test step
parts (Some why) emitted in_time draft step h = cc
parts None None in_time draft step h = cc
parts None (Some e) false draft step h = cc
parts None (Some e) true draft step h = record {
  fine = refl;
  same = ap (λ (z : Step). z.exits.items) (sym (step_is _ step h));
  test = ap (λ (z : Step). z.test) (sym (step_is _ step h));
}
  where
    step_is : (a b : Step) → ◌≡◌ {A = Result Step Fail} (Ok a) (Ok b) → a ≡ b
    step_is a b e = cc

row_parts : (head : Head) (lines : Lines) (image : Flash) (x : Instance) (i : Instr) (step : Step)
    → step_of_row head lines image (Some i) x ≡ Ok step → Parts (fail_of head (effect_of i) x) (exits_at image x i) (test_of head (effect_of i) x) step
row_parts head lines image x i step h =
    parts (fail_of head (effect_of i) x) (emission (effect_of i) x) (clock_holds lines (effect_of i) x (exits_at image x i)) _ step h

row_unasked : (head : Head) (lines : Lines) (image : Flash) (x : Instance) (row : Option Instr) (step : Step)
    → step_of_row head lines image row x ≡ Ok step → is_main x.kind ≡ false → step.test ≡ asks.Nothing
row_unasked head lines image x None step h apart = cc
row_unasked head lines image x (Some i) step h apart =
    (row_parts head lines image x i step h).test ∙ asks_none head (effect_of i) x apart

exit_bounds : (head : Head) (lines : Lines) (image : Flash) (x : Instance) (row : Option Instr) (step : Step)
    → step_of_row head lines image row x ≡ Ok step → (exit : Exit) → Among step.exits.items exit → (1 ≤ exit.clocks) × (exit.clocks ≤ 4)
exit_bounds head lines image x None step h exit there = cc
exit_bounds head lines image x (Some i) step h exit there =
    let r = row_parts head lines image x i step h in
    exit_clocks image head i x (following_of (words_of i) x) (outcomes image (following_of (words_of i) x) (effect_of i) x) exit r.fine
    (subst (λ l. Among l exit) r.same there)

-- the clocks to the result at an exit are the exit's
between_exit : (program : Program) → ProgramFits program → (x : Instance) (step : Step) (exit : Exit) → Stands program x → x.kind ≢ Main
    → 1 ≤ exit.clocks
    → exit.clocks ≤ 4 → clocks_between program x (successor (order_of_program program) x step exit) ≡ exit.clocks
between_exit program fits x step exit stands apart some few =
    let room : (l : ℕ) → exit.clocks ≤ length_of program.schedule l =
    λ l. (let long = length_some program fits l in omega (arith, few, long)) in
    let y : Instance = successor (order_of_program program) x step exit in
    let k : ℕ = x.clock + exit.clocks in
    let main_not = apart_main x.kind apart in
    let line : line_after (order_of_program program) x.line k ≡ y.line =
    sym (ap (λ b. if b then x.line else line_after (order_of_program program) x.line k)
    main_not) in
    let clock : clock_after (order_of_program program) x.line k ≡ y.clock =
    sym (ap (λ b. if b then x.clock else clock_after (order_of_program program) x.line k) main_not) in
    let reach : Reaches program.schedule x.line x.clock exit.clocks y.line y.clock =
    subst (λ q. Reaches program.schedule x.line x.clock exit.clocks y.line q) clock
    (subst (λ l. Reaches program.schedule x.line x.clock exit.clocks l (clock_after (order_of_program program) x.line k)) line
    (reach_after program.schedule x.line x.clock exit.clocks stands.line stands.clock room)) in
    between_of program.schedule x.line x.clock exit.clocks y.line y.clock reach stands.clock some (room x.line)

-- what is shown before the end, and at it
shown_before : (emitted : Option EventKind) (c k : ℕ) → k < c → shown_at (timed emitted c) k ≡ None
shown_before None c k lt = refl
shown_before (Some e) c k lt = ap (λ b. if b then Some e else None) (differ c k lt)
  where
    differ : (c k : ℕ) → k < c → nat_eq c k ≡ false
    differ c k lt = grind (arith, nat_tests)

shown_end : (emitted : Option EventKind) (c : ℕ) → shown_at (timed emitted c) c ≡ emitted
shown_end None c = refl
shown_end (Some e) c = ap (λ b. if b then Some e else None) (eq-eqb c c refl)

module _ (image : Flash) (program : Program) (fits : ProgramFits program) (found : Found) (ended : IsEnded image program found)
    (cert : Cert) (made : IsMadeOf program found cert) (ids : List ℕ) (split : Option ℕ)
    (x : Instance) (node : Among found.nodes.keys x) (lies : HasSuccessors image program cert ids split x) where
  abbrev over : cover.Ended
  over = record { image = image; program = program; fits = fits; found = found; s = ended }

  abbrev t : Treated image program found.nodes.keys found.marks.items found.returns.items x
  t = cover.treated over x node

  stands : Stands program x
  stands = cover.stands over x node

  -- the lines are the program's
  lines_same : lines_of_schedule cert.schedule ≡ order_of_program program
  lines_same = order_same program found.marks.items cert.schedule made.schedule

  module _ (row : Option Instr) (reads : IsReadAt image x.pc row)
      (s : HasStep program x t.next (step_of_row cert.head (lines_of_schedule cert.schedule) image row x)) where
    -- main stores nothing that is seen
    no_emission : row_emits_in_main row x ≡ false
    no_emission = ⊎_elim
        (λ yes. absurd (t.clear Edge (inl (refl, inl (record { row = row; reads = reads; emits = yes })))))
        (λ no. no)
        (cases_Bool (row_emits_in_main row x))

    -- Edge

    edge_at : x.kind ≢ Main → (exit : Exit) → Among s.step.exits.items exit → emits_as_scheduled cert.schedule (position_of cert.schedule x)
        s.step.emit exit.clocks ≡ true
    edge_at apart exit there = λ i. quiet i && last i
      where
        y : Instance
        y = successor (order_of_program program) x s.step exit

        o : Owes program x t.next
        o = cover.owed over x node apart

        y_there : slice_get t.next.out.items there.0 ≡ Some y
        y_there = ap (λ l. slice_get l there.0) (s.plain (apart_main x.kind apart)) ∙ in_map (successor
            (order_of_program program) x s.step) s.step.exits.items there.0 exit
            there.1

        c : ℕ
        c = clocks_between program x y

        few : c ≤ most_clocks program x t.next.out.items
        few = clocks_few program x t.next.out.items there.0 y y_there

        some : 1 ≤ c
        some = (o.moves y (there.0, y_there)).some

        -- the clocks to the result are the exit's
        clocks : c ≡ exit.clocks
        clocks = let b = exit_bounds cert.head (lines_of_schedule cert.schedule) image x row s.step s.is exit there in
            between_exit program fits x s.step exit stands apart b.0 b.1

        position : position_of cert.schedule x ≡ position_of program.schedule x
        position = ap (λ m. m + x.clock) (start_same program found.marks.items cert.schedule made.schedule x.line)

        here : position_of program.schedule x % frame_of program.schedule ≡ position_of program.schedule x
        here = mod-eq_of_lt (place_below program.schedule x.line x.clock stands.line stands.clock)

        event_on : (k : ℕ) → 1 ≤ k → k ≤ c → event_at cert.schedule (position_of cert.schedule x + k) ≡ shown_at t.next.emit k
        event_on k low high =
            let l : ℕ = line_on program x k in
            let q : ℕ = clock_on program x k in
            let goes = cover.passed over x node apart k (omega (arith, high, few)) in
            let place = reach_position program.schedule x.line x.clock k l q (position_of program.schedule x) stands.line goes here in
            ap (λ n. event_at cert.schedule (n + k)) position ∙ event_is program found.marks.items cert.schedule made.schedule
            (position_of program.schedule x + k) l q (reach_line program.schedule x.line x.clock k l q stands.line goes) goes.0 place
            ∙ seen_shows found.marks.items (at l q) (shown_at t.next.emit k) (t.seen apart k low (omega (arith, high, few)))

        -- where something is emitted it is at the end of this exit
        emit_is : t.next.emit ≡ timed s.step.emit exit.clocks
        emit_is = by s.step.emit refl
          where
            by : (emitted : Option EventKind) → s.step.emit ≡ emitted → t.next.emit ≡ timed s.step.emit exit.clocks
            by None is = s.emit ∙ ap (λ e. timed e (first_exit s.step.exits.items).clocks) is ∙ ap (λ e. timed e exit.clocks) (sym is)
            by (Some e) is =
                let emit : t.next.emit ≡ Some ((first_exit s.step.exits.items).clocks, e) = s.emit
                ∙ ap (λ o. timed o (first_exit s.step.exits.items).clocks) is in
                let time = o.at_end (first_exit s.step.exits.items).clocks e y emit (there.0, y_there) in
                s.emit ∙ ap (timed s.step.emit) (time ∙ clocks)

        quiet : is_quiet (event_at cert.schedule) (position_of cert.schedule x) (exit.clocks - 1) ≡ true
        quiet = quiet_all (event_at cert.schedule) (position_of cert.schedule x) (exit.clocks - 1) (λ k low high.
            event_on k low (omega (arith, clocks, high)) ∙ ap (λ m. shown_at m k) emit_is ∙ shown_before s.step.emit exit.clocks k
            (omega (arith, clocks, some, high)))

        last : is_event (event_at cert.schedule (position_of cert.schedule x + exit.clocks)) s.step.emit ≡ true
        last =
            let at_end : event_at cert.schedule (position_of cert.schedule x + exit.clocks) ≡ s.step.emit =
            event_on exit.clocks (omega (arith, clocks, some)) (omega (arith, clocks)) ∙ ap (λ m. shown_at m exit.clocks) emit_is
            ∙ shown_end s.step.emit exit.clocks in
            ap (λ e. is_event e s.step.emit) at_end ∙ same_event_true s.step.emit

    compares : compares_edges cert x s.step ≡ true
    compares = ⊎_elim
        (λ (main : x.kind ≡ Main). ap (λ k. is_main k || edges_fit cert.schedule (position_of cert.schedule x) s.step.emit
        s.step.exits.items) main)
        (λ (apart : x.kind ≢ Main).
        ap (λ b. b || edges_fit cert.schedule (position_of cert.schedule x) s.step.emit s.step.exits.items) (apart_main x.kind apart)
        ∙ each_all (λ exit. emits_as_scheduled cert.schedule (position_of cert.schedule x) s.step.emit exit.clocks) s.step.exits.items
        (edge_at apart))
        (kind_cases x.kind)

    -- Successor

    goes_on : t.next.back ≡ false → has_successors cert ids split x s.step ≡ true
    goes_on back = each_all (λ exit. passes cert ids split (narrowed s.step.test exit (successor (lines_of_schedule cert.schedule) x s.step exit)))
        s.step.exits.items
        (λ exit there. subst (λ (l : Lines). passes cert ids split (narrowed s.step.test exit (successor l x s.step exit)) ≡ true)
        (sym lines_same) (by exit there (narrowed s.step.test exit (successor (order_of_program program) x s.step exit)) refl))
      where
        by : (exit : Exit) → Among s.step.exits.items exit → (o : Option Instance)
            → narrowed s.step.test exit (successor (order_of_program program) x s.step exit) ≡ o → passes cert ids split o ≡ true
        by exit there None is = refl
        by exit there (Some y) is = lies t.next y t.after back (subst (λ l. Among l y) (sym s.out)
            (left_is_result (order_of_program program) x s.step s.step.exits.items exit y there is))

    -- Clock and Restore

    returns : t.next.back ≡ true → return_fail (rest_in cert.rests (end_of cert x s.step).line) (end_of cert x s.step) ≡ None
    returns back = subst (λ (z : Instance). return_fail (rest_in cert.rests z.line) z ≡ None) (sym end_is) here
      where
        apart : x.kind ≢ Main
        apart = cover.back_apart over x node back

        some : (y : Instance) × (slice_get t.next.out.items 0 ≡ Some y)
        some = t.some apart

        end : Instance
        end = some.0

        first : (exits : List Exit) (f : Exit → Instance) → slice_get (map f exits) 0 ≡ Some end → f (first_exit exits) ≡ end
        first [] f h = cc
        first (exit ∷ exits) f h = same_Some (f exit) end h

        end_is : end_of cert x s.step ≡ end
        end_is = ap (λ (l : Lines). successor l x s.step (first_exit s.step.exits.items)) lines_same
            ∙ first s.step.exits.items (successor (order_of_program program) x s.step) (ap (λ l. slice_get l 0)
            (sym (s.plain (apart_main x.kind apart))) ∙ some.1)

        here : return_fail (rest_in cert.rests end.line) end ≡ None
        here =
            let noted = t.noted back end some.1 in
            let rest = made.rests end.line noted.0 noted.1 in
            let clock : end.clock ≡ rest.0.clock = sym noted.2.0 ∙ sym rest.2 in
            let cells : end.cells.items ≡ rest.0.cells.items = ap (λ v. v.items) (sym noted.2.1) ∙ sym rest.3 in
            let kept : restored end ≡ true = ⊎_elim (λ yes. yes)
            (λ no. absurd (t.clear Restore (inr (refl, record { back = back; end = end; ends = (0, some.1); kept = no }))))
            (cases_Bool (restored end)) in
            let inside : cells_inside end.cells.items rest.0.cells.items ≡ true = subst (λ l. cells_inside end.cells.items l ≡ true) cells
            (cells_same end.cells.items) in
            ap (λ r. return_fail r end) rest.1
            ∙ ap (λ b. refuse_if (not b) Clock (refuse_if (not (restored end && cells_inside end.cells.items rest.0.cells.items)) Restore
            None)) (eq-eqb end.clock rest.0.clock clock)
            ∙ ap (λ b. refuse_if (not (b && cells_inside end.cells.items rest.0.cells.items)) Restore None) kept
            ∙ ap (λ b. refuse_if (not b) Restore None) inside

    result_ok : result_fail cert ids split x s.step ≡ None
    result_ok = ⊎_elim
        (λ back. ap (λ b. if b then return_fail (rest_in cert.rests (end_of cert x s.step).line) (end_of cert x s.step) else refuse_if
        (not (has_successors cert ids split x s.step)) Successor None) (sym s.back ∙ back) ∙ returns back)
        (λ back. ap (λ b. if b then return_fail (rest_in cert.rests (end_of cert x s.step).line) (end_of cert x s.step) else refuse_if
        (not (has_successors cert ids split x s.step)) Successor None) (sym s.back ∙ back)
        ∙ ap (λ b. refuse_if (not b) Successor None) (goes_on back))
        (cases_Bool t.next.back)

    step_ok : step_fail cert ids split x (row_emits_in_main row x) (step_of_row cert.head (lines_of_schedule cert.schedule) image row x) ≡ None
    step_ok =
        ap (step_fail cert ids split x (row_emits_in_main row x)) s.is
        ∙ ap (λ b. refuse_if b Edge (refuse_if (not (compares_edges cert x s.step)) Edge (result_fail cert ids split x s.step))) no_emission
        ∙ ap (λ b. refuse_if (not b) Edge (result_fail cert ids split x s.step)) compares ∙ result_ok

fails_stop : (head : Head) (e : Effect) (x : Instance) → fail_of head e x ≡ None → is_stop e ≡ false
fails_stop head Stop x h = cc
fails_stop head NoOperation x h = refl
fails_stop head e x h = refl

stops_none : (head : Head) (lines : Lines) (image : Flash) (x : Instance) (row : Option Instr) (step : Step)
    → step_of_row head lines image row x ≡ Ok step → is_no_opcode row ≡ false
stops_none head lines image x None step h = cc
stops_none head lines image x (Some i) step h = fails_stop head (effect_of i) x (row_parts head lines image x i step h).fine

pub passes_local : EndedPassesLocal
passes_local image p found cert ids split row x fits ended made node lies reads =
    ap (λ b. refuse_if b Opcode (instance_fail image cert ids split row (Some x)))
    (stops_none cert.head (lines_of_schedule cert.schedule) image x row s.step s.is) ∙ step_ok image p fits found ended cert made ids split x node lies row reads s
  where
    over : cover.Ended
    over = record { image = image; program = p; fits = fits; found = found; s = ended }

    s : HasStep p x (cover.treated over x node).next (step_of_row cert.head (lines_of_schedule cert.schedule) image row x)
    s =
        let a = (cover.treated over x node).after in
        let same = order_same p found.marks.items cert.schedule made.schedule in
        has_step p x _ (step_of_row cert.head (lines_of_schedule cert.schedule) image row x)
        (λ step e apart. row_unasked cert.head (lines_of_schedule cert.schedule) image x row step e apart)
        (a.is ∙ ap (λ (r : Option Instr). next_of (order_of_program p) x (step_of_row p.head (order_of_program p) image r x))
        (decoded_same _ _ a.row row a.reads reads)
        ∙ ap (λ (h : Head). next_of (order_of_program p) x (step_of_row h (order_of_program p) image row x)) (sym made.head)
        ∙ ap (λ (l : Lines). next_of (order_of_program p) x (step_of_row cert.head l image row x)) (sym same))

-- Containment: the state after an instruction meets the instance at one of the abstract step's exits.
use Rattle.uz_rules.proofs.Common.{◌≡◌, ◌≢◌, inl, inr, ℕ, ◌+◌, ◌-◌, ◌%◌, ◌≤◌, Bool, true, false, not, if◌then◌else◌, nat_eq, nat_le, Option}
use Rattle.uz_rules.proofs.Common.{Some, None, List, [], ◌∷◌, ◌++◌, map, length, refl, sym, ◌∙◌, ap, subst, arith, slice_index, ◌&&◌, ◌||◌}
use Rattle.uz_rules.proofs.Common.{◌==◌, Ok, nat_cmp, FinMap, filter_map, AllByRecursion, nat_tests, append-nil, word_of, Instr, Outcome}
use Rattle.uz_rules.proofs.Common.{Reads, words_of, clocks_of, unique, EdgeKind, SyncEdge, PixelEdge, SoundEdge, Effect, Binary, Load}
use Rattle.uz_rules.proofs.Common.{Store, LoadProgram, WriteIoBit, WriteFlag, Jump, Return, Stop, bit_is_set, effect_of, Core, following_pc}
use Rattle.uz_rules.proofs.Common.{load_addresses, sample_clock, loaded_bytes, content_after_loads, outcome_of, next_pc, changed_core}
use Rattle.uz_rules.proofs.Common.{owes_instruction, returns_from_interrupt, StepResult, effect_result, is_due, is_counting, count_after}
use Rattle.uz_rules.proofs.Common.{matches_within, timer_after, PadHistory, Space, history_wiring, byte_at, space_after, space_loads, State}
use Rattle.uz_rules.proofs.Common.{sync_level, all_edge_kinds, IsState, IsByte, IsCore, EffectFits, effect_fits, state_kept, Ends, Val}
use Rattle.uz_rules.proofs.Common.{is_single, Nothing, Kind, Main, Head, EventKind, Sync, Pixel, Sound, Leave, Instance, Mask, cell_place}
use Rattle.uz_rules.proofs.Common.{is_main, is_handler, HeadFits, Untouched, depth_of, address_range, flags_from, with_cell, stored_in}
use Rattle.uz_rules.proofs.Common.{transfer, bit_of_bool, compared_after, is_three, told_after, test_of, byte_event, bit_event, level_event}
use Rattle.uz_rules.proofs.Common.{emission, emission_at, level_after, span_of, value_at, with_flag_list, fail_of, event_of, Lines}
use Rattle.uz_rules.proofs.Common.{clears_flag, following_of, sampled_of, draft_of, all_exits, step_of_row, successor, IsReadAt, TimerMeets}
use Rattle.uz_rules.proofs.Common.{TimerCounts, LevelMeets, Meets, InstanceFits, IsNoEntry, main_emits, Exit, Step, shown_at, shown, listed}
use Rattle.uz_rules.proofs.StoreClasses.{silent_byte}
use Rattle.uz_rules.specs.OneStep.{MainTimer, OneStep, InstructionBegins, Contained, AloneContained, MainContained}
use Rattle.uz_rules.proofs.Classes.{pointer_rest, facts_of, Before, memory_same, unless_none}
use Rattle.uz_rules.proofs.AskedLaws.{step_tells, TellsAway, row_tells, exit_meets, asks_none, two_asks_none}
use Rattle.uz_transfer.specs.InTime.{clock_holds}
use Rattle.uz_core.specs.declared.machine.Edge.{Edge}
use Rattle.uz_core.specs.declared.machine.EdgeKind.TheVariants.{Enter as EnterEdge, Leave as LeaveEdge}
use Rattle.uz_core.specs.Turn.{state_after, edges_at, is_entry, after_instruction, instruction_edges, Turn}
use Rattle.uz_core.proofs.RowClocks.{clocks_within, stops}
use Rattle.uz_rules.proofs.StoreShows.{kinds_listed}
use Rattle.uz_rules.specs.Versions.{VersionTwoStays}
use Rattle.uz_rules.proofs.LeavesHold.{stores_leave}
use Rattle.uz_rules.proofs.Timing.{loads_beside, stores_beside, later}
use Rattle.uz_rules.proofs.TopAndTemp.{top_stays}
use Rattle.uz_rules.proofs.ComparedFollows.{compared_holds}
use Rattle.uz_rules.proofs.ComparedLaws.{compared_same}
use Rattle.uz_rules.proofs.CoreSteps.{core_same}
use Rattle.uz_rules.proofs.LoadClasses.{content_bytes}
use Rattle.uz_rules.proofs.ClassParts.{parts_of}
use Rattle.uz_rules.proofs.ExitsHold.{exit_holds}

-- Edges and events

edges_shown : (clock : ℕ) (kinds : List EdgeKind) → shown (edges_at clock kinds) ≡ map (λ k. record { clock = clock; kind = k })
    (filter_map event_of kinds)
edges_shown clock [] = refl
edges_shown clock (SyncEdge level ∷ kinds) = ap (λ l. record { clock = clock; kind = Sync level } ∷ l) (edges_shown clock kinds)
edges_shown clock (PixelEdge v ∷ kinds) = ap (λ l. record { clock = clock; kind = Pixel } ∷ l) (edges_shown clock kinds)
edges_shown clock (SoundEdge v ∷ kinds) = ap (λ l. record { clock = clock; kind = Sound } ∷ l) (edges_shown clock kinds)
edges_shown clock (EnterEdge t ∷ kinds) = edges_shown clock kinds
edges_shown clock (LeaveEdge ∷ kinds) = ap (λ l. record { clock = clock; kind = Leave } ∷ l) (edges_shown clock kinds)

listed_shown : (clock : ℕ) (emitted : Option EventKind) → map (λ k. record { clock = clock; kind = k }) (kinds_listed emitted) ≡ listed
    (shown_at emitted clock)
listed_shown clock None = refl
listed_shown clock (Some k) = refl

edges_calm : (clock : ℕ) (kinds : List EdgeKind) → AllByRecursion IsNoEntry kinds → AllByRecursion (λ (e : Edge). IsNoEntry e.kind)
    (edges_at clock kinds)
edges_calm clock [] h = tt
edges_calm clock (k ∷ kinds) h = (h.0, edges_calm clock kinds h.1)

-- No instruction is left owed, and it isn't SPM

owes_none : (head : Head) (inst : Instance) (e : Effect) → fail_of head e inst ≡ None → returns_from_interrupt e ≡ false → owes_instruction
    e ≡ false
owes_none head inst (WriteFlag flag true) f r = by_case (nat_eq flag 7) (unless_none (nat_eq flag 7 && true) Mask None f).0
  where
    by_case : (t : Bool) → (t && true) ≡ false → (true && t) ≡ false
    by_case true e = absurd cc
    by_case false e = refl
owes_none head inst (WriteFlag flag false) f r = refl
owes_none head inst (Return t) f r = r
owes_none head inst e f r = refl

goes_on_stop : (head : Head) (inst : Instance) (e : Effect) → fail_of head e inst ≡ None → stops e ≡ false
goes_on_stop head inst Stop f = absurd cc
goes_on_stop head inst e f = refl

in_four : (t : Bool) (n : ℕ) → t ≡ false → (t || (nat_le 1 n && nat_le n 4)) ≡ true → (1 ≤ n) × (n ≤ 4)
in_four true n s e = absurd cc
in_four false n s e = (grind (arith, nat_tests), grind (arith, nat_tests))

-- The draft keeps the kind

stored_kind : (head : Head) (a : Ends) (v : Val) (inst : Instance) → (stored_in head a v inst).kind ≡ inst.kind
stored_kind head a v inst = by_case (is_single a) (nat_eq a.lo 0x5F) (cell_place head inst.kind a.lo)
  where
    by_case : (t u : Bool) (place : Option ℕ)
        → (if t then (if u then with_flag_list (flags_from v) inst else with_cell place (span_of v) inst) else inst).kind ≡ inst.kind
    by_case true false (Some j) = refl
    by_case true u place = refl
    by_case false u place = refl

draft_kind : (e : Effect) (head : Head) (image : FinMap nat_cmp ℕ) (following sampled : ℕ) (inst : Instance)
    → (transfer head image following sampled e inst).kind ≡ inst.kind
draft_kind (Binary op d source true) head image following sampled inst = refl
draft_kind (Load d from) head image following sampled inst = sym (pointer_rest from inst inst).0
draft_kind (Store to r) head image following sampled inst =
    sym (pointer_rest to inst (stored_in head (address_range to inst) (value_at inst.regs r) inst)).0
    ∙ stored_kind head (address_range to inst) (value_at inst.regs r) inst
draft_kind (LoadProgram d true) head image following sampled inst = refl
draft_kind (Jump target true) head image following sampled inst = refl
draft_kind (Return false) head image following sampled inst = refl
draft_kind e head image following sampled inst = refl

-- An instance that is alone

pub alone_before : (head : Head) (inst : Instance) (o : Core) (d : ℕ) (s : State PadHistory) → HeadFits head → d ≤ head.main → InstanceFits head
    inst → IsState s → Meets head inst o d s → Before head inst o d s.core s.space
alone_before head inst o d s fits few limits state m = record {
  fits = fits;
  few = few;
  limits = limits;
  is_core = state.core;
  size = state.space.size;
  enabled = m.enabled;
  meets = m.core;
  memory = m.memory;
  pc = m.pc;
}

-- One effect, with the words and clocks of its row

abbrev result_of : Effect → ℕ → (Outcome → ℕ) → State PadHistory → StepResult (Space PadHistory)
result_of e words clocks s = effect_result (space_loads history_wiring) s.image e words clocks s.core s.space

abbrev pub state_of : Effect → ℕ → (Outcome → ℕ) → State PadHistory → State PadHistory
state_of e words clocks s = let d = result_of e words clocks s in state_after history_wiring s d.core d.content d.stores d.clocks d.owed

abbrev kinds_of : Effect → ℕ → (Outcome → ℕ) → State PadHistory → List EdgeKind
kinds_of e words clocks s = let d = result_of e words clocks s in all_edge_kinds history_wiring d.stores (space_after d.clocks d.content)

abbrev edges_of : Effect → ℕ → (Outcome → ℕ) → State PadHistory → List Edge
edges_of e words clocks s = let d = result_of e words clocks s in
    edges_at (s.clock + d.clocks) (kinds_of e words clocks s ++ (if d.returned then LeaveEdge ∷ [] else []))

abbrev pub plan_of : Head → ℕ → FinMap nat_cmp ℕ → Effect → ℕ → (Outcome → ℕ) → Instance → Option EventKind → Step
plan_of head length image e words clocks inst emitted = record {
  draft = draft_of head length image e words clocks inst;
  exits = record { items = all_exits image e words clocks inst };
  emit = emitted;
  back = returns_from_interrupt e;
  clears = clears_flag e inst;
  test = test_of head e inst;
}

-- what the loads give, and the data space behind them
abbrev pub loads_of : Effect → (Outcome → ℕ) → State PadHistory → List ℕ
loads_of e clocks s = loaded_bytes (space_loads history_wiring) s.core (sample_clock e clocks) s.space (load_addresses e s.core)

abbrev pub content_of : Effect → (Outcome → ℕ) → State PadHistory → Space PadHistory
content_of e clocks s = content_after_loads (space_loads history_wiring) (sample_clock e clocks) s.space (load_addresses e s.core)

abbrev pub outcome_at : Effect → ℕ → (Outcome → ℕ) → State PadHistory → Outcome
outcome_at e words clocks s = outcome_of e s.image words (loads_of e clocks s) s.core

abbrev pub exit_at : Effect → ℕ → (Outcome → ℕ) → State PadHistory → Exit
exit_at e words clocks s = record {
  pc = next_pc e (outcome_at e words clocks s) words (loads_of e clocks s) s.core;
  clocks = clocks (outcome_at e words clocks s);
}

-- the timer's part: what a load of TCNT1L gives, and the timer after the instruction
pub record TimePart (lines : Lines) (head : Head) (inst : Instance) (s : State PadHistory) (e : Effect) (words : ℕ) (clocks : Outcome → ℕ)
    (event : Option EventKind) : Type 0 where
  pub tcnt : is_handler inst.kind ≡ true → byte_at history_wiring (space_after (sample_clock e clocks) s.space) 0x84 ≡ sampled_of
      (lines.length inst.line) e clocks inst % 256
  pub timer : TimerMeets inst.kind (successor lines inst (plan_of head (lines.length inst.line) s.image e words clocks inst event)
      (exit_at e words clocks s)) (state_of e words clocks s).space.timer
  pub ticks : TimerCounts inst.kind (state_of e words clocks s).space.timer
  pub below : is_handler inst.kind ≡ true → (state_of e words clocks s).space.timer.count ≤ (state_of e words clocks s).space.timer.top

-- and beside it the level, the events and main's own part
pub record KindPart (lines : Lines) (head : Head) (inst : Instance) (s : State PadHistory) (e : Effect) (words : ℕ) (clocks : Outcome → ℕ)
    (event : Option EventKind) : Type 0 where
  pub timed : TimePart lines head inst s e words clocks event
  pub level : (n : ℕ) → n ≡ level_after event (sync_level s.space) → LevelMeets inst.kind
      (if is_main inst.kind then inst.level else level_after event (inst.level % 2)) n
  pub runs : (n : ℕ) → n ≡ level_after event (sync_level s.space) → n ≡ sync_level (state_of e words clocks s).space → MainTimer inst.kind
      (clocks (outcome_at e words clocks s)) s (state_of e words clocks s)
  pub silent : is_main inst.kind ≡ true → event ≡ None
  pub emits : emission_at (sync_level s.space) e inst ≡ Some event

effect_step : (head : Head) (lines : Lines) (inst : Instance) (o : Core) (d : ℕ) (s : State PadHistory) (e : Effect) (words : ℕ)
    (clocks : Outcome → ℕ) (event : Option EventKind) → EffectFits e → Before head inst o d s.core s.space → Meets head inst o d s
    → KindPart lines head inst s e words clocks event → AllByRecursion IsByte (state_of e words clocks s).core.registers
    → returns_from_interrupt e ≡ false → fail_of head e inst ≡ None → (1 ≤ clocks (outcome_at e words clocks s))
    × (clocks (outcome_at e words clocks s) ≤ 4) → TellsAway e clocks → IsCore (state_of e words clocks s).core
    → OneStep head lines inst o d (plan_of head (lines.length inst.line) s.image e words clocks inst event) s (edges_of e words clocks s)
    (state_of e words clocks s)
effect_step head lines inst o d s e words clocks event fits b m k bytes stays fine time tells is_core =
    let following : following_of words inst ≡ following_pc words s.core = ap (λ n. (n + words) % 32768) (sym m.pc) in
    let plan : Step = plan_of head (lines.length inst.line) s.image e words clocks inst event in
    let parts = parts_of history_wiring head s.image (following_of words inst) (sampled_of (lines.length inst.line) e clocks inst) words
    (sample_clock e clocks) (clocks (outcome_at e words clocks s)) d inst o s.core s.space b e event fits bytes following k.timed.tcnt stays
    fine k.emits in
    let content = content_bytes history_wiring (sample_clock e clocks) s.space (load_addresses e s.core) in
    let before : sync_level (space_after (clocks (outcome_at e words clocks s)) (content_of e clocks s)) ≡ sync_level s.space = ap
    (λ xs. slice_index xs 0x25 % 2) content in
    let same : kinds_of e words clocks s ++ (if returns_from_interrupt e then LeaveEdge ∷ [] else []) ≡ kinds_of e words clocks s =
    ap (λ t. kinds_of e words clocks s ++ (if t then LeaveEdge ∷ [] else [])) stays ∙ append-nil (kinds_of e words clocks s) in
    record {
      exit = exit_at e words clocks s;
      is_exit = exit_holds history_wiring e head s.image clocks words (following_of words inst) (sample_clock e clocks) d inst o s.core
          s.space fits b following stays fine (outcome_at e words clocks s) refl;
      meets = exit_meets head inst e s.image words clocks (loads_of e clocks s) s.core o d (exit_at e words clocks s)
          (successor lines inst plan (exit_at e words clocks s))
          (state_of e words clocks s) fits (record { tells = tells; goes = refl; registers = refl; sreg = refl }) is_core (record {
            pc = refl;
            enabled = parts.enabled;
            core = core_same (transfer head s.image (following_of words inst) (sampled_of (lines.length inst.line) e clocks inst) e inst)
                (successor lines inst (plan_of head (lines.length inst.line) s.image e words clocks inst event)
                (exit_at e words clocks s)) o
                (changed_core e s.image words (loads_of e clocks s) s.core) (state_of e words clocks s).core refl refl refl refl
                refl parts.core_meets;
            compared = compared_same (compared_after head e inst) (changed_core e s.image words (loads_of e clocks s) s.core)
                (state_of e words clocks s).core refl refl
                (compared_holds (sync_level s.space) head s.image words (loads_of e clocks s) inst o s.core event b.fits b.is_core
                b.meets m.compared e fits fine k.emits);
            memory = memory_same head (transfer head s.image (following_of words inst) (sampled_of (lines.length inst.line) e clocks inst) e
                inst) (successor lines inst (plan_of head (lines.length inst.line) s.image e words clocks inst event)
                (exit_at e words clocks s)) o d _ (state_of e words clocks s).core.sp _ (state_of e words clocks s).space.bytes
                (draft_kind e head s.image (following_of words inst) (sampled_of (lines.length inst.line) e clocks inst) inst) refl refl refl
                refl parts.leads.memory;
            timer = k.timed.timer;
            ticks = k.timed.ticks;
            level = k.level (sync_level (state_of e words clocks s).space) (parts.leads.shows.level ∙ ap (level_after event) before);
            response = m.response;
          });
      asks = asks_none head e inst;
      events = ap (λ ks. shown (edges_at (s.clock + clocks (outcome_at e words clocks s)) ks)) same
          ∙ edges_shown (s.clock + clocks (outcome_at e words clocks s)) (kinds_of e words clocks s)
          ∙ ap (λ ks. map (λ k. record { clock = s.clock + clocks (outcome_at e words clocks s); kind = k }) ks) parts.leads.shows.events
          ∙ listed_shown (s.clock + clocks (outcome_at e words clocks s)) event;
      no_entry = subst (λ ks. AllByRecursion (λ (e : Edge). IsNoEntry e.kind) (edges_at (s.clock + clocks (outcome_at e words clocks s))
          ks)) (sym same) (edges_calm (s.clock + clocks (outcome_at e words clocks s)) (kinds_of e words clocks s) parts.leads.shows.calm);
      clock = refl;
      at_least_one = time.0;
      at_most_four = time.1;
      settled = owes_none head inst e fine stays;
      untouched = subst (λ xs. Untouched head inst.kind (s.core.sp + depth_of inst) xs (state_of e words clocks s).space.bytes) content
          (stores_leave history_wiring e head words d inst o s.core s.space (space_after (clocks (outcome_at e words clocks s))
          (content_of e clocks s)) (ap length content ∙ b.size) fits b fine);
      silent = k.silent;
      main_timer = k.runs (sync_level (state_of e words clocks s).space) (parts.leads.shows.level ∙ ap (level_after event) before) refl;
      below_top = k.timed.below;
    }

-- The turn

no_entry : (a b c : Bool) → b ≡ false → (a && b && c) ≡ false
no_entry true true c e = absurd cc
no_entry true false c e = refl
no_entry false b c e = refl

-- the row that is read, and what it tells
record ReadsAs (head : Head) (lines : Lines) (image : FinMap nat_cmp ℕ) (inst : Instance) (step : Step) : Type 0 where
  row : Instr
  reads : Reads (word_of image (inst.pc % 32768)) (word_of image ((inst.pc + 1) % 32768)) row
  event : Option EventKind
  fine : fail_of head (effect_of row) inst ≡ None
  emits : emission (effect_of row) inst ≡ Some event
  time : clock_holds lines (effect_of row) inst (all_exits image (effect_of row) (words_of row) (clocks_of row) inst) ≡ true
  is : step ≡ plan_of head (lines.length inst.line) image (effect_of row) (words_of row) (clocks_of row) inst event

reads_as : (head : Head) (lines : Lines) (image : FinMap nat_cmp ℕ) (inst : Instance) (step : Step) (row : Option Instr) → IsReadAt image
    inst.pc row → Ok step ≡ step_of_row head lines image row inst → ReadsAs head lines image inst step
reads_as head lines image inst step None reads e = absurd cc
reads_as head lines image inst step (Some i) reads e =
    let told = step_tells (fail_of head (effect_of i) inst) (emission (effect_of i) inst)
    (clock_holds lines (effect_of i) inst (all_exits image (effect_of i) (words_of i) (clocks_of i) inst))
    (plan_of head (lines.length inst.line) image (effect_of i) (words_of i) (clocks_of i) inst None) step (sym e) in
    record { row = i; reads = reads.found; event = told.event; fine = told.fine; emits = told.emits; time = told.time; is = told.is }

runs_outside : (k : Kind) (c : ℕ) (old new : State PadHistory) → is_main k ≡ false → MainTimer k c old new
runs_outside Main c old new e = absurd cc
runs_outside k c old new e = tt

level_meets : (k : Kind) (old new n : ℕ) → is_main k ≡ false → n ≡ new → LevelMeets k (if is_main k then old else new) n
level_meets Main old new n e q = absurd cc
level_meets k old new n e q = q

level_of : (k : Kind) (level sync : ℕ) → is_main k ≡ false → LevelMeets k level sync → sync ≡ level
level_of Main level sync e h = absurd cc
level_of k level sync e h = h

own_bit : (byte level : ℕ) → byte % 2 ≡ level → byte % 2 ≡ level % 2
own_bit byte level e = omega (arith, e)

-- outside main no interrupt is taken
pub any_contained : (head : Head) (lines : Lines) (image : FinMap nat_cmp ℕ) (inst : Instance) (o : Core) (d : ℕ) (step : Step)
    (s : State PadHistory) → is_entry s ≡ false → InstructionBegins head lines image inst o d step s
    → ((i : Instr) (event : Option EventKind) → Reads (word_of image (inst.pc % 32768)) (word_of image ((inst.pc + 1) % 32768)) i
    → fail_of head (effect_of i) inst ≡ None → emission (effect_of i) inst ≡ Some event → returns_from_interrupt (effect_of i) ≡ false
    → clock_holds lines (effect_of i) inst (all_exits image (effect_of i) (words_of i) (clocks_of i) inst) ≡ true
    → (clocks_of i (outcome_at (effect_of i) (words_of i) (clocks_of i) s) ≤ 4) → KindPart lines head inst s (effect_of i) (words_of i)
    (clocks_of i) event)
    → Contained head lines inst o d step s
any_contained head lines image inst o d step s enters h part =
    let r = reads_as head lines image inst step h.step_is.row h.step_is.reads h.step_is.is in
    let stays : returns_from_interrupt (effect_of r.row) ≡ false = subst (λ (x : Step). x.back ≡ false) r.is h.no_return in
    let pc : s.core.pc ≡ inst.pc % 32768 = omega (arith, h.meets.pc, h.is_state.core.pc) in
    let reads : Reads (word_of s.image s.core.pc) (word_of s.image ((s.core.pc + 1) % 32768)) r.row =
    subst (λ (m : FinMap nat_cmp ℕ). Reads (word_of m s.core.pc) (word_of m ((s.core.pc + 1) % 32768)) r.row) (sym h.flash)
    (subst (λ n. Reads (word_of image s.core.pc) (word_of image ((n + 1) % 32768)) r.row) (sym h.meets.pc)
    (subst (λ n. Reads (word_of image n) (word_of image ((inst.pc + 1) % 32768)) r.row) (sym pc) r.reads)) in
    let runs : effect_of r.row ≢ Stop = (λ q. let f : fail_of head Stop inst ≡ None = subst (λ e. fail_of head e inst ≡ None) q r.fine in
    cc) in
    record {
      has_turn = (
        instruction_edges history_wiring r.row s,
        after_instruction history_wiring r.row s,
        inr (record { enters = enters; row = r.row; reads = reads; runs = runs; goes_to = refl; emits = refl }),
      );
      each_turn = λ edges new turn. each_turn edges new turn r stays enters reads;
    }
  where
    each_turn : (edges : List Edge) (new : State PadHistory) → Turn history_wiring s edges new → (r : ReadsAs head lines image inst step)
        → returns_from_interrupt (effect_of r.row) ≡ false → is_entry s ≡ false
        → Reads (word_of s.image s.core.pc) (word_of s.image ((s.core.pc + 1) % 32768)) r.row → OneStep head lines inst o d step s edges new
    each_turn edges new (inl turn) r stays enters reads = let yes : is_entry s ≡ true = turn.enters in absurd cc
    each_turn edges new (inr turn) r stays enters reads =
        let same : turn.row ≡ r.row = unique _ turn.row r.row turn.reads reads in
        let goes : new ≡ after_instruction history_wiring r.row s = turn.goes_to ∙ ap (λ j. after_instruction history_wiring j s) same in
        let seen : edges ≡ instruction_edges history_wiring r.row s = turn.emits ∙ ap (λ j. instruction_edges history_wiring j s) same in
        let after : IsState (after_instruction history_wiring r.row s) = subst IsState goes
        (state_kept s new edges (inr turn) h.is_state) in
        let b = alone_before head inst o d s h.head_fits h.depth h.fits h.is_state h.meets in
        let time = in_four (stops (effect_of r.row)) _ (goes_on_stop head inst (effect_of r.row) r.fine)
        (clocks_within r.row (outcome_at (effect_of r.row) (words_of r.row) (clocks_of r.row) s)) in
        let one : OneStep head lines inst o d (plan_of head (lines.length inst.line) s.image (effect_of r.row) (words_of r.row)
        (clocks_of r.row) inst r.event) s (instruction_edges history_wiring r.row s) (after_instruction history_wiring r.row s) =
        let k = part r.row r.event r.reads r.fine r.emits stays r.time time.1 in
        effect_step head lines inst o d s (effect_of r.row) (words_of r.row) (clocks_of r.row) r.event (effect_fits r.row) b h.meets
        k after.core.registers stays r.fine time (row_tells r.row) after.core in
        let plan : plan_of head (lines.length inst.line) s.image (effect_of r.row) (words_of r.row) (clocks_of r.row) inst r.event ≡ step =
        ap (λ (m : FinMap nat_cmp ℕ). plan_of head (lines.length inst.line) m (effect_of r.row) (words_of r.row) (clocks_of r.row) inst
        r.event) h.flash ∙ sym r.is in
        subst (λ x. OneStep head lines inst o d x s edges new) plan
        (subst (λ es. OneStep head lines inst o d (plan_of head (lines.length inst.line) s.image (effect_of r.row) (words_of r.row)
        (clocks_of r.row) inst r.event) s es new) (sym seen)
        (subst (λ n. OneStep head lines inst o d (plan_of head (lines.length inst.line) s.image (effect_of r.row) (words_of r.row)
        (clocks_of r.row) inst r.event) s (instruction_edges history_wiring r.row s) n) (sym goes) one))

pub outside_contained : (head : Head) (lines : Lines) (image : FinMap nat_cmp ℕ) (inst : Instance) (o : Core) (d : ℕ) (step : Step)
    (s : State PadHistory) → is_main inst.kind ≡ false → InstructionBegins head lines image inst o d step s
    → ((i : Instr) (event : Option EventKind) → fail_of head (effect_of i) inst ≡ None → returns_from_interrupt (effect_of i) ≡ false
    → clock_holds lines (effect_of i) inst (all_exits image (effect_of i) (words_of i) (clocks_of i) inst) ≡ true
    → (clocks_of i (outcome_at (effect_of i) (words_of i) (clocks_of i) s) ≤ 4) → TimePart lines head inst s (effect_of i) (words_of i)
    (clocks_of i) event)
    → Contained head lines inst o d step s
outside_contained head lines image inst o d step s out h part =
    let off : bit_is_set s.core.sreg 7 ≡ false = h.meets.enabled ∙ out in
    let enters : is_entry s ≡ false = no_entry (is_due s.space.timer) (bit_is_set s.core.sreg 7) (not s.is_owed) off in
    let level : sync_level s.space ≡ inst.level % 2 = own_bit (slice_index s.space.bytes 0x25) inst.level
    (level_of inst.kind inst.level (sync_level s.space) out h.meets.level) in
    any_contained head lines image inst o d step s enters h (λ i event reads fine emits back in_time few.
    record {
      timed = part i event fine back in_time few;
      level = λ n q. level_meets inst.kind inst.level (level_after event (inst.level % 2)) n out (q ∙ ap (level_after event) level);
      runs = λ n q r. runs_outside inst.kind _ s _ out;
      silent = λ m. absurd cc;
      emits = ap (λ l. emission_at l (effect_of i) inst) level ∙ emits;
    })

pub alone_contained : AloneContained
alone_contained head lines image inst o d step s kind h =
    outside_contained head lines image inst o d step s (ap is_main kind) h (λ i event fine back in_time few. record {
      tcnt = λ t. (let z : is_handler inst.kind ≡ false = ap is_handler kind in absurd cc);
      timer = subst (λ k. TimerMeets k (successor lines inst (plan_of head (lines.length inst.line) s.image (effect_of i) (words_of i)
          (clocks_of i) inst event) (exit_at (effect_of i) (words_of i) (clocks_of i) s)) (state_of (effect_of i) (words_of i) (clocks_of i)
          s).space.timer) (sym kind) tt;
      ticks = subst (λ k. TimerCounts k (state_of (effect_of i) (words_of i) (clocks_of i) s).space.timer) (sym kind) tt;
      below = λ t. (let z : is_handler inst.kind ≡ false = ap is_handler kind in absurd cc);
    })

-- An instruction of main

silent_store : (level : ℕ) (a : Ends) (v : Val)
    → (is_single a && (nat_eq a.lo 0x23 || (nat_eq a.lo 0x25 || (nat_eq a.lo 0x26 || (nat_eq a.lo 0x28 || nat_eq a.lo 0xB3))))) ≡ false
    → (if is_single a then byte_event level v a.lo else Some None) ≡ Some None
silent_store level a v e = by_case (is_single a) e
  where
    by_case : (t : Bool) → (t && (nat_eq a.lo 0x23 || (nat_eq a.lo 0x25 || (nat_eq a.lo 0x26 || (nat_eq a.lo 0x28 || nat_eq a.lo 0xB3)))))
        ≡ false → (if t then byte_event level v a.lo else Some None) ≡ Some None
    by_case true e = silent_byte level a.lo v e
    by_case false e = refl

silent_bit : (level at b : ℕ) (set : Bool)
    → (nat_eq at 0x28 || ((nat_eq at 0x26 && set) || (nat_eq b 0 && ((nat_eq at 0x23 && set) || nat_eq at 0x25)))) ≡ false → bit_event level
    b set at ≡ Some None
silent_bit level at b set e = by_case (nat_eq at 0x23) (nat_eq at 0x25) (nat_eq at 0x26) (nat_eq at 0x28) (nat_eq b 0) set e
  where
    by_case : (p q r t z u : Bool) → (t || ((r && u) || (z && ((p && u) || q)))) ≡ false
        → (if p then (if z && u then Some (Some (Sync (1 - level))) else Some None) else if q then
        (if z then level_event level (bit_of_bool u) else Some None) else if r then (if u then Some (Some Pixel) else Some None) else if
        t then Some (Some Pixel) else Some None) ≡ Some None
    by_case p q r true z u e = absurd cc
    by_case p q true false z true e = absurd cc
    by_case true q false false true true e = absurd cc
    by_case true q false false true false e = refl
    by_case true q r false false true e = refl
    by_case true q r false z false e = no_set z
      where
        no_set : (z : Bool) → (if z && false then Some (Some (Sync (1 - level))) else Some None) ≡ Some None
        no_set true = refl
        no_set false = refl
    by_case false true false false true u e = absurd cc
    by_case false true true false true false e = absurd cc
    by_case false true r false false u e = refl
    by_case false false true false z false e = refl
    by_case false false false false z u e = refl

silent_emission : (level : ℕ) (e : Effect) (inst : Instance) → returns_from_interrupt e ≡ false → main_emits e inst ≡ false
    → emission_at level e inst ≡ Some None
silent_emission level (Store to r) inst back h = silent_store level (address_range to inst) (value_at inst.regs r) h
silent_emission level (WriteIoBit at b set) inst back h = silent_bit level at b set h
silent_emission level (Return true) inst back h = absurd cc
silent_emission level e inst back h = refl

flag_clears : (t a b u m : Bool) → m ≡ true → (t && (a && (m || b))) ≡ false → (t && (a && u)) ≡ false
flag_clears true true b u true e f = absurd cc
flag_clears true false b u true e f = refl
flag_clears false a b u m e f = refl
flag_clears t a b u false e f = absurd cc

bit_clears : (a u m c : Bool) → m ≡ true → (a && (u && m)) ≡ false → (a && (c && u)) ≡ false
bit_clears true true true c e f = absurd cc
bit_clears true false true true e f = refl
bit_clears true false true false e f = refl
bit_clears false u m c e f = refl
bit_clears a u false c e f = absurd cc

-- main doesn't store TIFR1
main_clears : (e : Effect) (head : Head) (inst : Instance) → is_main inst.kind ≡ true → fail_of head e inst ≡ None → clears_flag e
    inst ≡ false
main_clears (Store to r) head inst m f = flag_clears (is_single (address_range to inst)) (nat_eq (address_range to inst).lo 0x36) _ _
    (is_main inst.kind) m (facts_of head inst to r f).flag
main_clears (WriteIoBit at b set) head inst m f = bit_clears (nat_eq at 0x36) set (is_main inst.kind) (nat_eq b 1) m (unless_none _ _ _ f).0
main_clears e head inst m f = refl

main_part : (head : Head) (lines : Lines) (inst : Instance) (o : Core) (d : ℕ) (s : State PadHistory) (e : Effect) (words : ℕ)
    (clocks : Outcome → ℕ) (event : Option EventKind) → inst.kind ≡ Main → EffectFits e → Before head inst o d s.core s.space
    → Meets head inst o d s
    → fail_of head e inst ≡ None → emission e inst ≡ Some event → returns_from_interrupt e ≡ false → main_emits e inst ≡ false
    → KindPart lines head inst s e words clocks event
main_part head lines inst o d s e words clocks event kind fits b m fine emits back silent =
    let ticks : (is_counting s.space.timer ≡ true) × (bit_is_set s.space.timer.interrupt_mask 1 ≡ true) =
    subst (λ k. TimerCounts k s.space.timer) kind m.ticks in
    let loaded = loads_beside history_wiring (sample_clock e clocks) s.space (load_addresses e s.core) in
    let counting : is_counting (content_of e clocks s).timer ≡ true =
    ap (λ n. n % 32 == 9 && (content_of e clocks s).timer.control_a % 4 == 0) loaded.control_b
    ∙ (ap (λ n. s.space.timer.control_b % 32 == 9 && n % 4 == 0) loaded.control_a ∙ ticks.0) in
    let on = later (clocks (outcome_at e words clocks s)) (content_of e clocks s).timer counting in
    let main : is_main inst.kind ≡ true = ap is_main kind in
    let stored = stores_beside history_wiring e head words d inst o s.core s.space (space_after (clocks (outcome_at e words clocks s))
    (content_of e clocks s)) fits (ap (λ k. is_main k || is_handler k) kind) b fine in
    let keeps : clears_flag e inst ≡ false = main_clears e head inst main fine in
    let stays = top_stays e head d inst o s.core s.space (timer_after (clocks (outcome_at e words clocks s))
    (content_of e clocks s).timer) fits (ap is_handler kind) b fine in
    let nothing : event ≡ None = (let z = silent_emission (inst.level % 2) e inst back silent in let y : Some event ≡ Some None = sym emits
    ∙ z in cc) in
    record {
      timed = record {
        tcnt = λ t. (let z : is_handler inst.kind ≡ false = ap is_handler kind in absurd cc);
        below = λ t. (let z : is_handler inst.kind ≡ false = ap is_handler kind in absurd cc);
        timer = subst (λ k. TimerMeets k (successor lines inst (plan_of head (lines.length inst.line) s.image e words clocks inst event)
            (exit_at e words clocks s)) (state_of e words clocks s).space.timer) (sym kind) tt;
        ticks = subst (λ k. TimerCounts k (state_of e words clocks s).space.timer) (sym kind) (
          ap (λ n. n % 32 == 9 && (state_of e words clocks s).space.timer.control_a % 4 == 0)
              (stored.control_b ∙ (on.control_b ∙ loaded.control_b))
              ∙ (ap (λ n. s.space.timer.control_b % 32 == 9 && n % 4 == 0) (stored.control_a ∙ (on.control_a ∙ loaded.control_a))
              ∙ ticks.0),
          ap (λ n. bit_is_set n 1) (stored.mask ∙ (on.mask ∙ loaded.mask)) ∙ ticks.1,
        );
      };
      level = λ n q. subst (λ k. LevelMeets k (if is_main k then inst.level else level_after event (inst.level % 2)) n) (sym kind) tt;
      runs = λ n q r. subst (λ k. MainTimer k (clocks (outcome_at e words clocks s)) s (state_of e words clocks s)) (sym kind) (
        sym r ∙ (q ∙ ap (λ x. level_after x (sync_level s.space)) nothing),
        stored.top ∙ (stays ∙ (on.top ∙ loaded.top)),
        stored.count ∙ (on.count ∙ (ap (λ n. count_after n (content_of e clocks s).timer.top (clocks (outcome_at e words clocks s)))
            loaded.count
            ∙ ap (λ n. count_after s.space.timer.count n (clocks (outcome_at e words clocks s))) loaded.top)),
        stored.matched ∙ (ap (λ x. not x
            && (timer_after (clocks (outcome_at e words clocks s)) (content_of e clocks s).timer).matched) keeps
            ∙ (on.matched ∙ (ap (λ x. x || matches_within (content_of e clocks s).timer.count (content_of e clocks s).timer.top
            (clocks (outcome_at e words clocks s))) loaded.matched
            ∙ (ap (λ n. s.space.timer.matched || matches_within n (content_of e clocks s).timer.top
            (clocks (outcome_at e words clocks s))) loaded.count
            ∙ ap (λ n. s.space.timer.matched || matches_within s.space.timer.count n (clocks (outcome_at e words clocks s))) loaded.top)))),
      );
      silent = λ m. nothing;
      emits = silent_emission (sync_level s.space) e inst back silent ∙ ap (λ x. Some x) (sym nothing);
    }

pub main_contained : MainContained
main_contained head lines image inst o d step s kind enters silent h =
    any_contained head lines image inst o d step s enters h (λ i event reads fine emits back in_time few.
    main_part head lines inst o d s (effect_of i) (words_of i) (clocks_of i) event kind (effect_fits i)
    (alone_before head inst o d s h.head_fits h.depth h.fits h.is_state h.meets) h.meets fine emits back (silent i reads))

-- By the rules of version 2
pub version_two_stays : VersionTwoStays
version_two_stays head lines image inst step two s =
    let r = reads_as head lines image inst step s.row s.reads s.is in (
      ap (λ (x : Step). x.draft.compared) r.is
          ∙ ap (λ v. if is_three v && is_main inst.kind then told_after (effect_of r.row) inst else Nothing) two,
      ap (λ (x : Step). x.test) r.is ∙ two_asks_none head (effect_of r.row) inst two,
    )

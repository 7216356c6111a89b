-- The turn that is the handler's RETI.
use Rattle.uz_check.proofs.Common.{Meets, Schedule, List, [], ◌∷◌, ◌≡◌, inl, Contains, ℕ, zero, suc, ◌+◌, ◌-◌, ◌*◌, ◌/◌, ◌%◌, ◌<◌, ◌≤◌}
use Rattle.uz_check.proofs.Common.{true, false, length, refl, sym, ◌∙◌, ap, subst, arith, Some, ◌||◌, slice_index, nat_cmp, FinMap, All-nil}
use Rattle.uz_check.proofs.Common.{All-cons, Main, Handler, Head, Instance, Cert, At, length_of, event_at, level_at, Reti, bit_is_set, Edge}
use Rattle.uz_check.proofs.Common.{Core, register, pair, timer_after, PadHistory, history_wiring, State, sync_level, after_instruction}
use Rattle.uz_check.proofs.Common.{instruction_edges, IsState, IsWithin, Exit, Step, value_at, flag_at, pair_at, span_at, ValueHolds}
use Rattle.uz_check.proofs.Common.{FlagHolds, CoreMeets, CellsHold, depth_below, cell_place, is_main, is_handler, depth_of, shown_at}
use Rattle.uz_check.proofs.Common.{listed, successor, ends_line, line_after, clock_after, TimerMeets, TimerCounts, LevelMeets, scheduled}
use Rattle.uz_check.proofs.Common.{InTime, order_of, frame_some, position_of, RunsMain, RunsHandler, HandlerRuns, pushed, at_more, at_same}
use Rattle.uz_check.proofs.Common.{at_after, Leave as LeaveEdge}
use Rattle.uz_check.proofs.Restored.{GivenBack, given_back}
use Rattle.uz_check.proofs.Fits.{IsPlaced}
use Rattle.uz_check.proofs.Premises.{Turned, EdgeHolds, Returns, LocalHolds, Premises}
use Rattle.uz_schedule.specs.declared.lines.EventKind.TheVariants.{Leave}
use Rattle.uz_rules.proofs.ComparedLaws.{compared_stays}
use Rattle.uz_check.proofs.Timer.{timer_keeps_top, timer_keeps_mask, counting_kept}
use Rattle.uz_check.proofs.Timing.{on_time, timed}
use Rattle.uz_check.proofs.Ram.{pushed_high, pushed_low, pushed_off, set_seven, set_others}
use Rattle.uz_check.proofs.ReturnTurn.{returned, return_is}
use Rattle.uz_check.proofs.Quiet.{scheduled_mod, level_along, last_in}
use Rattle.uz_check.proofs.Fitting.{is_placed, main_slots, room_below, line_long, cells_widen}
use Rattle.uz_check.proofs.Cells.{mains_alone, head_fits, off_pushed}
use Rattle.uz_check.proofs.Returns.{return_exit, IsReturn, return_tells}

-- the two bytes are the interrupted pc's
popped : (head : Head) (was s : State PadHistory) (n : ℕ) → was.core.sp + n ≡ head.hi → 1 ≤ was.core.sp → was.core.sp < length
    was.space.bytes → s.core.sp + 2 ≡ was.core.sp → was.core.pc < 32768
    → ((a : ℕ) → head.hi < a + (n + 2) → a ≤ head.hi → slice_index s.space.bytes a ≡ slice_index (pushed was) a)
    → (slice_index s.space.bytes (s.core.sp + 2) + 256 * slice_index s.space.bytes (s.core.sp + 1)) % 32768 ≡ was.core.pc
popped head was s n top some within sp small kept =
    let at_high : s.core.sp + 1 ≡ was.core.sp - 1 = omega (arith, sp) in
    let high : slice_index s.space.bytes (s.core.sp + 1) ≡ was.core.pc / 256 = kept (s.core.sp + 1) (omega (arith, sp, top))
    (omega (arith, sp, top)) ∙ (ap (slice_index (pushed was)) at_high ∙ pushed_high was (omega (arith, within, some))) in
    let low : slice_index s.space.bytes (s.core.sp + 2) ≡ was.core.pc % 256 = kept (s.core.sp + 2) (omega (arith, sp, top))
    (omega (arith, sp, top)) ∙ (ap (slice_index (pushed was)) sp ∙ pushed_low was some within) in
    omega (arith, high, low, small)

-- a core with the same registers and flags meets the same
core_same : (inst : Instance) (o was core : Core) → ((r : ℕ) → r < 32 → register core r ≡ register was r)
    → ((k : ℕ) → k < 7 → bit_is_set core.sreg k ≡ bit_is_set was.sreg k) → CoreMeets inst o was → CoreMeets inst o core
core_same inst o was core registers flags h = record {
  regs = λ r few. subst (ValueHolds (value_at inst.regs r) o) (sym (registers r few)) (h.regs r few);
  pairs = λ k few.
      let low = registers (26 + 2 * k) (omega (arith, few)) in
      let high = registers (26 + 2 * k + 1) (omega (arith, few)) in
      let same : pair core (26 + 2 * k) ≡ pair was (26 + 2 * k) = omega (arith, low, high) in
      subst (λ v. IsWithin v (pair_at inst.pairs k)) (sym same) (h.pairs k few);
  flags = λ k few. subst (FlagHolds (flag_at inst.flags k) (bit_is_set o.sreg k)) (sym (flags k few)) (h.flags k few);
}

abbrev leave_edge : State PadHistory → List Edge
leave_edge s = record { clock = s.clock + 4; kind = LeaveEdge } ∷ []

-- RETI's end as the rules place it
record Placed (cert : Cert) (inst : Instance) (step : Step) (exit : Exit) (s : State PadHistory) : Type 0 where
  line : (successor (order_of cert.schedule) inst step exit).line ≡ line_after (order_of cert.schedule) inst.line (inst.clock + 4)
  clock : (successor (order_of cert.schedule) inst step exit).clock ≡ clock_after (order_of cert.schedule) inst.line (inst.clock + 4)
  pending : (successor (order_of cert.schedule) inst step exit).pending ≡ (inst.pending || ends_line (order_of cert.schedule) inst.line
      (inst.clock + 4))
  four : exit.clocks ≡ 4

one_exit : (exits : List Exit) (e only : Exit) → exits ≡ only ∷ [] → Contains exits e → only ≡ e
one_exit exits e only is has = by_place (subst (λ xs. Contains xs e) is has)
  where
    by_place : Contains (only ∷ []) e → only ≡ e
    by_place (zero, below, found) = found
    by_place (suc i, below, found) = absurd (omega (arith, below))

placed_back : (cert : Cert) (inst : Instance) (step : Step) (exit : Exit) (s : State PadHistory) → inst.kind ≡ Handler → step.clears ≡ false
    → exit.clocks ≡ 4 → Placed cert inst step exit s
placed_back cert inst step exit s kind clears four =
    let main : is_main inst.kind ≡ false = ap is_main kind in
    let handler : is_handler inst.kind ≡ true = ap is_handler kind in
    record {
      line = rw (main, four) refl;
      clock = rw (main, four) refl;
      pending = rw (handler, clears, four) refl;
      four = four;
    }

module _ (image : FinMap nat_cmp ℕ) (cert : Cert) (p : ℕ) (s : State PadHistory) (inst main : Instance) (o : Core) (was : State PadHistory)
    (local : LocalHolds image cert inst) (h : Premises image cert) (flash : s.image ≡ image)
    (level : level_at cert.schedule p ≡ Some (sync_level s.space)) (runs : HandlerRuns cert p s inst main o was)
    (back : Returns cert inst local.step) where
  abbrev z : Schedule
  z = cert.schedule

  abbrev r : Instance
  r = successor (order_of z) inst local.step back.exit

  meets : Meets cert.head inst was.core (depth_of main) s
  meets = runs.stands.meets

  main_fits : IsPlaced cert main
  main_fits = is_placed cert h.limits runs.main_stands.id runs.main_stands.l runs.main_stands.c main runs.main_stands.is

  depth : depth_of main ≤ cert.head.main
  depth = main_slots cert main main_fits runs.main_stands.of_kind

  stack_of : depth_of inst ≡ 0 → s.core.sp + (depth_of main + 2) ≡ cert.head.hi
  stack_of empty =
      omega (
        arith,
        empty,
        subst (λ k. s.core.sp + depth_of inst + depth_below k (depth_of main) ≡ cert.head.hi) runs.stands.of_kind
            runs.stands.meets.memory.depth,
      )

  given_of : IsReturn (order_of z) image inst local.step → GivenBack r was.core s.core
  given_of reti = given_back r was.core s.core back.restored
      (subst (λ d. CoreMeets (record r { regs = d.regs; pairs = d.pairs; flags = d.flags }) was.core s.core) (sym reti.draft)
      (record { regs = meets.core.regs; pairs = meets.core.pairs; flags = meets.core.flags }))

  returned_follows : IsState (returned s) → IsReturn (order_of z) image inst local.step → depth_of inst ≡ 0
      → Turned image cert p s (RunsHandler inst main o was) (leave_edge s) (returned s)
  returned_follows then_state reti empty =
      let fits = is_placed cert h.limits runs.stands.id runs.stands.l runs.stands.c inst runs.stands.is in
      let kind = runs.stands.of_kind in
      let only = one_exit local.step.exits.items back.exit (return_exit inst) reti.exits back.is_exit in
      let end = placed_back cert inst local.step back.exit s kind reti.clears (sym (ap (λ (x : Exit). x.clocks) only)) in
      let t = s.space.timer in
      let ticks : TimerCounts Handler t = subst (λ k. TimerCounts k t) kind meets.ticks in
      let timer : TimerMeets Handler inst t = subst (λ k. TimerMeets k inst t) kind meets.timer in
      let long = line_long z inst.line h.limits.schedule fits.line in
      let time = timed z inst t 4 ticks.0 timer (on_time (order_of z) inst (return_exit inst) reti.time.keeps) fits.clock
      (omega (arith, long)) in
      let count : (timer_after 4 t).count ≡ r.clock = time.count ∙ sym end.clock in
      let given = given_of reti in
      let clear : (timer_after 4 t).matched ≡ false = time.matched ∙ (sym end.pending ∙ given.pending) in
      let d = depth_of main in
      let stack = stack_of empty in
      let sp : s.core.sp + 2 ≡ was.core.sp = omega (arith, stack, runs.kept.sp) in
      let low : cert.head.lo < was.core.sp = omega (arith, runs.kept.sp, depth, room_below cert.head h.limits.head) in
      let pc : (returned s).core.pc ≡ was.core.pc = popped cert.head was s d runs.kept.sp (omega (arith, low))
      (omega (arith, runs.was_state.space.size, runs.kept.sp, h.limits.head.high)) sp
      (omega (arith, main_fits.pc, runs.main_stands.meets.pc)) runs.kept.stack in
      let own : (a : ℕ) → cert.head.hi < a + d → a ≤ cert.head.hi → slice_index s.space.bytes a ≡ slice_index was.space.bytes a =
      λ a above below. runs.kept.stack a (omega (arith, above)) below ∙ pushed_off was a (λ e. omega (arith, e, above, runs.kept.sp))
      (λ e. omega (arith, e, above, runs.kept.sp)) in
      let cell : (a j : ℕ) → cell_place cert.head Main a ≡ Some j → slice_index s.space.bytes a ≡ slice_index was.space.bytes a =
      λ a j e.
      let apart = mains_alone cert.head a j e in
      runs.kept.cells a j e ∙ off_pushed was cert.head.lo cert.head.hi a low (omega (arith, runs.kept.sp))
      ((head_fits cert.head h.limits.head).cells_off a apart.range apart.there) in
      let edge : EdgeHolds image cert Handler inst local.step = subst (λ k. EdgeHolds image cert k inst local.step) kind local.edge in
      let stretch : scheduled (event_at z) p s.clock 4 ≡ listed (shown_at (Some Leave) (s.clock + 4)) =
      scheduled_mod z p (position_of z inst) s.clock 4 runs.place
      ∙ (subst (λ c. scheduled (event_at z) (position_of z inst) s.clock c ≡ listed (shown_at local.step.emit (s.clock + c))) end.four
      (edge back.exit s.clock back.is_exit (omega (arith, end.four))) ∙ ap (λ e. listed (shown_at e (s.clock + 4))) reti.emits)
      in
      let there : At z (p + 4) r.line r.clock = at_same z (p + 4) _ r.line _ r.clock (sym end.line) (sym end.clock)
      (at_after z (p + 4) inst.line (inst.clock + 4) (at_more z p inst.line inst.clock 4 runs.place)) in
      let rest_holds = h.rests back.rest back.is_rest in
      let was_meets = runs.main_stands.meets in
      let was_memory = was_meets.memory in
      let main_kind = runs.main_stands.of_kind in
      let handlers : CellsHold cert.head Handler inst.cells.items s.space.bytes =
      subst (λ k. CellsHold cert.head k inst.cells.items s.space.bytes) kind meets.memory.cells in
      let drafted : CellsHold cert.head Handler local.step.draft.cells.items s.space.bytes =
      subst (λ i. CellsHold cert.head Handler i.cells.items s.space.bytes) (sym reti.draft) handlers in
      record {
        follows = record {
          clocks = 4;
          some = omega arith;
          clock = refl;
          meets = record {
            is_state = then_state;
            flash = flash;
            level = level_along z p s.clock 4 (frame_some z h.limits.schedule) ∙ (ap (λ es. last_in es (level_at z p)) stretch ∙ level);
            running = RunsMain main o back.rest;
            runs = record {
              stands = record {
                id = runs.main_stands.id;
                l = runs.main_stands.l;
                c = runs.main_stands.c;
                is = runs.main_stands.is;
                of_kind = main_kind;
                old = runs.main_stands.old;
                meets = record {
                  pc = pc ∙ was_meets.pc;
                  enabled = set_seven s.core.sreg ∙ sym (ap is_main main_kind);
                  core = core_same main o was.core (returned s).core given.registers (λ k few. set_others s.core.sreg k few ∙ given.flags k
                      few) was_meets.core;
                  compared = compared_stays main.compared was.core (returned s).core (λ k few. set_others s.core.sreg k (omega (arith, few))
                      ∙ given.flags k (omega (arith, few))) (λ q few named. given.registers q few) was_meets.compared;
                  memory = record {
                    slots = λ i few.
                        let at : was.core.sp + d - i ≡ s.core.sp + 2 + d - i = omega (arith, sp) in
                        let same = own (was.core.sp + d - i) (omega (arith, few, runs.kept.sp)) (omega (arith, runs.kept.sp)) in
                        subst (λ a. ValueHolds (value_at main.stack.items i) o (slice_index s.space.bytes a)) at
                        (subst (ValueHolds (value_at main.stack.items i) o) (sym same) (was_memory.slots i few));
                    cells = λ a j e. subst (λ v. IsWithin v (span_at main.cells.items j))
                        (sym (cell a j (subst (λ k. cell_place cert.head k a ≡ Some j) main_kind e))) (was_memory.cells a j e);
                    ranges = meets.memory.ranges;
                    depth = subst (λ k. s.core.sp + 2 + d + depth_below k 0 ≡ cert.head.hi) (sym main_kind) (omega (arith, stack));
                  };
                  timer = subst (λ k. TimerMeets k main (timer_after 4 t)) (sym main_kind) tt;
                  ticks = subst (λ k. TimerCounts k (timer_after 4 t)) (sym main_kind)
                      (counting_kept t 4 ∙ ticks.0, ap (λ m. bit_is_set m 1) (timer_keeps_mask t 4) ∙ ticks.1);
                  level = subst (λ k. LevelMeets k main.level (sync_level s.space)) (sym main_kind) tt;
                  response = meets.response;
                };
              };
              rests = record {
                is_rest = back.is_rest;
                cells = cells_widen cert.head Handler local.step.draft.cells.items back.rest.cells.items s.space.bytes
                    then_state.space.bytes
                    back.cells drafted;
                top = ap suc (timer_keeps_top t 4 ∙ timer.2) ∙ (reti.time.top ∙ ap (length_of z) (sym end.line ∙ back.line));
                phase = inl (record {
                  place = at_same z (p + 4) r.line back.rest.line r.clock (timer_after 4 t).count back.line (sym count) there;
                  rested = omega (arith, count, back.clock);
                  within = omega (arith, count, back.clock, rest_holds.within);
                  clear = clear;
                });
              };
            };
          };
          exact = sym stretch;
          entries = All-cons (λ e. InTime e.kind) (record { clock = s.clock + 4; kind = LeaveEdge }) [] tt (All-nil (λ e. InTime e.kind));
        };
        goes = (refl, back.is_rest, count ∙ back.clock, clear);
      }

  pub handler_back : IsState (after_instruction history_wiring Reti s) → local.step.back ≡ true
      → Turned image cert p s (RunsHandler inst main o was) (instruction_edges history_wiring Reti s)
      (after_instruction history_wiring Reti s)
  handler_back then_state is_back =
      let reti = return_tells cert.head (order_of z) image inst local.step local.step_is is_back in
      let empty : depth_of inst ≡ 0 = ap depth_of (sym reti.draft) ∙ (given_of reti).slots in
      let stack = stack_of empty in
      let low : 256 ≤ s.core.sp + 1 = omega (arith, stack, depth, room_below cert.head h.limits.head, h.limits.head.low) in
      let high : s.core.sp + 2 ≤ 4351 = omega (arith, stack, h.limits.head.high) in
      let goes = return_is s low high in
      subst (Turned image cert p s (RunsHandler inst main o was) (instruction_edges history_wiring Reti s)) (sym goes)
      (returned_follows (subst IsState goes then_state) reti empty)

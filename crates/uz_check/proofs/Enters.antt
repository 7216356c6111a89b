-- The turn that is an interrupt's entry.
use Rattle.uz_check.proofs.Common.{All, ◌≡◌, ℕ, zero, suc, ◌+◌, ◌*◌, ◌<◌, ◌≤◌, false, inr, List, [], ◌∷◌, refl, sym, ◌∙◌, ap, subst, arith}
use Rattle.uz_check.proofs.Common.{Some, unwrap_or, slice_index, nat_cmp, FinMap, All-nil, All-cons, Ends, Free, OldBit, Old, Main, Handler}
use Rattle.uz_check.proofs.Common.{Response, Four, Five, Rest, Instance, Cert, next_line, event_at, level_at, response_clocks, Edge, Enter}
use Rattle.uz_check.proofs.Common.{bit_is_set, Core, register, pair, IsCore, timer_after, timer_taken, PadHistory, history_wiring, State}
use Rattle.uz_check.proofs.Common.{sync_level, after_entry, entry_edges, IsState, ends, IsWithin, value_at, flag_at, pair_at, ValueHolds}
use Rattle.uz_check.proofs.Common.{FlagHolds, CoreMeets, cell_range, HeaderHolds, depth_below, depth_of, TimerCounts, scheduled, InTime}
use Rattle.uz_check.proofs.Common.{rest_instance, frame_some, RunsMain, RunsHandler, MainRuns, Due, pushed, at_more, at_same, event_here}
use Rattle.uz_check.proofs.Common.{level_here}
use Rattle.uz_check.proofs.Premises.{Turned, Premises}
use Rattle.uz_check.proofs.Fitting.{response_few, is_placed, main_slots, line_long, room_below, register_byte}
use Rattle.std.proofs.Common.{replicate}
use Rattle.std.proofs.lemmas.List.{get_or-replicate}
use Rattle.uz_schedule.specs.Instances.{old_from}
use Rattle.uz_check.proofs.Timer.{count_within, count_counting, matched_within, timer_keeps_top, timer_keeps_temp, timer_keeps_mask}
use Rattle.uz_check.proofs.Timer.{counting_kept}
use Rattle.uz_check.proofs.Ram.{pushed_level, clear_seven, clear_others}
use Rattle.uz_check.proofs.EntryTurn.{entered, entry_is, entry_seen}
use Rattle.uz_check.proofs.Quiet.{scheduled_none, level_along, last_in}
use Rattle.uz_check.proofs.Cells.{handlers_alone, head_fits, off_pushed, cells_same}
use Rattle.uz_check.proofs.BoxesCovered.{place_tells, lands}
use Rattle.uz_check.proofs.Forth.{level_of_instance}

abbrev enter_edge : State PadHistory → List Edge
enter_edge s = record { clock = s.clock; kind = Enter s.space.timer.count } ∷ []

one_entry : (s : State PadHistory) → s.space.timer.count ≤ 3 → All (λ e. InTime e.kind) (enter_edge s)
one_entry s h = All-cons (λ e. InTime e.kind) (record { clock = s.clock; kind = Enter s.space.timer.count }) [] h
    (All-nil (λ e. InTime e.kind))

pub response_some : (r : Response) → 1 ≤ response_clocks r
response_some Four = omega arith
response_some Five = omega arith

-- All registers and flags are the interrupted ones

old_from_at : (k n r : ℕ) → r < n → value_at (old_from k n) r ≡ Old (k + r)
old_from_at k zero r h = absurd (omega (arith, h))
old_from_at k (suc n) zero h = ap Old (omega arith)
old_from_at k (suc n) (suc r) h = old_from_at (suc k) n r (omega (arith, h)) ∙ ap Old (omega arith)

any_pair : (i : ℕ) → i < 3 → pair_at (ends 0 65535 ∷ ends 0 65535 ∷ ends 0 65535 ∷ []) i ≡ ends 0 65535
any_pair zero h = refl
any_pair (suc zero) h = refl
any_pair (suc (suc zero)) h = refl
any_pair (suc (suc (suc i))) h = absurd (omega (arith, h))

old_core : (cert : Cert) (rest : Rest) (n : ℕ) (s : State PadHistory) → IsCore s.core → CoreMeets (rest_instance cert rest n) s.core
    (entered s).core
old_core cert rest n s fits = record {
  regs = λ r few.
      let e : value_at (old_from 0 32) r ≡ Old r = old_from_at 0 32 r few ∙ ap Old (omega arith) in
      subst (λ x. ValueHolds x s.core (register s.core r)) (sym e) refl;
  pairs = λ i few.
      let low = register_byte s.core (26 + 2 * i) fits in
      let high = register_byte s.core (26 + 2 * i + 1) fits in
      subst (IsWithin (pair s.core (26 + 2 * i))) (sym (any_pair i few)) (record { above = omega arith; below = omega (arith, low, high) });
  flags = λ k few.
      let e : flag_at (replicate 7 OldBit) k ≡ OldBit = get_or-replicate 7 k OldBit Free few in
      subst (λ x. FlagHolds x (bit_is_set s.core.sreg k) (bit_is_set (entered s).core.sreg k)) (sym e) (clear_others s.core.sreg k few);
}

module _ (image : FinMap nat_cmp ℕ) (cert : Cert) (p : ℕ) (s : State PadHistory) (main : Instance) (o : Core) (rest : Rest)
    (h : Premises image cert) (is_state : IsState s) (flash : s.image ≡ image)
    (level : level_at cert.schedule p ≡ Some (sync_level s.space)) (runs : MainRuns cert p s main o rest) (due : Due cert p s rest) where
  depth : depth_of main ≤ cert.head.main
  depth = main_slots cert main (is_placed cert h.limits runs.stands.id runs.stands.l runs.stands.c main runs.stands.is) runs.stands.of_kind

  at_stack : s.core.sp + depth_of main ≡ cert.head.hi
  at_stack =
      omega (
        arith,
        subst (λ k. s.core.sp + depth_of main + depth_below k 0 ≡ cert.head.hi) runs.stands.of_kind
            runs.stands.meets.memory.depth,
      )

  entered_follows : IsState (entered s) → Turned image cert p s (RunsMain main o rest) (enter_edge s) (entered s)
  entered_follows then_state =
      let rule = h.rests rest runs.rests.is_rest in
      let limits = h.limits in
      let schedule = cert.schedule in
      let of_kind = runs.stands.of_kind in
      let meets = runs.stands.meets in
      let ticks : TimerCounts Main s.space.timer = subst (λ k. TimerCounts k s.space.timer) of_kind meets.ticks in
      let t = timer_taken s.space.timer in
      let n = s.space.timer.count in
      let covered = rule.vector n due.early in
      let r = rest_instance cert rest n in
      let b = covered.inst in
      let place = place_tells r b covered.inside in
      let low : cert.head.lo < s.core.sp = omega (arith, at_stack, depth, room_below cert.head limits.head) in
      let high : s.core.sp ≤ cert.head.hi = omega (arith, at_stack) in
      let few : response_clocks cert.head.irq ≤ 5 = response_few cert.head.irq in
      let some : 1 ≤ response_clocks cert.head.irq = response_some cert.head.irq in
      let within : n + s.response ≤ s.space.timer.top = omega (
        arith,
        due.early,
        meets.response,
        few,
        runs.rests.top,
        line_long schedule
            rest.line limits.schedule (limits.rests rest runs.rests.is_rest).line,
      ) in
      let count : (timer_after s.response t).count ≡ n + s.response = count_counting t s.response ticks.0 ∙ count_within n t.top s.response
      within in
      let flag : (timer_after s.response t).matched ≡ false = matched_within t s.response ticks.0 within in
      let off : (a : ℕ) (e : Ends) → cell_range cert.head a ≡ Some e → slice_index (pushed s) a ≡ slice_index s.space.bytes a =
      λ a e has. off_pushed s cert.head.lo cert.head.hi a low high ((head_fits cert.head limits.head).cells_off a e has) in
      let cells = cells_same cert.head Handler rest.cells.items s.space.bytes (pushed s) (λ a j e. let apart = handlers_alone cert.head a j
      e in off a apart.range apart.there) runs.rests.cells in
      let ranges : HeaderHolds cert.head (pushed s) = λ a e has. subst (λ v. IsWithin v e) (sym (off a e has))
      (meets.memory.ranges a e has) in
      let same_level : sync_level (entered s).space ≡ sync_level s.space = pushed_level s (omega (arith, low, limits.head.low)) in
      let line = next_line schedule rest.line in
      let quiet : scheduled (event_at schedule) p s.clock s.response ≡ [] =
      scheduled_none (event_at schedule) p s.clock s.response (λ i more most.
      event_here schedule (p + i) line (n + i) (at_more schedule p line n i due.place)
      ∙ rule.quiet_next (n + i) (omega (arith, due.early, most, meets.response)))
      in
      let then_level : level_at schedule (p + s.response) ≡ Some (sync_level (entered s).space) =
      level_along schedule p s.clock s.response (frame_some schedule limits.schedule) ∙ (ap (λ es. last_in es (level_at schedule p)) quiet
      ∙ (level ∙ ap (λ v. Some v) (sym same_level))) in
      let clock : n + s.response ≡ b.clock = ap (λ k. n + k) meets.response ∙ place.clock in
      let then_place = at_same schedule (p + s.response) line b.line (n + s.response) b.clock place.line clock
      (at_more schedule p line n s.response due.place) in
      let sync = level_of_instance cert (p + s.response) (sync_level (entered s).space) b
      (is_placed cert limits covered.id covered.l covered.c b covered.is) then_level then_place in
      let rest_place = at_same schedule (p + s.response) line line (n + s.response) (n + response_clocks cert.head.irq) refl
      (ap (λ k. n + k) meets.response) (at_more schedule p line n s.response due.place) in
      let old_level : sync_level (entered s).space ≡ r.level =
      ap (λ v. unwrap_or v 0) (sym then_level ∙ level_here schedule (p + s.response)
      line (n + response_clocks cert.head.irq) rest_place) in
      let to = lands h.laws.inside cert Handler s.core (depth_of main) r (entered s) then_state is_state.core refl (record {
        pc = refl;
        enabled = clear_seven s.core.sreg;
        core = old_core cert rest n s is_state.core;
        compared = tt;
        memory = record {
          slots = λ i k. absurd (omega (arith, k));
          cells = cells;
          ranges = ranges;
          depth = omega (arith, at_stack, low, limits.head.low);
        };
        timer = (
          count ∙ ap (λ k. n + k) meets.response,
          flag,
          timer_keeps_top t s.response ∙ omega (arith, runs.rests.top),
          record { above = omega arith; below = omega (arith, timer_keeps_temp t s.response, is_state.space.timer.temp) },
        );
        ticks = (counting_kept t s.response ∙ ticks.0, ap (λ m. bit_is_set m 1) (timer_keeps_mask t s.response) ∙ ticks.1);
        level = old_level;
        response = meets.response;
      }) covered (inr sync) in
      record {
        follows = record {
          clocks = s.response;
          some = omega (arith, meets.response, some);
          clock = refl;
          meets = record {
            is_state = then_state;
            flash = flash;
            level = then_level;
            running = RunsHandler b main o s;
            runs = record {
              stands = to;
              place = then_place;
              below_top = omega (arith, count, within, timer_keeps_top t s.response);
              was_state = is_state;
              main_stands = runs.stands;
              kept = record { sp = at_stack; stack = λ a above below. refl; cells = λ a j e. refl };
            };
          };
          exact = sym quiet;
          entries = one_entry s due.early;
        };
        goes = (refl, due.early, due.set);
      }

  pub enters : IsState (after_entry history_wiring s)
      → Turned image cert p s (RunsMain main o rest) (entry_edges history_wiring s) (after_entry history_wiring s)
  enters then_state =
      let low : 257 ≤ s.core.sp = omega (arith, at_stack, depth, room_below cert.head h.limits.head, h.limits.head.low) in
      let high : s.core.sp ≤ 4351 = omega (arith, at_stack, h.limits.head.high) in
      let goes = entry_is s low high in
      subst (λ edges. Turned image cert p s (RunsMain main o rest) edges (after_entry history_wiring s)) (sym (entry_seen s low high))
      (subst (Turned image cert p s (RunsMain main o rest) (enter_edge s)) (sym goes) (entered_follows (subst IsState goes then_state)))

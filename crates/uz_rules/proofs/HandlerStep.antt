-- Containment of a handler's instruction: the timer goes on with the instance's clock, OCR1A and TEMP.
use Rattle.uz_rules.proofs.Common.{or_cases, ◌≡◌, inl, inr, ℕ, zero, suc, ◌+◌, ◌%◌, ◌<◌, ◌≤◌, Bool, true, false, not, if◌then◌else◌, nat_eq}
use Rattle.uz_rules.proofs.Common.{nat_le, nat_lt, Option, None, List, [], ◌∷◌, refl, sym, ◌∙◌, ap, subst, arith, ◌&&◌, ◌||◌, ◌==◌}
use Rattle.uz_rules.proofs.Common.{Contains, nat_cmp, FinMap, nat_tests, Instr, Nop, Outcome, Next, Taken, SkipOne, SkipTwo, words_of}
use Rattle.uz_rules.proofs.Common.{clocks_of, Effect, Store, bit_is_set, effect_of, Core, following_pc, load_addresses, sample_clock}
use Rattle.uz_rules.proofs.Common.{loaded_bytes, outcome_of, is_counting, matches_within, timer_after, PadHistory, history_wiring}
use Rattle.uz_rules.proofs.Common.{space_after, space_loads, State, IsState, EffectFits, effect_fits, IsWithin, Lines, clock_after, Kind}
use Rattle.uz_rules.proofs.Common.{Handler, Head, EventKind, Instance, Exit, is_main, is_handler, fail_of, clears_flag, ends_line}
use Rattle.uz_rules.proofs.Common.{following_of, sampled_of, successor, TimerMeets, TimerCounts, Meets, HandlerContained, and_parts}
use Rattle.uz_rules.proofs.Containment.{content_of, plan_of, state_of, outcome_at, exit_at, alone_before, TimePart, outside_contained}
use Rattle.uz_transfer.specs.InTime.{clock_holds, keeps_time, sets_ahead, is_in_time}
use Rattle.uz_transfer.specs.Timer.{stores_top, top_after, temp_after}
use Rattle.uz_transfer.specs.Exits.{each_exit}
use Rattle.uz_rules.proofs.Classes.{Before}
use Rattle.uz_rules.proofs.ExitsHold.{exit_holds}
use Rattle.uz_rules.proofs.Timing.{loads_beside, stores_beside, later, OnTime, timed, sampled_count, sampled_low, stays_below}
use Rattle.uz_rules.proofs.TopAndTemp.{temp_loads, loads_temp, stores_known}

-- a row's loads sample before its end, whatever the outcome
sample_within : (i : Instr) (out : Outcome) → nat_le (sample_clock (effect_of i) (clocks_of i)) (clocks_of i out) ≡ true
sample_within Nop Next = refl
sample_within i Next = refl
sample_within Nop Taken = refl
sample_within i Taken = refl
sample_within Nop SkipOne = refl
sample_within i SkipOne = refl
sample_within Nop SkipTwo = refl
sample_within i SkipTwo = refl

-- what holds of each exit holds of one
pub each_holds : (test : Exit → Bool) (exits : List Exit) (exit : Exit) → each_exit test exits ≡ true → Contains exits exit
    → test exit ≡ true
each_holds test [] exit e (i, below, is) = absurd (omega (arith, below))
each_holds test (x ∷ exits) exit e (zero, below, is) =
    let same : x ≡ exit = is in ap test (sym same) ∙ (and_parts (test x) (each_exit test exits) e).0
each_holds test (x ∷ exits) exit e (suc i, below, is) =
    each_holds test exits exit (and_parts (test x) (each_exit test exits) e).1 (i, omega (arith, below), is)

pub on_time : (clock length top c : ℕ) → (nat_eq (suc top) length || (nat_le (clock + c) top && nat_lt (clock + c) length)) ≡ true
    → OnTime clock length top c
on_time clock length top c e = elim (or_cases (nat_eq (suc top) length) _ e) [
  | inl f ↦ inl (grind (arith, nat_tests))
  | inr b ↦
      let both = and_parts (nat_le (clock + c) top) (nat_lt (clock + c) length) b in
      let first = both.0 in
      let second = both.1 in
      inr (grind (arith, nat_tests), grind (arith, nat_tests))
]

other_top : (e : Effect) (inst : Instance) → stores_top e inst ≡ false → top_after e inst ≡ inst.top
other_top (Store to r) inst f = rw f refl
other_top e inst f = refl

-- TCNT1 isn't above OCR1A after the stores
ahead : (e : Effect) (inst : Instance) (clock : ℕ) → clock ≤ inst.top → (not (stores_top e inst) || nat_le clock (top_after e inst)) ≡ true
    → clock ≤ top_after e inst
ahead e inst clock low h = by_case (stores_top e inst) refl h
  where
    by_case : (t : Bool) → stores_top e inst ≡ t → (not t || nat_le clock (top_after e inst)) ≡ true → clock ≤ top_after e inst
    by_case true e' h = grind (arith, nat_tests)
    by_case false e' h = rw (other_top e inst e') low

-- the exit that is taken passes the tests of Clock
record Passed (lines : Lines) (inst : Instance) (e : Effect) (exit : Exit) : Type 0 where
  keeps : keeps_time lines inst exit ≡ true
  sets : sets_ahead lines e inst exit ≡ true

passed : (lines : Lines) (inst : Instance) (e : Effect) (exits : List Exit) (exit : Exit) → is_handler inst.kind ≡ true
    → clock_holds lines e inst exits ≡ true → Contains exits exit → Passed lines inst e exit
passed lines inst e exits exit k h is =
    let all : each_exit (λ x. is_in_time lines e inst x) exits ≡ true = rw k at h in
    let first = and_parts (keeps_time lines inst exit) _ (each_holds (λ x. is_in_time lines e inst x) exits exit all is) in
    record { keeps = first.0; sets = (and_parts (sets_ahead lines e inst exit) _ first.1).0 }

time_step : (head : Head) (lines : Lines) (inst : Instance) (o : Core) (d : ℕ) (s : State PadHistory) (e : Effect) (words : ℕ)
    (clocks : Outcome → ℕ) (event : Option EventKind) → inst.kind ≡ Handler → EffectFits e → Before head inst o d s.core s.space
    → Meets head inst o d s → IsState s → inst.clock < lines.length inst.line → 4 ≤ lines.length inst.line
    → fail_of head e inst ≡ None → Passed lines inst e (exit_at e words clocks s)
    → sample_clock e clocks ≤ clocks (outcome_at e words clocks s) → clocks (outcome_at e words clocks s) ≤ 4
    → TimePart lines head inst s e words clocks event
time_step head lines inst o d s e words clocks event kind fits b m state low long fine pass late few =
    let handler : is_handler inst.kind ≡ true = ap is_handler kind in
    let meets : (s.space.timer.count ≡ inst.clock) × (s.space.timer.matched ≡ inst.pending) × (s.space.timer.top ≡ inst.top)
    × IsWithin s.space.timer.temp inst.temp = subst (λ k. TimerMeets k inst s.space.timer) kind m.timer in
    let ticks : (is_counting s.space.timer ≡ true) × (bit_is_set s.space.timer.interrupt_mask 1 ≡ true) =
    subst (λ k. TimerCounts k s.space.timer) kind m.ticks in
    let on_time_is : OnTime inst.clock (lines.length inst.line) inst.top (clocks (outcome_at e words clocks s)) =
    on_time inst.clock (lines.length inst.line) inst.top (clocks (outcome_at e words clocks s)) pass.keeps in
    let loaded = loads_beside history_wiring (sample_clock e clocks) s.space (load_addresses e s.core) in
    let counting : is_counting (content_of e clocks s).timer ≡ true =
    ap (λ n. n % 32 == 9 && (content_of e clocks s).timer.control_a % 4 == 0) loaded.control_b
    ∙ (ap (λ n. s.space.timer.control_b % 32 == 9 && n % 4 == 0) loaded.control_a ∙ ticks.0) in
    let on = later (clocks (outcome_at e words clocks s)) (content_of e clocks s).timer counting in
    let top_before : (content_of e clocks s).timer.top ≡ inst.top = loaded.top ∙ meets.2 in
    let time = timed inst.clock (lines.length inst.line) (clocks (outcome_at e words clocks s)) (content_of e clocks s).timer
    (loaded.count ∙ meets.0) low (omega (arith, few, long))
    (subst (λ n. OnTime inst.clock (lines.length inst.line) n (clocks (outcome_at e words clocks s))) (sym top_before) on_time_is) in
    let now = later (sample_clock e clocks) s.space.timer ticks.0 in
    let sampled : (timer_after (sample_clock e clocks) s.space.timer).count ≡ sampled_of (lines.length inst.line) e clocks inst =
    now.count ∙ sampled_count s.space.timer.count s.space.timer.top inst.clock (lines.length inst.line) (sample_clock e clocks)
    (clocks (outcome_at e words clocks s)) meets.0 low late
    (subst (λ n. OnTime inst.clock (lines.length inst.line) n (clocks (outcome_at e words clocks s))) (sym meets.2) on_time_is) in
    let small : sampled_of (lines.length inst.line) e clocks inst ≤ inst.top =
    sampled_low inst.top inst.clock (lines.length inst.line) (sample_clock e clocks) (clocks (outcome_at e words clocks s)) low late
    on_time_is in
    let temp = loads_temp history_wiring e head (sample_clock e clocks) (sampled_of (lines.length inst.line) e clocks inst) d inst o s.core
    s.space fits b meets.3 state.space.timer.temp sampled (omega (arith, small, meets.2, state.space.timer.top)) in
    let stored = stores_beside history_wiring e head words d inst o s.core s.space (space_after (clocks (outcome_at e words clocks s))
    (content_of e clocks s)) fits (ap (λ k. is_main k || is_handler k) kind) b fine in
    let known = stores_known e head d (sampled_of (lines.length inst.line) e clocks inst) inst o s.core s.space
    (timer_after (clocks (outcome_at e words clocks s)) (content_of e clocks s).timer) fits handler b fine (on.top ∙ top_before)
    (subst (λ n. IsWithin n (temp_loads (sampled_of (lines.length inst.line) e clocks inst) e inst)) (sym on.temp) temp) in
    let count_is : (state_of e words clocks s).space.timer.count ≡ clock_after lines inst.line
    (inst.clock + clocks (outcome_at e words clocks s)) = stored.count ∙ (on.count ∙ time.count) in
    let top_is : (state_of e words clocks s).space.timer.top ≡ top_after e inst = stored.top ∙ known.top in
    record {
      tcnt = λ q. ap (λ n. n % 256) sampled;
      timer = subst (λ k. TimerMeets k (placed_as k) (state_of e words clocks s).space.timer) (sym kind) (
        count_is,
        stored.matched ∙ ap (λ x. not (clears_flag e inst) && x)
            (on.matched ∙ (ap (λ x. x || matches_within (content_of e clocks s).timer.count (content_of e clocks s).timer.top
            (clocks (outcome_at e words clocks s))) (loaded.matched ∙ meets.1)
            ∙ ap (λ x. inst.pending || x) time.ends)),
        top_is,
        subst (λ n. IsWithin n (temp_after (sampled_of (lines.length inst.line) e clocks inst) e inst)) (sym stored.temp) known.temp,
      );
      ticks = subst (λ k. TimerCounts k (state_of e words clocks s).space.timer) (sym kind) (
        ap (λ n. n % 32 == 9 && (state_of e words clocks s).space.timer.control_a % 4 == 0)
            (stored.control_b ∙ (on.control_b ∙ loaded.control_b))
            ∙ (ap (λ n. s.space.timer.control_b % 32 == 9 && n % 4 == 0) (stored.control_a ∙ (on.control_a ∙ loaded.control_a)) ∙ ticks.0),
        ap (λ n. bit_is_set n 1) (stored.mask ∙ (on.mask ∙ loaded.mask)) ∙ ticks.1,
      );
      below = λ q. rw (count_is, top_is) (ahead e inst (clock_after lines inst.line (inst.clock + clocks (outcome_at e words clocks s)))
          (stays_below inst.clock (lines.length inst.line) inst.top (clocks (outcome_at e words clocks s)) low few long on_time_is)
          pass.sets);
    }
  where
    placed_as : Kind → Instance
    placed_as k = record (successor lines inst (plan_of head (lines.length inst.line) s.image e words clocks inst event)
        (exit_at e words clocks s)) {
          clock = if is_main k then inst.clock else clock_after lines inst.line (inst.clock + clocks (outcome_at e words clocks s));
          pending = if is_handler k then not (clears_flag e inst)
              && (inst.pending || ends_line lines inst.line (inst.clock + clocks (outcome_at e words clocks s))) else inst.pending;
        }

pub handler_contained : HandlerContained
handler_contained head lines image inst o d step s kind low long h =
    outside_contained head lines image inst o d step s (ap is_main kind) h (λ i event fine back in_time few.
    let b = alone_before head inst o d s h.head_fits h.depth h.fits h.is_state h.meets in
    let late : nat_le (sample_clock (effect_of i) (clocks_of i)) (clocks_of i (outcome_at (effect_of i) (words_of i) (clocks_of i) s)) ≡ true =
    sample_within i (outcome_at (effect_of i) (words_of i) (clocks_of i) s) in
    let following : following_of (words_of i) inst ≡ following_pc (words_of i) s.core = ap (λ n. (n + words_of i) % 32768) (sym h.meets.pc) in
    let taken = exit_holds history_wiring (effect_of i) head image (clocks_of i) (words_of i) (following_of (words_of i) inst)
    (sample_clock (effect_of i) (clocks_of i)) d inst o s.core s.space (effect_fits i) b following back fine
    (outcome_at (effect_of i) (words_of i) (clocks_of i) s)
    (ap (λ (m : FinMap nat_cmp ℕ). outcome_of (effect_of i) m (words_of i) (loaded_bytes (space_loads history_wiring) s.core
    (sample_clock (effect_of i) (clocks_of i)) s.space (load_addresses (effect_of i) s.core)) s.core) h.flash) in
    time_step head lines inst o d s (effect_of i) (words_of i) (clocks_of i) event kind (effect_fits i) b h.meets h.is_state low long fine
    (passed lines inst (effect_of i) _ (exit_at (effect_of i) (words_of i) (clocks_of i) s) (ap is_handler kind) in_time taken)
    (grind (arith, nat_tests)) few)

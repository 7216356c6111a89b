-- The turn that is an instruction but RETI.
use Rattle.uz_check.proofs.Common.{Schedule, same_Some, ◌≡◌, ◌⊎◌, inl, inr, All, Contains, ℕ, suc, ◌+◌, ◌-◌, ◌%◌, ◌<◌, ◌≤◌, true, false}
use Rattle.uz_check.proofs.Common.{List, [], refl, sym, ◌∙◌, ap, subst, arith, Option, Some, None, ◌||◌, nat_cmp, FinMap, or-true}
use Rattle.uz_check.proofs.Common.{leb_tells, Kind, Main, Handler, Alone, Rest, Instance, Cert, At, length_of, next_line, event_at}
use Rattle.uz_check.proofs.Common.{level_at, Edge, Core, IsCore, count_after, matches_within, PadHistory, plain_byte, State, sync_level}
use Rattle.uz_check.proofs.Common.{IsState, Exit, Step, depth_below, cell_place, is_main, is_handler, depth_of, shown, shown_at, listed}
use Rattle.uz_check.proofs.Common.{level_after, is_taken, left_at, left_of, narrowed, with_left, with_some_left, successor, Left}
use Rattle.uz_check.proofs.Common.{line_after, clock_after, passes, LevelMeets, Meets, scheduled, InTime, order_of, frame_some, position_of}
use Rattle.uz_check.proofs.Common.{IsPlain, Spends, Stands, RunsAlone, RunsMain, RunsHandler, AloneRuns, MainRuns, HandlerRuns, Due}
use Rattle.uz_check.proofs.Common.{at_more, at_same, at_after, event_here, level_here}
use Rattle.uz_check.proofs.Premises.{Turned, IsCovered, EdgeHolds, Succeeds, LocalHolds, RestHolds, RuleLaws, Premises}
use Rattle.uz_rules.specs.MemoryMeets.{Untouched}
use Rattle.uz_rules.specs.OneStep.{MainTimer as RunsOn, MeetsLeft, OneStep}
use Rattle.uz_check.proofs.Fits.{IsPlaced}
use Rattle.uz_check.proofs.LocalTells.{any_covered}
use Rattle.uz_check.specs.Invariant.{IsKept, Before}
use Rattle.uz_schedule.proofs.Places.{at_next}
use Rattle.uz_check.proofs.Fitting.{is_placed, line_long}
use Rattle.uz_check.proofs.Timer.{count_within, count_over, match_within, match_over}
use Rattle.uz_check.proofs.Quiet.{scheduled_mod, scheduled_none, level_along, last_in, last_in_listed}
use Rattle.uz_check.proofs.Cells.{mains_alone, handlers_alone, cells_same}
use Rattle.uz_check.proofs.BoxesCovered.{place_tells, lands}

-- an instance's level is the schedule's, wherever it stands
pub level_of_instance : (cert : Cert) (p v : ℕ) (inst : Instance) → IsPlaced cert inst → level_at cert.schedule p ≡ Some v
    → At cert.schedule p inst.line inst.clock → v ≡ inst.level
level_of_instance cert p v inst h level place = same_Some v inst.level
    (sym level ∙ (level_here cert.schedule p inst.line inst.clock place ∙ h.level))

-- The place of a result

placed_line : (cert : Cert) (inst : Instance) (step : Step) (exit : Exit) → is_main inst.kind ≡ false
    → (successor (order_of cert.schedule) inst step exit).line ≡ line_after (order_of cert.schedule) inst.line (inst.clock + exit.clocks)
placed_line cert inst step exit e = rw e refl

placed_clock : (cert : Cert) (inst : Instance) (step : Step) (exit : Exit) → is_main inst.kind ≡ false
    → (successor (order_of cert.schedule) inst step exit).clock ≡ clock_after (order_of cert.schedule) inst.line (inst.clock + exit.clocks)
placed_clock cert inst step exit e = rw e refl

placed_level : (cert : Cert) (inst : Instance) (step : Step) (exit : Exit) → is_main inst.kind ≡ false
    → (successor (order_of cert.schedule) inst step exit).level ≡ level_after step.emit (inst.level % 2)
placed_level cert inst step exit e = rw e refl

pub level_is : (kind : Kind) (level sync : ℕ) → is_main kind ≡ false → LevelMeets kind level sync → sync ≡ level
level_is Main level sync e h = absurd cc
level_is Handler level sync e h = h
level_is Alone level sync e h = h

-- a level is one bit
bit_level : (v level : ℕ) → v % 2 ≡ level → v % 2 ≡ level % 2
bit_level v level e = omega (arith, e)

-- what every turn keeps
pub record Carries (image : FinMap nat_cmp ℕ) (edges : List Edge) (new : State PadHistory) : Type 0 where
  pub is_state : IsState new
  pub flash : new.image ≡ image
  pub entries : All (λ e. InTime e.kind) edges

-- a state that meets a result which passes meets it with what a cover leaves of registers and pairs, and that lies in an instance
record IsPassed (cert : Cert) (r : Instance) (o : Core) (d : ℕ) (s : State PadHistory) : Type 0 where
  left : Left
  meets : Meets cert.head (with_left left r) o d s
  covered : IsCovered cert (with_left left r)

passed : (laws : RuleLaws) (cert : Cert) (next : List ℕ) (split : Option ℕ) (r : Instance) (o : Core) (d : ℕ) (s : State PadHistory)
    → IsCore s.core → passes cert next split (Some r) ≡ true → Meets cert.head r o d s → IsPassed cert r o d s
passed laws cert next split r o d s is_core passes meets =
    let one = laws.cover cert.head cert next split r o d s is_core passes meets in
    record { left = one.left; meets = one.meets; covered = any_covered laws.lies cert next (with_left one.left r) one.lies }

-- the handler goes on, and leaves what was interrupted
still_kept : (cert : Cert) (d : ℕ) (inst : Instance) (was s new : State PadHistory) → inst.kind ≡ Handler → s.core.sp + depth_of
    inst + depth_below inst.kind d ≡ cert.head.hi
    → Untouched cert.head inst.kind (s.core.sp + depth_of inst) s.space.bytes new.space.bytes → IsKept cert.head d was s → IsKept cert.head
    d was new
still_kept cert d inst was s new kind depth leaves kept =
    let low : s.core.sp + depth_of inst + (d + 2) ≡ cert.head.hi = subst (λ k. s.core.sp + depth_of inst + depth_below k d ≡ cert.head.hi)
    kind depth in
    record {
      sp = kept.sp;
      stack = λ a above below. leaves.above a (omega (arith, above, low)) below ∙ kept.stack a above below;
      cells = λ a j e.
          let apart = mains_alone cert.head a j e in
          leaves.cells a apart.range apart.there (subst (λ k. cell_place cert.head k a ≡ None) (sym kind) apart.none) ∙ kept.cells a j e;
    }

-- Main

-- its stretch has no event
main_quiet : (cert : Cert) (p t k c : ℕ) (rest : Rest) → RestHolds cert rest → At cert.schedule p rest.line t → rest.clock ≤ t
    → t < length_of cert.schedule rest.line → c ≤ 4 → scheduled (event_at cert.schedule) p k c ≡ []
main_quiet cert p t k c rest rule place rested within few =
    let z = cert.schedule in
    scheduled_none (event_at z) p k c (λ i some most.
    let here = at_more z p rest.line t i place in
    elim (leb_tells (suc (t + i)) (length_of z rest.line)) [
      | inl before ↦ event_here z (p + i) rest.line (t + i) here ∙ rule.quiet (t + i) (omega (arith, rested, some)) before.1
      | inr past ↦
          let over = t + i - length_of z rest.line in
          let there : At z (p + i) rest.line (length_of z rest.line + over) = at_same z (p + i) rest.line rest.line (t + i) _ refl
          (omega (arith, past.1)) here in
          event_here z (p + i) (next_line z rest.line) over (at_next z (p + i) rest.line over there)
          ∙ rule.quiet_next over (omega (arith, past.1, within, few, most))
    ])

-- the timer after c clocks of main, where the top is the line's last clock
record MainTimer (length : ℕ) (s new : State PadHistory) (c : ℕ) : Type 0 where
  top : suc s.space.timer.top ≡ length
  count : new.space.timer.count ≡ count_after s.space.timer.count s.space.timer.top c
  flag : new.space.timer.matched ≡ (s.space.timer.matched || matches_within s.space.timer.count s.space.timer.top c)

spends : (length c : ℕ) (s new : State PadHistory) → MainTimer length s new c → 9 ≤ length → c ≤ 4 → s.space.timer.matched ≡ false
    → s.space.timer.count < length → Spends length s new c × (new.space.timer.count < length)
spends length c s new m long few clear within =
    let t = s.space.timer in
    elim (leb_tells (suc (t.count + c)) length) [
      | inl before ↦
          let inner : t.count + c ≤ t.top = omega (arith, m.top, before.1) in
          let count : new.space.timer.count ≡ t.count + c = m.count ∙ count_within t.count t.top c inner in
          let flag = m.flag ∙ (ap (λ b. b || matches_within t.count t.top c) clear ∙ match_within t.count t.top c inner) in
          (inl (flag, count), omega (arith, count, before.1))
      | inr past ↦
          let first : t.count ≤ t.top = omega (arith, within, m.top) in
          let over : t.top + 1 ≤ t.count + c = omega (arith, past.1, m.top) in
          let count : new.space.timer.count ≡ t.count + c - (t.top + 1) = m.count ∙ count_over t.count t.top c first over
          (omega (arith, m.top, long, few)) in
          let flag = m.flag ∙ (ap (λ b. t.matched || b) (match_over t.count t.top c first over) ∙ or-true t.matched) in
          (inr (flag, omega (arith, count, over, m.top)), omega (arith, count, within, few, long, m.top))
    ]

-- so it tells where main is
main_phase : (cert : Cert) (p c : ℕ) (s new : State PadHistory) (rest : Rest) → Before cert p s rest → c ≤ 4 → new.is_owed ≡ false
    → Spends (length_of cert.schedule rest.line) s new c → new.space.timer.count < length_of cert.schedule rest.line
    → Before cert (p + c) new rest ⊎ Due cert (p + c) new rest
main_phase cert p c s new rest before few settled (inl within) short =
    let z = cert.schedule in
    let here = at_more z p rest.line s.space.timer.count c before.place in
    inl (record {
      place = at_same z (p + c) rest.line rest.line (s.space.timer.count + c) new.space.timer.count refl (sym within.1) here;
      rested = omega (arith, before.rested, within.1);
      within = short;
      clear = within.0;
    })
main_phase cert p c s new rest before few settled (inr past) short =
    let z = cert.schedule in
    let here = at_more z p rest.line s.space.timer.count c before.place in
    inr (record {
      place = at_next z (p + c) rest.line new.space.timer.count (at_same z (p + c) rest.line rest.line (s.space.timer.count + c) _ refl
          (omega (arith, past.1)) here);
      early = omega (arith, past.1, before.within, few);
      set = past.0;
      settled = settled;
    })

-- where what is left of a result lands
record MainLands (cert : Cert) (o : Core) (new : State PadHistory) : Type 0 where
  inst : Instance
  stands : Stands cert Main o 0 inst new

main_lands : (laws : RuleLaws) (cert : Cert) (next : List ℕ) (split : Option ℕ) (left : Option Left) (r : Instance) (o : Core)
    (new : State PadHistory) → IsState new → IsCore o → r.kind ≡ Main → MeetsLeft cert.head (with_some_left left r) o 0 new
    → passes cert next split (with_some_left left r) ≡ true → MainLands cert o new
main_lands laws cert next split None r o new is_state old kind meets may_pass = absurd meets
main_lands laws cert next split (Some left) r o new is_state old kind meets may_pass =
    let to = passed laws cert next split (with_left left r) o 0 new is_state.core may_pass meets in
    record {
      inst = to.covered.inst;
      stands = lands laws.inside cert Main o 0 (with_left to.left (with_left left r)) new is_state old kind to.meets to.covered (inl refl);
    }

-- The turn

module _ (image : FinMap nat_cmp ℕ) (cert : Cert) (h : Premises image cert) (p : ℕ) (s : State PadHistory) (edges : List Edge)
    (new : State PadHistory) (carries : Carries image edges new) (plain : All (λ e. IsPlain e.kind) edges)
    (level : level_at cert.schedule p ≡ Some (sync_level s.space)) (inst : Instance) (local : LocalHolds image cert inst)
    (forth : local.step.back ≡ false) where
  abbrev z : Schedule
  z = cert.schedule

  succeeds : Succeeds cert local.next local.split inst local.step false
  succeeds = subst (Succeeds cert local.next local.split inst local.step) forth local.successor

  edge_of : (kind : Kind) → inst.kind ≡ kind → EdgeHolds image cert kind inst local.step
  edge_of kind is = subst (λ k. EdgeHolds image cert k inst local.step) is local.edge

  -- outside main, where the result lands: the events are the schedule's, and so is the level
  record Outside (kind : Kind) (o : Core) (d c : ℕ) : Type 0 where
    to : Instance
    stands : Stands cert kind o d to new
    place : At z (p + c) to.line to.clock
    sync : level_at z (p + c) ≡ Some (sync_level new.space)
    exact : shown edges ≡ scheduled (event_at z) p s.clock c

  outside : (kind : Kind) (o : Core) (d : ℕ) → is_main kind ≡ false → Stands cert kind o d inst s → At z p inst.line inst.clock
      → ((exit : Exit) (k : ℕ) → Contains local.step.exits.items exit → 1 ≤ exit.clocks → scheduled (event_at z) (position_of z inst) k
      exit.clocks ≡ listed (shown_at local.step.emit (k + exit.clocks)))
      → (one : OneStep cert.head (order_of z) inst o d local.step s edges new) → Outside kind o d one.exit.clocks
  outside kind o d other stands place edge one =
      let step = local.step in
      let exit = one.exit in
      let c = exit.clocks in
      let r = successor (order_of z) inst step exit in
      let not_main : is_main inst.kind ≡ false = ap is_main stands.of_kind ∙ other in
      let meets : Meets cert.head r o d new = subst (λ t. MeetsLeft cert.head (narrowed t exit r) o d new) (one.asks not_main) one.meets in
      let stretch : scheduled (event_at z) p s.clock c ≡ listed (shown_at step.emit (s.clock + c)) =
      scheduled_mod z p (position_of z inst) s.clock c place ∙ edge exit s.clock one.is_exit one.at_least_one in
      let old : sync_level s.space ≡ inst.level = level_is inst.kind inst.level (sync_level s.space) not_main stands.meets.level in
      let now : sync_level new.space ≡ level_after step.emit (inst.level % 2) = level_is inst.kind _ (sync_level new.space) not_main
      meets.level ∙ placed_level cert inst step exit not_main in
      let set : level_after step.emit (sync_level s.space) ≡ sync_level new.space = ap (level_after step.emit)
      (bit_level (plain_byte s.space 0x25) inst.level old) ∙ sym now in
      let then_level : level_at z (p + c) ≡ Some (sync_level new.space) = level_along z p s.clock c (frame_some z h.limits.schedule)
      ∙ (ap (λ es. last_in es (level_at z p)) stretch
      ∙ (ap (last_in (listed (shown_at step.emit (s.clock + c)))) level
      ∙ (last_in_listed step.emit (s.clock + c) (sync_level s.space) ∙ ap (λ v. Some v) set))) in
      let may_pass : passes cert local.next local.split (Some r) ≡ true =
      subst (λ t. passes cert local.next local.split (narrowed t exit r) ≡ true) (one.asks not_main) (succeeds exit one.is_exit) in
      let to = passed h.laws cert local.next local.split r o d new carries.is_state.core may_pass meets in
      let q = with_left to.left r in
      let b = to.covered.inst in
      let fits = is_placed cert h.limits to.covered.id to.covered.l to.covered.c b to.covered.is in
      let same = place_tells q b to.covered.inside in
      let there = at_same z (p + c) _ b.line _ b.clock (sym (placed_line cert inst step exit not_main) ∙ same.line)
      (sym (placed_clock cert inst step exit not_main) ∙ same.clock)
      (at_after z (p + c) inst.line (inst.clock + c) (at_more z p inst.line inst.clock c place)) in
      let sync = level_of_instance cert (p + c) (sync_level new.space) b fits then_level there in
      record {
        to = b;
        stands = lands h.laws.inside cert kind o d q new carries.is_state stands.old stands.of_kind to.meets to.covered (inr sync);
        place = there;
        sync = then_level;
        exact = one.events ∙ sym stretch;
      }

  -- a program that is alone goes on
  pub alone_forth : (o : Core) → AloneRuns cert p s inst o → OneStep cert.head (order_of z) inst o 0 local.step s edges new
      → Turned image cert p s (RunsAlone inst o) edges new
  alone_forth o runs one =
      let to = outside Alone o 0 refl runs.stands runs.place (edge_of Alone runs.stands.of_kind) one in
      record {
        follows = record {
          clocks = one.exit.clocks;
          some = one.at_least_one;
          clock = one.clock;
          meets = record {
            is_state = carries.is_state;
            flash = carries.flash;
            level = to.sync;
            running = RunsAlone to.to o;
            runs = record { stands = to.stands; place = to.place };
          };
          exact = to.exact;
          entries = carries.entries;
        };
        goes = plain;
      }

  pub handler_forth : (main : Instance) (o : Core) (was : State PadHistory) → HandlerRuns cert p s inst main o was
      → OneStep cert.head (order_of z) inst was.core (depth_of main) local.step s edges new
      → Turned image cert p s (RunsHandler inst main o was) edges new
  handler_forth main o was runs one =
      let kind = runs.stands.of_kind in
      let to = outside Handler was.core (depth_of main) refl runs.stands runs.place (edge_of Handler kind) one in
      record {
        follows = record {
          clocks = one.exit.clocks;
          some = one.at_least_one;
          clock = one.clock;
          meets = record {
            is_state = carries.is_state;
            flash = carries.flash;
            level = to.sync;
            running = RunsHandler to.to main o was;
            runs = record {
              stands = to.stands;
              place = to.place;
              below_top = one.below_top (ap is_handler kind);
              was_state = runs.was_state;
              main_stands = runs.main_stands;
              kept = still_kept cert (depth_of main) inst was s new kind runs.stands.meets.memory.depth one.untouched runs.kept;
            };
          };
          exact = to.exact;
          entries = carries.entries;
        };
        goes = plain;
      }

  -- main goes on
  pub main_forth : (o : Core) (rest : Rest) → MainRuns cert p s inst o rest → Before cert p s rest
      → OneStep cert.head (order_of z) inst o 0 local.step s edges new → Turned image cert p s (RunsMain inst o rest) edges new
  main_forth o rest runs before one =
      let c = one.exit.clocks in
      let r = successor (order_of z) inst local.step one.exit in
      let kind = runs.stands.of_kind in
      let rule = h.rests rest runs.rests.is_rest in
      let long = line_long z rest.line h.limits.schedule (h.limits.rests rest runs.rests.is_rest).line in
      let on : RunsOn Main c s new = subst (λ k. RunsOn k c s new) kind one.main_timer in
      let timer : MainTimer (length_of z rest.line) s new c = record { top = runs.rests.top; count = on.2; flag = on.3 } in
      let to = main_lands h.laws cert local.next local.split (left_at local.step.test (is_taken one.exit) r.compared (left_of r)) r o new
      carries.is_state runs.stands.old kind one.meets (succeeds one.exit one.is_exit) in
      let quiet = main_quiet cert p s.space.timer.count s.clock c rest rule before.place before.rested before.within one.at_most_four in
      let none : shown edges ≡ [] = one.events ∙ ap (λ e. listed (shown_at e (s.clock + c))) (one.silent (ap is_main kind)) in
      let spent = spends (length_of z rest.line) c s new timer long one.at_most_four before.clear before.within in
      record {
        follows = record {
          clocks = c;
          some = one.at_least_one;
          clock = one.clock;
          meets = record {
            is_state = carries.is_state;
            flash = carries.flash;
            level = level_along z p s.clock c (frame_some z h.limits.schedule)
                ∙ (ap (λ es. last_in es (level_at z p)) quiet ∙ (level ∙ ap (λ v. Some v) (sym on.0)));
            running = RunsMain to.inst o rest;
            runs = record {
              stands = to.stands;
              rests = record {
                is_rest = runs.rests.is_rest;
                cells = cells_same cert.head Handler rest.cells.items s.space.bytes new.space.bytes (λ a j e.
                    let apart = handlers_alone cert.head a j e in
                    one.untouched.cells a apart.range apart.there (subst (λ k. cell_place cert.head k a ≡ None) (sym kind) apart.none))
                    runs.rests.cells;
                top = ap suc on.1 ∙ runs.rests.top;
                phase = main_phase cert p c s new rest before one.at_most_four one.settled spent.0 spent.1;
              };
            };
          };
          exact = none ∙ sym quiet;
          entries = carries.entries;
        };
        goes = (plain, refl, before.clear, spent.0);
      }

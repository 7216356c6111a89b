-- Instructions that touch the core alone, one after another, are turns without edges.
use Rattle.std.proofs.Common.{◌≡◌, ℕ, zero, suc, ◌+◌, ◌<◌, ◌≤◌, Bool, true, false, not, ◌&&◌, ◌||◌, if◌then◌else◌, List, [], ◌∷◌, ◌++◌}
use Rattle.std.proofs.Common.{append-nil, refl, sym, ◌∙◌, ap, subst, inl, inr, arith, add_assoc}
use Rattle.std.proofs.lemmas.List.Elements.{filter-append}
use Rattle.std.specs.Prelude.{nat_le}
use Rattle.uz_core.specs.declared.machine.Edge.{Edge}
use Rattle.uz_core.specs.declared.machine.EdgeKind.TheVariants.{Leave}
use Rattle.uz_core.specs.Arithmetic.{bit_is_set}
use Rattle.uz_core.specs.Core.{Core, StepResult}
use Rattle.uz_core.specs.Timer.{Timer, is_counting, is_due, timer_after, count_after, matches_within}
use Rattle.uz_core.specs.PadLine.{PadHistory}
use Rattle.uz_core.specs.Space.{Space, history_wiring, space_after, space_loads}
use Rattle.uz_core.specs.Turn.{State, is_entry, state_after, after_instruction, instruction_edges, edges_at, all_edge_kinds}
use Rattle.uz_core.specs.Turn as machine
use Rattle.uz_core.specs.Run.{IsRunPart, edges_until}
use Rattle.uz_timer.proofs.Counting.{clocks_add}
use Rattle.uz_core.specs.Internals.{IsInternalStep, InternalRun, RunsInternally}
use Rattle.uz_core.proofs.InternalSteps.{run_keeps_enabled}
use Rattle.uz_core.proofs.PlainSteps.{result_of_step, step_time}
use Rattle.uz_pads.specs.declared.pads.Pads.{Pads}
use Rattle.uz_pads.specs.Pads.{pads_wiring}
use Rattle.uz_schedule.specs.declared.certificate.Cert.{Cert}
use Rattle.uz_console.specs.declared.console.Console.{Console}
use Rattle.uz_console.specs.Consoles.{StateStandsFor, StandsFor, state_of, clock_of}
use Rattle.uz_console.specs.Entry.{NotEntered}
use Rattle.uz_console.specs.Approaches.{NotEnteredBefore}
use Rattle.uz_console.specs.ManyTurns.{IsFree, LeadsTo}
use Rattle.uz_console.proofs.ApproachLemmas.{none_before_more}
use Rattle.uz_console.proofs.RunLemmas.{part_more, run_more}
use Rattle.uz_console.proofs.TurnLemmas.{carried_state}

-- One instruction

-- the core and the clock go on, and nothing is owed
abbrev pub advanced : State Pads → Core → ℕ → State Pads
advanced t core clocks = record t { core = core; space = space_after clocks t.space; is_owed = false; clock = t.clock + clocks }

one_turn : (t : State Pads) (next : Core) (clocks : ℕ) → is_entry t ≡ false → IsInternalStep t.image t.core next clocks →
    machine.Turn pads_wiring t [] (advanced t next clocks)
one_turn t next clocks idle h =
    let r = result_of_step (space_loads pads_wiring) t.image t.core next t.space [] clocks h.step in
    inr (record {
      enters = idle;
      row = (h.step).row;
      reads = ((h.step).reads).reads;
      runs = (h.step).runs;
      goes_to = ap (λ (d : StepResult (Space Pads)). state_after pads_wiring t d.core d.content d.stores d.clocks d.owed) r;
      emits = ap (λ (d : StepResult (Space Pads)). edges_at (t.clock + d.clocks)
          (all_edge_kinds pads_wiring d.stores (space_after d.clocks d.content) ++ (if d.returned then Leave ∷ [] else []))) r;
    })

-- The interrupt isn't due on the way

mask_stays : (b : Bool) (t u : Timer) → u.interrupt_mask ≡ t.interrupt_mask → (if b then u else t).interrupt_mask ≡ t.interrupt_mask
mask_stays true t u h = h
mask_stays false t u h = refl

due_stays : (t : Timer) (clocks : ℕ) → (timer_after clocks t).matched ≡ t.matched → is_due t ≡ false → is_due (timer_after clocks t) ≡ false
due_stays t clocks same due =
    let moved : Timer = record t {
      count = count_after t.count t.top clocks;
      matched = t.matched || matches_within t.count t.top clocks;
    } in
    ap (λ m. m && bit_is_set (timer_after clocks t).interrupt_mask 1) same ∙
    (ap (λ m. t.matched && bit_is_set m 1) (mask_stays (is_counting t) t moved refl) ∙ due)

-- nor is it taken where I is clear
not_taken : (due enabled free : Bool) → enabled ≡ false → (due && enabled && free) ≡ false
not_taken true enabled free h = ap (λ b. b && free) h
not_taken false enabled free h = refl

-- So many instructions

-- the state after them: the first leaves nothing owed
abbrev after_steps : ℕ → State Pads → Core → ℕ → State Pads
after_steps zero t core clocks = t
after_steps (suc n) t core clocks = advanced t core clocks

record Reaches (t u : State Pads) (core : Core) (clocks : ℕ) : Type 0 where
  image : u.image ≡ t.image
  core_is : u.core ≡ core
  idle : is_entry u ≡ false
  clock : u.clock ≡ t.clock + clocks
  on : (next : Core) (taken : ℕ) → advanced u next taken ≡ advanced t next (clocks + taken)

reaches : (limit : ℕ) (t : State Pads) (free : ℕ) → IsFree limit t free → (n : ℕ) (core : Core) (clocks : ℕ) → clocks < free →
    InternalRun t.image n t.core clocks core → Reaches t (after_steps n t core clocks) core clocks
reaches limit t free is_free zero core clocks h run = record {
  image = refl;
  core_is = sym run.1;
  idle = elim is_free.idle [
    | inl early ↦ ap (λ d. d && bit_is_set t.core.sreg 7 && not t.is_owed) early.clear
    | inr masked ↦ not_taken (is_due t.space.timer) (bit_is_set t.core.sreg 7) (not t.is_owed) masked
  ];
  clock = (let none = run.0 in omega (arith, none));
  on = λ next taken.
      let none = run.0 in
      let e : taken ≡ clocks + taken = omega (arith, none) in
      ap (λ k. advanced t next k) e;
}
reaches limit t free is_free (suc n) core clocks h run = record {
  image = refl;
  core_is = refl;
  idle = elim is_free.idle [
    | inl early ↦ ap (λ d. d && bit_is_set core.sreg 7 && true)
        (due_stays t.space.timer clocks (early.stays clocks h) early.clear)
    | inr masked ↦ not_taken (is_due (timer_after clocks t.space.timer)) (bit_is_set core.sreg 7) true
        (run_keeps_enabled t.image (suc n) t.core core clocks run ∙ masked)
  ];
  clock = refl;
  on = λ next taken.
      let by : Timer → ℕ → State Pads = λ timer clock.
      record t { core = next; space = record t.space { timer = timer }; is_owed = false; clock = clock } in
      ap (λ x. by x (t.clock + clocks + taken)) (sym (clocks_add clocks taken t.space.timer)) ∙
      ap (λ x. by (timer_after (clocks + taken) t.space.timer) x) (add_assoc t.clock clocks taken);
}

-- what turns without edges before the limit keep
abbrev Keeps : ℕ → (State PadHistory → Type 0) → Type 0
Keeps limit P = (s next : State PadHistory) → s.clock < limit → machine.Turn history_wiring s [] next → next.core.pc < 32768 → P s → P next

carries : (limit : ℕ) (P : State PadHistory → Type 0) → Keeps limit P → (t : State Pads) (free : ℕ) → IsFree limit t free → (n : ℕ)
    (core : Core) (clocks : ℕ) → clocks < free → InternalRun t.image n t.core clocks core →
    (s : State PadHistory) → StateStandsFor t s → P s → (last : State PadHistory) × StateStandsFor (after_steps n t core clocks) last
    × P last
carries limit P keeps t free is_free zero core clocks h run s stands p = (s, stands, p)
carries limit P keeps t free is_free (suc n) core clocks h (mid, before, taken, run, step, sum) s stands p =
    let time = step_time t.image mid core [] taken step.step in
    let some : 0 < taken = time.0 in
    let less : before < free = omega (arith, sum, some, h) in
    let here = carries limit P keeps t free is_free n mid before less run s stands p in
    let u = after_steps n t mid before in
    let at = reaches limit t free is_free n mid before less run in
    let there : IsInternalStep u.image u.core core taken = subst (λ x. IsInternalStep x u.core core taken) (sym at.image)
    (subst (λ x. IsInternalStep t.image x core taken) (sym at.core_is) step) in
    let goes : advanced u core taken ≡ advanced t core clocks = at.on core taken ∙ ap (λ k. advanced t core k) (sym sum) in
    let turn : machine.Turn pads_wiring u [] (advanced t core clocks) = subst (λ x. machine.Turn pads_wiring u [] x) goes
    (one_turn u core taken at.idle there) in
    let next = carried_state u (advanced t core clocks) [] turn here.0 here.1 in
    let clock : (here.0).clock ≡ t.clock + before = (here.1).clock ∙ at.clock in
    let in_run : (here.0).clock < limit = (let within = is_free.within in omega (arith, clock, less, within)) in
    let below : (next.0).core.pc < 32768 = subst (λ (c : Core). c.pc < 32768) (sym (next.2).core) step.below in
    (next.0, next.2, keeps here.0 next.0 in_run next.1 below here.2)

-- On the way to no watched pc

abbrev PartUnentered : Cert → ℕ → State PadHistory → List Edge → State PadHistory → Type 0
PartUnentered cert limit start edges s = (part : IsRunPart limit start edges s) × NotEnteredBefore cert limit start part.turns

part_unentered : (cert : Cert) (limit : ℕ) (start : State PadHistory) (edges : List Edge) (s next : State PadHistory) → s.clock < limit
    → machine.Turn history_wiring s [] next → NotEntered cert s → PartUnentered cert limit start edges s → PartUnentered cert limit start
    edges next
part_unentered cert limit start edges s next before turn not (part, none) = subst (λ es. PartUnentered cert limit start es next)
    (append-nil edges) (
      record {
        turns = suc part.turns;
        all_edges = part.all_edges ++ [];
        run = run_more limit part.turns start s next part.all_edges [] part.run (before, turn);
        in_time = ap (λ es. es ++ edges_until limit []) part.in_time ∙ sym (filter-append (λ (edge : Edge). nat_le edge.clock limit)
            part.all_edges []);
      },
      none_before_more cert limit part.turns start s part.all_edges part.run not none,
    )

elsewhere : (cert : Cert) (s : State PadHistory) (watched : ℕ) → 32768 ≤ watched → cert.entry.pc ≡ watched → s.core.pc < 32768
    → NotEntered cert s
elsewhere cert s watched high pc below p meets =
    let there : s.core.pc ≡ watched = meets.pc ∙ pc in
    absurd (omega (arith, there, high, below))

-- The console after them

abbrev Carries : ℕ → Console → Console → (State PadHistory → Type 0) → Type 0
Carries limit old new P = (s : State PadHistory) → StandsFor old s → P s → (last : State PadHistory) × StandsFor new last × P last

leads : (limit watched : ℕ) (old new : Console) (passed free : ℕ) → 32768 ≤ watched → IsFree limit (state_of old) free → passed < free →
    (n : ℕ) → InternalRun (state_of old).image n (state_of old).core passed (state_of new).core →
    after_steps n (state_of old) (state_of new).core passed ≡ state_of new → (state_of new).core.pc < 32768 →
    LeadsTo limit watched old new
leads limit watched old new passed free high is_free h n run moved below =
    let t = state_of old in
    let to : State Pads → State PadHistory → Type 0 = λ u s. StateStandsFor u s in
    let clock : clock_of new ≡ clock_of old + passed = sym (ap (λ (u : State Pads). u.clock) moved)
    ∙ (reaches limit t free is_free n (state_of new).core passed h run).clock in
    let within = is_free.within in
    record {
      run = λ start edges (last, part, stands).
          let part_keeps : Keeps limit (λ x. IsRunPart limit start edges x) = λ s next before turn at p.
          subst (λ es. IsRunPart limit start es next) (append-nil edges) (part_more limit start s next edges [] p before turn) in
          let c = carries limit (λ x. IsRunPart limit start edges x) part_keeps t free is_free n (state_of new).core passed h run last
          stands part in (c.0, c.2, subst (λ u. to u c.0) moved c.1);
      unmet = λ cert pc not s stands. elsewhere cert s watched high pc (subst (λ (core : Core). core.pc < 32768) (sym stands.core) below);
      unentered = λ cert pc not start edges before.
          let P : State PadHistory → Type 0 = λ x. PartUnentered cert limit start edges x × NotEntered cert x in
          let unentered_keeps : Keeps limit P = λ s next in_run turn at p. (
            part_unentered cert limit start edges s next in_run turn p.1 p.0,
            elsewhere cert next watched high pc at,
          ) in
          let c = carries limit P unentered_keeps t free is_free n (state_of new).core passed h run before.last before.stands
          ((before.part, before.none_before), not before.last before.stands) in
          record { last = c.0; part = c.2.0.0; stands = subst (λ u. to u c.0) moved c.1; none_before = c.2.0.1 };
      time = omega (arith, clock);
      before = λ first. omega (arith, clock, h, within);
      none = λ over. absurd (omega (arith, over, h, within));
    }

-- in so many clocks, of which some pass
pub leads_internally : (limit watched : ℕ) (old new : Console) (passed free : ℕ) → 32768 ≤ watched → IsFree limit (state_of old) free
    → passed < free → 0 < passed → RunsInternally (state_of old).image (state_of old).core passed (state_of new).core →
    state_of new ≡ advanced (state_of old) (state_of new).core passed → LeadsTo limit watched old new
leads_internally limit watched old new passed free high is_free h some (zero, run) moved =
    let none = run.0 in absurd (omega (arith, none, some))
leads_internally limit watched old new passed free high is_free h some (suc n, run) moved =
    leads limit watched old new passed free high is_free h (suc n) run (sym moved) (run.4).below

-- Every turn keeps the invariant, so every run keeps to the schedule.
use Rattle.uz_check.proofs.Common.{both_ways, ◌≡◌, ◌≢◌, inl, inr, All, ℕ, ◌+◌, ◌%◌, ◌≤◌, Bool, true, false, List, refl, sym, ◌∙◌, ap, subst}
use Rattle.uz_check.proofs.Common.{arith, Some, ◌&&◌, not, nat_cmp, FinMap, Instr, Reti, Reads, word_of, unique, Kind, Main, Handler, Alone}
use Rattle.uz_check.proofs.Common.{Rest, Instance, Cert, event_at, level_at, Edge, Stop, bit_is_set, Core, effect_of, PadHistory}
use Rattle.uz_check.proofs.Common.{history_wiring, State, Turn, sync_level, after_entry, entry_edges, after_instruction, instruction_edges}
use Rattle.uz_check.proofs.Common.{IsState, is_main, depth_of, TimerCounts, InTime, clock_of, order_of, IsPlain, EveryTurnGoes, Stands}
use Rattle.uz_check.proofs.Common.{Running, RunsAlone, RunsMain, RunsHandler, AloneRuns, MainRuns, HandlerRuns, Runs, Invariant}
use Rattle.uz_check.proofs.Premises.{Turned, EdgeHolds, Returns, Succeeds, LocalHolds, Premises}
use Rattle.std.proofs.lemmas.Bool.{false_from_ne_true, cases_Bool}
use Rattle.uz_core.specs.Turn.{IsInstructionTurn, is_entry}
use Rattle.uz_core.proofs.StateKept.{state_kept}
use Rattle.uz_rules.specs.OneStep.{Contained, InstructionBegins as Begins}
use Rattle.uz_check.specs.Invariant.{KeepsInvariant, HoldsAlong}
use Rattle.uz_check.proofs.Steps.{EveryStep, every_run, along}
use Rattle.uz_check.proofs.Cells.{head_fits}
use Rattle.uz_check.proofs.Entries.{no_entry, no_marks}
use Rattle.uz_check.proofs.Fitting.{is_placed, main_slots, line_long}
use Rattle.uz_check.proofs.Returns.{return_tells, forth_plain}
use Rattle.uz_check.proofs.Enters.{enters}
use Rattle.uz_check.proofs.Forth.{Carries, handler_forth, alone_forth, main_forth}
use Rattle.uz_check.proofs.Back.{handler_back}

-- what an entry says of the state
due_parts : (f i e o : Bool) → ((f && i) && e && not o) ≡ true → (f ≡ true) × (e ≡ true)
due_parts true true true o h = (refl, refl)
due_parts f i e o h = absurd cc

due_is : (f i e o : Bool) → f ≡ true → i ≡ true → e ≡ true → o ≡ false → ((f && i) && e && not o) ≡ true
due_is f i e o a b c d = rw (a, b, c, d) refl

-- a program that is alone and the handler run with I clear
no_entry_in : (s : State PadHistory) (inst : Instance) (kind : Kind) → inst.kind ≡ kind → bit_is_set s.core.sreg 7 ≡ is_main inst.kind
    → is_main kind ≡ false → is_entry s ≡ true → ⊥
no_entry_in s inst kind of_kind enabled clear now =
    let on = (due_parts s.space.timer.matched (bit_is_set s.space.timer.interrupt_mask 1) (bit_is_set s.core.sreg 7) s.is_owed now).1 in
    both_ways (bit_is_set s.core.sreg 7) (enabled ∙ (ap is_main of_kind ∙ clear)) on

-- only the handler has a RETI
back_of : (image : FinMap nat_cmp ℕ) (cert : Cert) (inst : Instance) (local : LocalHolds image cert inst) → local.step.back ≡ true
    → Returns cert inst local.step
back_of image cert inst local reti = subst (Succeeds cert local.next local.split inst local.step) reti local.successor

no_return : (image : FinMap nat_cmp ℕ) (cert : Cert) (inst : Instance) (kind : Kind) (local : LocalHolds image cert inst) → inst.kind ≡ kind
    → kind ≢ Handler → local.step.back ≡ true → ⊥
no_return image cert inst kind local of_kind other reti = other (sym of_kind ∙ (back_of image cert inst local reti).kind)

runs_reti : effect_of Reti ≢ Stop
runs_reti e = cc

abbrev HasTurn : State PadHistory → Type 0
HasTurn s = (more : List Edge) × (next : State PadHistory) × Turn history_wiring s more next

module _ (image : FinMap nat_cmp ℕ) (cert : Cert) (h : Premises image cert) (s : State PadHistory) (is_state : IsState s)
    (flash : s.image ≡ image) where
  local_of : {kind : Kind} {o : Core} {d : ℕ} {inst : Instance} → Stands cert kind o d inst s → LocalHolds image cert inst
  local_of {kind} {o} {d} {inst} stands = h.local stands.id stands.l stands.c inst stands.is

  -- What Containment asks of the instance that is met

  begins : (kind : Kind) (o : Core) (d : ℕ) (inst : Instance) (local : LocalHolds image cert inst) → Stands cert kind o d inst s
      → d ≤ cert.head.main → local.step.back ≡ false → Begins cert.head (order_of cert.schedule) image inst o d local.step s
  begins kind o d inst local stands few forth =
      let fits = is_placed cert h.limits stands.id stands.l stands.c inst stands.is in
      record {
        is_state = is_state;
        flash = flash;
        head_fits = head_fits cert.head h.limits.head;
        fits = record { flags = fits.flags; old = fits.old; depth = fits.slots };
        depth = few;
        meets = stands.meets;
        step_is = local.step_is;
        no_return = forth;
      }

  alone_goes : (p : ℕ) (inst : Instance) (o : Core) (local : LocalHolds image cert inst) → AloneRuns cert p s inst o
      → local.step.back ≡ false → Contained cert.head (order_of cert.schedule) inst o 0 local.step s
  alone_goes p inst o local runs forth =
      h.laws.alone cert.head (order_of cert.schedule) image inst o 0 local.step s runs.stands.of_kind
      (begins Alone o 0 inst local runs.stands (omega arith) forth)

  main_goes : (p : ℕ) (inst : Instance) (o : Core) (rest : Rest) (local : LocalHolds image cert inst) → MainRuns cert p s inst o rest
      → is_entry s ≡ false → local.step.back ≡ false → Contained cert.head (order_of cert.schedule) inst o 0 local.step s
  main_goes p inst o rest local runs later forth =
      let silent : EdgeHolds image cert Main inst local.step = subst (λ k. EdgeHolds image cert k inst local.step) runs.stands.of_kind
      local.edge in
      h.laws.main cert.head (order_of cert.schedule) image inst o 0 local.step s runs.stands.of_kind later silent
      (begins Main o 0 inst local runs.stands (omega arith) forth)

  handler_goes : (p : ℕ) (inst main : Instance) (o : Core) (was : State PadHistory) (local : LocalHolds image cert inst)
      → HandlerRuns cert p s inst main o was → local.step.back ≡ false
      → Contained cert.head (order_of cert.schedule) inst was.core (depth_of main) local.step s
  handler_goes p inst main o was local runs forth =
      let fits = is_placed cert h.limits runs.stands.id runs.stands.l runs.stands.c inst runs.stands.is in
      let main_fits = is_placed cert h.limits runs.main_stands.id runs.main_stands.l runs.main_stands.c main runs.main_stands.is in
      let long = line_long cert.schedule inst.line h.limits.schedule fits.line in
      h.laws.handler cert.head (order_of cert.schedule) image inst was.core (depth_of main) local.step s runs.stands.of_kind
      fits.clock (omega (arith, long))
      (begins Handler was.core (depth_of main) inst local runs.stands (main_slots cert main main_fits runs.main_stands.of_kind) forth)

  -- the machine reads at its pc what the rules read there
  reads_same : (row : Instr) (pc : ℕ) → s.core.pc ≡ pc → Reads (word_of s.image s.core.pc) (word_of s.image ((s.core.pc + 1) % 32768))
      row ≡ Reads (word_of image (pc % 32768)) (word_of image ((pc + 1) % 32768)) row
  reads_same row pc e =
      let small = is_state.core.pc in
      let same : s.core.pc ≡ pc % 32768 = omega (arith, e, small) in
      λ i. Reads (word_of (flash i) (same i)) (word_of (flash i) ((e i + 1) % 32768)) row

  reads_reti : (inst : Instance) (local : LocalHolds image cert inst) → s.core.pc ≡ inst.pc → local.step.back ≡ true
      → Reads (word_of s.image s.core.pc) (word_of s.image ((s.core.pc + 1) % 32768)) Reti
  reads_reti inst local pc back =
      subst (λ (T : Type 0). T) (sym (reads_same Reti inst.pc pc))
      (return_tells cert.head (order_of cert.schedule) image inst local.step local.step_is back).reads

  -- There is a turn

  goes_on : (p : ℕ) (running : Running) → Runs cert p s running → HasTurn s
  goes_on p (RunsAlone inst o) runs =
      let local = local_of runs.stands in
      elim (cases_Bool local.step.back) [
        | inl back ↦ absurd (no_return image cert inst Alone local runs.stands.of_kind (λ e. cc) back)
        | inr forth ↦ (alone_goes p inst o local runs forth).has_turn
      ]
  goes_on p (RunsMain inst o rest) runs =
      let local = local_of runs.stands in
      elim (cases_Bool (is_entry s)) [
        | inl now ↦ (
          entry_edges history_wiring s,
          after_entry history_wiring s,
          inl
              (record { enters = now; goes_to = refl; emits = refl }),
        )
        | inr later ↦
            elim (cases_Bool local.step.back) [
              | inl back ↦ absurd (no_return image cert inst Main local runs.stands.of_kind (λ e. cc) back)
              | inr forth ↦ (main_goes p inst o rest local runs later forth).has_turn
            ]
      ]
  goes_on p (RunsHandler inst main o was) runs =
      let local = local_of runs.stands in
      elim (cases_Bool local.step.back) [
        | inl back ↦ (
          instruction_edges history_wiring Reti s,
          after_instruction history_wiring Reti s,
          inr (record {
            enters = false_from_ne_true (is_entry s) (no_entry_in s inst Handler runs.stands.of_kind runs.stands.meets.enabled refl);
            row = Reti;
            reads = reads_reti inst local runs.stands.meets.pc back;
            runs = runs_reti;
            goes_to = refl;
            emits = refl;
          }),
        )
        | inr forth ↦ (handler_goes p inst main o was local runs forth).has_turn
      ]

  -- What each turn leads to

  module _ (edges : List Edge) (next : State PadHistory) where
    carried : IsInstructionTurn history_wiring s edges next → Carries image edges next
    carried turn = record {
      is_state = state_kept s next edges (inr turn) is_state;
      flash = ap (λ (t : State PadHistory). t.image) turn.goes_to ∙ flash;
      entries = subst (All (λ e. InTime e.kind)) (sym turn.emits) (no_entry turn.row s);
    }

    plain : (inst : Instance) (local : LocalHolds image cert inst) → s.core.pc ≡ inst.pc → local.step.back ≡ false
        → IsInstructionTurn history_wiring s edges next → All (λ e. IsPlain e.kind) edges
    plain inst local pc forth turn =
        let reads = subst (λ (T : Type 0). T) (reads_same turn.row inst.pc pc) turn.reads in
        subst (All (λ e. IsPlain e.kind)) (sym turn.emits)
        (no_marks turn.row s (forth_plain cert.head (order_of cert.schedule) image inst local.step turn.row local.step_is reads forth))

    pub turned : (p : ℕ) → level_at cert.schedule p ≡ Some (sync_level s.space) → (running : Running) → Runs cert p s running
        → Turn history_wiring s edges next → Turned image cert p s running edges next
    turned p level (RunsAlone inst o) runs (inl enter) =
        absurd (no_entry_in s inst Alone runs.stands.of_kind runs.stands.meets.enabled refl enter.enters)
    turned p level (RunsAlone inst o) runs (inr turn) =
        let local = local_of runs.stands in
        elim (cases_Bool local.step.back) [
          | inl back ↦ absurd (no_return image cert inst Alone local runs.stands.of_kind (λ e. cc) back)
          | inr forth ↦ alone_forth image cert h p s edges next (carried turn) (plain inst local runs.stands.meets.pc forth turn) level inst
              local forth o runs ((alone_goes p inst o local runs forth).each_turn edges next (inr turn))
        ]
    turned p level (RunsMain inst o rest) runs (inl enter) =
        elim runs.rests.phase [
          | inl before ↦
              let on = (due_parts s.space.timer.matched (bit_is_set s.space.timer.interrupt_mask 1) (bit_is_set s.core.sreg 7) s.is_owed
              enter.enters).0 in
              absurd (both_ways s.space.timer.matched before.clear on)
          | inr due ↦
              let then_state = subst IsState enter.goes_to (state_kept s next edges (inl enter) is_state) in
              let step = enters image cert p s inst o rest h is_state flash level runs due then_state in
              subst (λ es. Turned image cert p s (RunsMain inst o rest) es next) (sym enter.emits)
              (subst (Turned image cert p s (RunsMain inst o rest) (entry_edges history_wiring s)) (sym enter.goes_to) step)
        ]
    turned p level (RunsMain inst o rest) runs (inr turn) =
        let local = local_of runs.stands in
        elim (cases_Bool local.step.back) [
          | inl back ↦ absurd (no_return image cert inst Main local runs.stands.of_kind (λ e. cc) back)
          | inr forth ↦
              elim runs.rests.phase [
                | inl before ↦ main_forth image cert h p s edges next (carried turn) (plain inst local runs.stands.meets.pc forth turn)
                    level inst local forth o rest runs before ((main_goes p inst o rest local runs turn.enters forth).each_turn edges next
                    (inr turn))
                | inr due ↦
                    let ticks : TimerCounts Main s.space.timer = subst (λ k. TimerCounts k s.space.timer) runs.stands.of_kind
                    runs.stands.meets.ticks in
                    let on = due_is s.space.timer.matched (bit_is_set s.space.timer.interrupt_mask 1) (bit_is_set s.core.sreg 7) s.is_owed
                    due.set ticks.1 (runs.stands.meets.enabled ∙ ap is_main runs.stands.of_kind) due.settled in
                    absurd (both_ways (is_entry s) turn.enters on)
              ]
        ]
    turned p level (RunsHandler inst main o was) runs (inl enter) =
        absurd (no_entry_in s inst Handler runs.stands.of_kind runs.stands.meets.enabled refl enter.enters)
    turned p level (RunsHandler inst main o was) runs (inr turn) =
        let local = local_of runs.stands in
        elim (cases_Bool local.step.back) [
          | inl back ↦
              let reti = unique _ turn.row Reti turn.reads (reads_reti inst local runs.stands.meets.pc back) in
              let to : next ≡ after_instruction history_wiring Reti s = turn.goes_to
              ∙ ap (λ i. after_instruction history_wiring i s) reti in
              let emits : edges ≡ instruction_edges history_wiring Reti s = turn.emits
              ∙ ap (λ i. instruction_edges history_wiring i s) reti in
              let then_state = subst IsState to (state_kept s next edges (inr turn) is_state) in
              let step = handler_back image cert p s inst main o was local h flash level runs
              (back_of image cert inst local back) then_state back in
              subst (λ es. Turned image cert p s (RunsHandler inst main o was) es next) (sym emits)
              (subst (Turned image cert p s (RunsHandler inst main o was) (instruction_edges history_wiring Reti s)) (sym to) step)
          | inr forth ↦ handler_forth image cert h p s edges next (carried turn) (plain inst local runs.stands.meets.pc forth turn) level
              inst local forth main o was runs ((handler_goes p inst main o was local runs forth).each_turn edges next (inr turn))
        ]

pub every_step : (image : FinMap nat_cmp ℕ) (cert : Cert) → Premises image cert → EveryStep (Turn history_wiring) clock_of
    (event_at cert.schedule) (Invariant image cert)
every_step image cert h = record {
  goes_on = λ p s inv. goes_on image cert h s inv.is_state inv.flash p inv.running inv.runs;
  follows = λ p s edges next inv turn. (turned image cert h s inv.is_state inv.flash edges next p inv.level inv.running inv.runs
      turn).follows;
}

pub kept_of : (image : FinMap nat_cmp ℕ) (cert : Cert) → Premises image cert → KeepsInvariant image cert
kept_of image cert h s p inv T = every_run (Turn history_wiring) clock_of (event_at cert.schedule) (Invariant image cert)
    (every_step image cert h) p s inv T

pub holds_along : (image : FinMap nat_cmp ℕ) (cert : Cert) → Premises image cert → HoldsAlong image cert
holds_along image cert h s p n edges end inv run =
    let came = along (Turn history_wiring) clock_of (event_at cert.schedule) (Invariant image cert) (every_step image cert h) n p s edges
    end inv run in
    (came.clocks, came.clock, came.meets)

pub every_turn_goes : (image : FinMap nat_cmp ℕ) (cert : Cert) → Premises image cert → EveryTurnGoes image cert
every_turn_goes image cert h s p edges next now turn =
    let t = turned image cert h s now.is_state now.flash edges next p now.level now.running now.runs turn in
    (t.follows.clocks, t.follows.meets, t.follows.clock, t.goes)

-- What the abstract step of RETI is.
use Rattle.uz_check.proofs.Common.{and_parts, ◌≡◌, ℕ, suc, ◌+◌, ◌%◌, Bool, true, false, [], ◌∷◌, refl, sym, ◌∙◌, ap, subst, if◌then◌else◌}
use Rattle.uz_check.proofs.Common.{Option, Some, None, Ok, not, ◌&&◌, eqb-true, nat_cmp, FinMap, word_of, Instr, Reti, Reads, Decoded}
use Rattle.uz_check.proofs.Common.{unique, returns_from_interrupt, effect_of, Nothing, Kind, Handler, Head, EventKind, Instance, Lines}
use Rattle.uz_check.proofs.Common.{line_after, Fail, knows_comparisons, with_compared, is_handler, refuse_if, Exit, Step, keeps_time}
use Rattle.uz_check.proofs.Common.{sets_ahead, returns_with_top, clock_holds, step_unless, step_of_row, IsStep}
use Rattle.uz_schedule.specs.declared.lines.EventKind.TheVariants.{Leave}
use Rattle.uz_check.proofs.ReturnTurn.{is_reti}
use Rattle.uz_transfer.specs.declared.fail.Fail.TheVariants as fail

record Told (refused : Option Fail) (emitted : Option (Option EventKind)) (in_time : Bool) (plan step : Step) : Type 0 where
  event : Option EventKind
  fine : refused ≡ None
  emits : emitted ≡ Some event
  timely : in_time ≡ true
  is : step ≡ record plan { emit = event }

told : (refused : Option Fail) (emitted : Option (Option EventKind)) (in_time : Bool) (plan step : Step)
    → Ok step ≡ step_unless refused emitted in_time plan → Told refused emitted in_time plan step
told None (Some event) true plan step e = record { event = event; fine = refl; emits = refl; timely = refl; is = cc }
told refused emitted in_time plan step e = absurd cc

-- RETI has one exit: at the instance's own pc, four clocks on
abbrev pub return_exit : Instance → Exit
return_exit inst = record { pc = inst.pc % 32768; clocks = 4 }

-- a handler's RETI comes to its end as the timer does, and OCR1A is the last clock of the line on which it ends
pub record ReturnTime (lines : Lines) (inst : Instance) : Type 0 where
  pub keeps : keeps_time lines inst (return_exit inst) ≡ true
  pub top : suc inst.top ≡ lines.length (line_after lines inst.line (inst.clock + 4))

return_time : (lines : Lines) (inst : Instance) → inst.kind ≡ Handler → clock_holds lines (effect_of Reti) inst (return_exit inst ∷ [])
    ≡ true
    → ReturnTime lines inst
return_time lines inst kind e =
    let handler : is_handler inst.kind ≡ true = ap is_handler kind in
    let one = and_parts (keeps_time lines inst (return_exit inst) && (sets_ahead lines (effect_of Reti) inst (return_exit inst)
    && returns_with_top lines (effect_of Reti) inst (return_exit inst))) true (rw handler at e) in
    let first = and_parts (keeps_time lines inst (return_exit inst)) _ one.0 in
    let second = and_parts (sets_ahead lines (effect_of Reti) inst (return_exit inst)) _ first.1 in
    record { keeps = first.0; top = eqb-true (suc inst.top) (lines.length (line_after lines inst.line (inst.clock + 4))) second.1 }

-- the step is that of RETI, with a leave
pub record IsReturn (lines : Lines) (image : FinMap nat_cmp ℕ) (inst : Instance) (step : Step) : Type 0 where
  pub reads : Reads (word_of image (inst.pc % 32768)) (word_of image ((inst.pc + 1) % 32768)) Reti
  pub draft : step.draft ≡ with_compared Nothing inst
  pub exits : step.exits.items ≡ return_exit inst ∷ []
  pub emits : step.emit ≡ Some Leave
  pub clears : step.clears ≡ false
  pub time : ReturnTime lines inst

nothing_told : (t : Bool) → (if t then Nothing else Nothing) ≡ Nothing
nothing_told true = refl
nothing_told false = refl

module _ (head : Head) (lines : Lines) (image : FinMap nat_cmp ℕ) (inst : Instance) (step : Step) where
  abbrev ReadsHere : Instr → Type 0
  ReadsHere i = Reads (word_of image (inst.pc % 32768)) (word_of image ((inst.pc + 1) % 32768)) i

  -- a row that returns from an interrupt is RETI
  record IsRowReti : Type 0 where
    reads : ReadsHere Reti
    is : Ok step ≡ step_of_row head lines image (Some Reti) inst

  row_reti : (row : Option Instr) → Decoded (word_of image (inst.pc % 32768)) (word_of image ((inst.pc + 1) % 32768)) row
      → Ok step ≡ step_of_row head lines image row inst → step.back ≡ true → IsRowReti
  row_reti None reads e back = absurd cc
  row_reti (Some i) reads e back =
      let reti : i ≡ Reti = is_reti i (sym (ap (λ (x : Step). x.back) (told _ _ _ _ step e).is) ∙ back) in
      record { reads = subst ReadsHere reti reads.found; is = subst (λ k. Ok step ≡ step_of_row head lines image (Some k) inst) reti e }

  -- a return is the handler's
  pub handler_returns : IsStep head lines image inst (Ok step) → step.back ≡ true → inst.kind ≡ Handler
  handler_returns h back =
      by_kind inst.kind refl (told _ (Some (Some Leave)) _ _ step (row_reti h.row h.reads h.is back).is).fine
    where
      by_kind : (kind : Kind) → inst.kind ≡ kind → refuse_if (not (is_handler inst.kind)) fail.Return None ≡ None → inst.kind ≡ Handler
      by_kind Handler k e = k
      by_kind kind k e = let z : is_handler inst.kind ≡ false = ap is_handler k in absurd (let w = rw z at e in cc w)

  pub return_tells : IsStep head lines image inst (Ok step) → step.back ≡ true → IsReturn lines image inst step
  return_tells h back =
      let reti = row_reti h.row h.reads h.is back in
      let t = told _ (Some (Some Leave)) _ _ step reti.is in
      let event : t.event ≡ Some Leave = cc t.emits in
      record {
        reads = reti.reads;
        draft = ap (λ (x : Step). x.draft) t.is ∙ ap (λ c. with_compared c inst) (nothing_told (knows_comparisons head inst.kind));
        exits = ap (λ (x : Step). x.exits.items) t.is;
        emits = ap (λ (x : Step). x.emit) t.is ∙ event;
        clears = ap (λ (x : Step). x.clears) t.is;
        time = return_time lines inst (handler_returns h back) t.timely;
      }

  -- and where it isn't RETI, the row that is read there doesn't return from an interrupt
  row_forth : (i : Instr) (row : Option Instr) → Decoded (word_of image (inst.pc % 32768)) (word_of image ((inst.pc + 1) % 32768)) row
      → Ok step ≡ step_of_row head lines image row inst → ReadsHere i → step.back ≡ false → returns_from_interrupt (effect_of i) ≡ false
  row_forth i None decoded e reads forth = absurd cc
  row_forth i (Some j) decoded e reads forth =
      let t = told _ _ _ _ step e in
      let same : i ≡ j = unique _ i j reads decoded.found in
      ap (λ k. returns_from_interrupt (effect_of k)) same ∙ (sym (ap (λ (x : Step). x.back) t.is) ∙ forth)

  pub forth_plain : (i : Instr) → IsStep head lines image inst (Ok step) → ReadsHere i → step.back ≡ false
      → returns_from_interrupt (effect_of i) ≡ false
  forth_plain i h reads forth = row_forth i h.row h.reads h.is reads forth

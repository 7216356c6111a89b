-- What the local rule gives of an instance that it doesn't refuse.
use Rattle.uz_check.proofs.Common.{same_Some, not-false, or_cases, eqb-true, and_parts, ◌≡◌, inl, inr, Contains, ℕ, zero, suc, ◌+◌, ◌-◌}
use Rattle.uz_check.proofs.Common.{◌%◌, ◌≤◌, Bool, true, false, cond, List, [], ◌∷◌, refl, sym, ◌∙◌, ap, subst, arith, Option, Some, None}
use Rattle.uz_check.proofs.Common.{Result, Ok, Err, is_none, not, nat_eq, slice_get, nat_cmp, FinMap, append-nil, word_of, Instr, Reads}
use Rattle.uz_check.proofs.Common.{Decoded, unique, effect_of, instance_in, instance_at, order_of, event_at, Kind, Main, Handler, Alone}
use Rattle.uz_check.proofs.Common.{EventKind, Sync, Rest, Point, Instance, Cert, shown_at, listed, Fail, Exit, Step, is_main, main_emits}
use Rattle.uz_check.proofs.Common.{narrowed, refuse_if, IsReadAt, IsStep, step_of_row, successor, cells_inside, restored, position_of}
use Rattle.uz_check.proofs.Common.{is_kind, is_event, is_quiet, emits_as_scheduled, edges_fit, each_exit, lies_in_point, lies_in_any}
use Rattle.uz_check.proofs.Common.{LiesInPoint, is_no_opcode, row_emits_in_main, rest_in, return_fail, first_exit, end_of, has_successors}
use Rattle.uz_check.proofs.Common.{compares_edges, passes, step_fail, instance_fail, IsLocal, scheduled}
use Rattle.uz_schedule.specs.declared.lines.EventKind.TheVariants.{Pixel, Sound, Leave}
use Rattle.uz_check.proofs.Premises.{IsCovered, EdgeHolds, Succeeds, LocalHolds}
use Rattle.uz_check.proofs.Steps.{scheduled-+}
use Rattle.uz_check.proofs.Fitting.{opened, of_point}
use Rattle.uz_check.proofs.Returns.{return_tells, handler_returns}
use Rattle.uz_transfer.specs.declared.fail.Fail.TheVariants as fail

-- Tests that refuse nothing

pub unrefused : (b : Bool) (why : Fail) (later : Option Fail) → None ≡ refuse_if b why later → (b ≡ false) × (None ≡ later)
unrefused true why later e = absurd cc
unrefused false why later e = (refl, e)

-- Events

pub kind_tells : (a b : EventKind) → is_kind a b ≡ true → a ≡ b
kind_tells (Sync a) (Sync b) e = ap Sync (eqb-true a b e)
kind_tells Pixel Pixel e = refl
kind_tells Sound Sound e = refl
kind_tells Leave Leave e = refl
kind_tells a b e = absurd cc

pub event_tells : (a b : Option EventKind) → is_event a b ≡ true → a ≡ b
event_tells None None e = refl
event_tells (Some a) (Some b) e = ap (λ k. Some k) (kind_tells a b e)
event_tells a b e = absurd cc

pub none_tells : (o : Option EventKind) → is_none o ≡ true → o ≡ None
none_tells None e = refl
none_tells (Some k) e = absurd cc

-- n positions without an event
quiet_none : (at : ℕ → Option EventKind) (p k n : ℕ) → is_quiet at p n ≡ true → scheduled at p k n ≡ []
unfolding is_quiet
quiet_none at p k zero e = refl
quiet_none at p k (suc n) e =
    let both = and_parts (is_quiet at p n) _ e in
    let before = quiet_none at p k n both.0 in
    let i : suc n ≡ n + 1 = omega arith in
    let here : at (suc (p + n)) ≡ None = ap at (omega arith) ∙ none_tells _ both.1 in
    ap (scheduled at p k) i ∙ (scheduled-+ at p k n 1 ∙ rw (before, here) refl)

-- and one more
passed : (at : ℕ → Option EventKind) (p k c : ℕ) → 1 ≤ c → is_quiet at p (c - 1) ≡ true → scheduled at p k c ≡ listed
    (shown_at (at (p + c)) (k + c))
passed at p k zero some e = absurd (omega (arith, some))
passed at p k (suc n) some e =
    let m : suc n - 1 ≡ n = omega arith in
    let before = quiet_none at p k n (rw m at e) in
    let i : suc n ≡ n + 1 = omega arith in
    let here : at (suc (p + n)) ≡ at (p + suc n) = ap at (omega arith) in
    let clock : suc (k + n) ≡ k + suc n = omega arith in
    ap (scheduled at p k) i ∙ (scheduled-+ at p k n 1 ∙ rw (before, here, clock) (append-nil _))

-- Exits

pub exit_tells : (test : Exit → Bool) (exits : List Exit) (exit : Exit) → each_exit test exits ≡ true → Contains exits exit → test exit
    ≡ true
exit_tells test [] exit e (i, below, is) = absurd (omega (arith, below))
exit_tells test (x ∷ exits) exit e (zero, below, is) = let same : x ≡ exit = is in ap test (sym same)
    ∙ (and_parts (test x) (each_exit test exits) e).0
exit_tells test (x ∷ exits) exit e (suc i, below, is) = exit_tells test exits exit (and_parts (test x) (each_exit test exits) e).1
    (i, omega (arith, below), is)

exit_scheduled : (cert : Cert) (inst : Instance) (step : Step) → edges_fit cert.schedule (position_of cert.schedule inst) step.emit
    step.exits.items ≡ true → (exit : Exit) (k : ℕ) → Contains step.exits.items exit → 1 ≤ exit.clocks
    → scheduled (event_at cert.schedule) (position_of cert.schedule inst) k exit.clocks ≡ listed (shown_at step.emit (k + exit.clocks))
exit_scheduled cert inst step e exit k has some =
    let p = position_of cert.schedule inst in
    let both = and_parts (is_quiet (event_at cert.schedule) p (exit.clocks - 1)) _
    (exit_tells (λ x. emits_as_scheduled cert.schedule p step.emit x.clocks) step.exits.items exit e has) in
    passed (event_at cert.schedule) p k exit.clocks some both.0 ∙ ap (λ o. listed (shown_at o (k + exit.clocks)))
    (event_tells (event_at cert.schedule (p + exit.clocks)) step.emit both.1)

first_is : (exits : List Exit) (only : Exit) → exits ≡ only ∷ [] → Contains exits (first_exit exits)
first_is exits only is = subst (λ xs. Contains xs (first_exit xs)) (sym is) (zero, omega arith, refl)

-- Named successors

pub covered : (laws : LiesInPoint) (cert : Cert) (id : ℕ) (inst : Instance) → lies_in_point cert id inst ≡ true → IsCovered cert inst
covered laws cert id inst e =
    let h = laws cert id inst e in
    record { id = id; l = inst.line; c = h.count; inst = h.point_instance; is = h.is; inside = h.inside }

pub any_covered : (laws : LiesInPoint) (cert : Cert) (ids : List ℕ) (inst : Instance) → lies_in_any cert ids inst ≡ true
    → IsCovered cert inst
any_covered laws cert [] inst e = absurd cc
any_covered laws cert (id ∷ ids) inst e =
    elim (or_cases (lies_in_point cert id inst) (lies_in_any cert ids inst) e) [
      | inl here ↦ covered laws cert id inst here
      | inr there ↦ any_covered laws cert ids inst there
    ]

-- A return

record RestThere (rests : List Rest) (line : ℕ) (rest : Rest) : Type 0 where
  has : Contains rests rest
  line_is : line ≡ rest.line

rest_there : (rests : List Rest) (line : ℕ) (rest : Rest) → rest_in rests line ≡ Some rest → RestThere rests line rest
rest_there [] line rest e = absurd cc
rest_there (r ∷ rests) line rest e = there_by (nat_eq r.line line) refl (rest_there rests line rest) e
  where
    there_by : (t : Bool) → nat_eq r.line line ≡ t → (rest_in rests line ≡ Some rest → RestThere rests line rest) → cond t (Some r)
        (rest_in rests line) ≡ Some rest → RestThere (r ∷ rests) line rest
    there_by true p later f =
        let same : r ≡ rest = cc in
        record { has = (zero, omega arith, same); line_is = sym (eqb-true r.line line p) ∙ ap (λ (x : Rest). x.line) same }
    there_by false p later f =
        let h = later f in
        record { has = (suc h.has.0, omega (arith, h.has.1), h.has.2); line_is = h.line_is }

record ReturnTold (cert : Cert) (end : Instance) : Type 0 where
  rest : Rest
  has : Contains cert.rests rest
  line : end.line ≡ rest.line
  clock : end.clock ≡ rest.clock
  restored : restored end ≡ true
  cells : cells_inside end.cells.items rest.cells.items ≡ true

return_told : (cert : Cert) (end : Instance) (found : Option Rest) → rest_in cert.rests end.line ≡ found → None ≡ return_fail found end
    → ReturnTold cert end
return_told cert end None is e = absurd cc
return_told cert end (Some rest) is e =
    let there = rest_there cert.rests end.line rest is in
    let clock = unrefused _ _ _ e in
    let back = unrefused _ _ _ clock.1 in
    let both = and_parts (restored end) (cells_inside end.cells.items rest.cells.items) (not-false _ back.0) in
    record {
      rest = rest;
      has = there.has;
      line = there.line_is;
      clock = eqb-true end.clock rest.clock (not-false _ clock.0);
      restored = both.0;
      cells = both.1;
    }

-- The rule

result_tells : (image : FinMap nat_cmp ℕ) (cert : Cert) (next : List ℕ) (split : Option ℕ) (inst : Instance) (step : Step)
    → IsStep cert.head (order_of cert.schedule) image inst (Ok step) → (back : Bool) → step.back ≡ back
    → None ≡ cond back (return_fail (rest_in cert.rests (end_of cert inst step).line) (end_of cert inst step))
    (refuse_if (not (has_successors cert next split inst step)) fail.Successor None) → Succeeds cert next split inst step back
result_tells image cert next split inst step is true back e =
    let told = return_told cert (end_of cert inst step) (rest_in cert.rests (end_of cert inst step).line) refl e in
    let reti = return_tells cert.head (order_of cert.schedule) image inst step is back in
    record {
      kind = handler_returns cert.head (order_of cert.schedule) image inst step is back;
      rest = told.rest;
      is_rest = told.has;
      exit = first_exit step.exits.items;
      is_exit = first_is step.exits.items _ reti.exits;
      restored = told.restored;
      line = told.line;
      clock = told.clock;
      cells = told.cells;
    }
result_tells image cert next split inst step is false back e =
    let all = not-false _ (unrefused _ _ _ e).0 in
    λ exit has. exit_tells (λ x. passes cert next split (narrowed step.test x (successor (order_of cert.schedule) inst step x)))
    step.exits.items exit all has

main_silent : (row : Option Instr) (inst : Instance) (i : Instr) (first second : ℕ) → is_main inst.kind ≡ true → row_emits_in_main row
    inst ≡ false → (row ≡ None → ⊥) → ((j : Instr) → row ≡ Some j → i ≡ j) → main_emits (effect_of i) inst ≡ false
main_silent None inst i first second kind e some same = absurd (some refl)
main_silent (Some j) inst i first second kind e some same =
    let silent : main_emits (effect_of j) inst ≡ false = rw kind at e in
    ap (λ k. main_emits (effect_of k) inst) (same j refl) ∙ silent

reads_tell : (first second : ℕ) (row : Option Instr) (i : Instr) → Decoded first second row → Reads first second i → (j : Instr)
    → row ≡ Some j → i ≡ j
reads_tell first second None i decoded reads j e = absurd cc
reads_tell first second (Some k) i decoded reads j e =
    let same : k ≡ j = cc in
    unique _ i k reads decoded.found ∙ same

edge_tells : (image : FinMap nat_cmp ℕ) (cert : Cert) (row : Option Instr) (inst : Instance) (step : Step) → IsReadAt image inst.pc row
    → is_no_opcode row ≡ false → row_emits_in_main row inst ≡ false → compares_edges cert inst step ≡ true → (kind : Kind)
    → inst.kind ≡ kind → EdgeHolds image cert kind inst step
edge_tells image cert row inst step reads opcode silent compares Main kind =
    λ i at. main_silent row inst i (word_of image (inst.pc % 32768)) (word_of image ((inst.pc + 1) % 32768)) (ap is_main kind) silent
    (λ e. let z : true ≡ false = sym (ap is_no_opcode e) ∙ opcode in cc) (reads_tell _ _ row i reads at)
edge_tells image cert row inst step reads opcode silent compares Handler kind =
    let main : is_main inst.kind ≡ false = ap is_main kind in
    exit_scheduled cert inst step (rw main at compares)
edge_tells image cert row inst step reads opcode silent compares Alone kind =
    let main : is_main inst.kind ≡ false = ap is_main kind in
    exit_scheduled cert inst step (rw main at compares)

step_tells : (image : FinMap nat_cmp ℕ) (cert : Cert) (next : List ℕ) (split : Option ℕ) (row : Option Instr) (inst : Instance)
    (result : Result Step Fail) → IsReadAt image inst.pc row → is_no_opcode row ≡ false → step_of_row cert.head
    (order_of cert.schedule) image row inst ≡ result
    → None ≡ step_fail cert next split inst (row_emits_in_main row inst) result → LocalHolds image cert inst
step_tells image cert next split row inst (Err why) reads opcode is e = absurd cc
step_tells image cert next split row inst (Ok step) reads opcode is e =
    let silent = unrefused _ _ _ e in
    let compares = unrefused _ _ _ silent.1 in
    let step_is : IsStep cert.head (order_of cert.schedule) image inst (Ok step) = record {
      row = row;
      reads = reads;
      is = sym is;
    } in
    record {
      step = step;
      step_is = step_is;
      edge = edge_tells image cert row inst step reads opcode silent.0 (not-false _ compares.0) inst.kind refl;
      next = next;
      split = split;
      successor = result_tells image cert next split inst step step_is step.back refl compares.1;
    }

pub local_tells : (image : FinMap nat_cmp ℕ) (cert : Cert) (id l c : ℕ) (inst : Instance) → IsLocal image cert id l c None → instance_at
    cert id l c ≡ Some inst → LocalHolds image cert inst
local_tells image cert id l c inst h e =
    let opcode = unrefused _ _ _ h.is in
    let fails : None ≡ instance_fail image cert h.point.next.items h.point.split h.row (Some inst) = opcode.1
    ∙ ap (instance_fail image cert h.point.next.items h.point.split h.row) e in
    let at = opened (λ p. instance_in cert.schedule p l c) (slice_get cert.points id) inst e in
    let same : at.0 ≡ h.point = same_Some at.0 h.point (sym at.1 ∙ h.is_point) in
    let pc : h.point.pc ≡ inst.pc = ap (λ (p : Point). p.pc) (sym same) ∙ ap (λ (i : Instance). i.pc)
    (of_point cert at.0 l c inst at.2).is in
    step_tells image cert h.point.next.items h.point.split h.row inst _ (subst (λ k. IsReadAt image k h.row) pc h.reads) opcode.0 refl fails

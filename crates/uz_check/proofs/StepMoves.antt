-- The abstract step of an instance looks at no line but for the lengths of it and of the next: at another line where these are
-- the same it is the same step.
use Rattle.uz_check.proofs.Common.{each_exit, ◌≡◌, ℕ, ◌+◌, ◌≤◌, Bool, true, false, not, if◌then◌else◌, nat_eq, nat_le, nat_lt, Option, Some}
use Rattle.uz_check.proofs.Common.{None, List, [], ◌∷◌, ◌++◌, suc, map, refl, sym, ◌∙◌, ap, arith, ◌&&◌, ◌||◌, ◌%◌, ◌-◌, ◌*◌, ⊤, Result, Ok}
use Rattle.uz_check.proofs.Common.{Err, nat_cmp, FinMap, nat_tests, Instr, clocks_of, Effect, Store, Return, Stop, returns_from_interrupt}
use Rattle.uz_check.proofs.Common.{sample_clock, effect_of, Ends, Lines, line_after, Nothing, Val, Head, EventKind, Instance, is_single}
use Rattle.uz_check.proofs.Common.{Fail, Exit, Step, knows_comparisons, with_compared, span_of, value_at, cell_place, is_main, is_handler}
use Rattle.uz_check.proofs.Common.{address_range, main_emits, level_after, fail_of, keeps_time, sets_ahead, returns_with_top, is_in_time}
use Rattle.uz_check.proofs.Common.{clock_holds, handler_stores, stores_top, step_unless, step_of_row, is_stop}
use Rattle.uz_core.specs.declared.machine.Operand.TheVariants.{Constant, Register}
use Rattle.avr_table.specs.declared.Outcome.{Outcome}
use Rattle.avr_table.specs.declared.Outcome.TheVariants.{Taken}
use Rattle.avr_table.specs.Rows.{words_of}
use Rattle.uz_core.specs.declared.machine.AddressMode.{AddressMode}
use Rattle.uz_core.specs.declared.machine.AddressMode.TheVariants.{Direct}
use Rattle.uz_core.specs.declared.machine.BinaryOp.{BinaryOp}
use Rattle.uz_core.specs.declared.machine.Operand.{Operand}
use Rattle.uz_core.specs.declared.machine.SkipTest.TheVariants.{Equal}
use Rattle.uz_core.specs.declared.machine.JumpTarget.TheVariants.{Absolute}
use Rattle.uz_core.specs.declared.machine.Effect.TheVariants.{CopyByte, Binary, Unary, Load, LoadProgram, Branch, SkipIf, Jump}
use Rattle.uz_core.proofs.RowClocks.{stops, clocks_within}
use Rattle.uz_schedule.specs.declared.facts.Compared.{Compared}
use Rattle.uz_transfer.specs.declared.step.Test.{Test}
use Rattle.uz_transfer.specs.Narrowed.{test_of}
use Rattle.uz_transfer.specs.Compared.{past_pointer, may_be_sreg, told_by, told_after, compared_after}
use Rattle.uz_transfer.specs.Values.{with_flag_list}
use Rattle.uz_transfer.specs.Memory.{with_pointer_range, flags_from, with_cell, stored_in}
use Rattle.uz_transfer.specs.Transfer.{transfer}
use Rattle.uz_transfer.specs.Exits.{outcomes, targets}
use Rattle.uz_transfer.specs.Emission.{emission}
use Rattle.uz_transfer.specs.Timer.{top_after, temp_loaded, temp_after, with_timer}
use Rattle.uz_transfer.specs.Step.{exits_of, clears_flag, following_of, sampled_of, step_of, at_exit}
use Rattle.uz_core.specs.declared.machine.BinaryOp.TheVariants as binary
use Rattle.uz_core.specs.declared.machine.UnaryOp.TheVariants as unary

-- the same instance at line m
abbrev pub at_line : ℕ → Instance → Instance
at_line m inst = record inst { line = m }

-- What the step reads of the instance

address_moves : (to : AddressMode) (m : ℕ) (inst : Instance) → address_range to (at_line m inst) ≡ address_range to inst
address_moves (Direct k) m inst = refl
address_moves to m inst = refl

emission_moves : (e : Effect) (m : ℕ) (inst : Instance) → emission e (at_line m inst) ≡ emission e inst
emission_moves (Store (Direct k) r) m inst = refl
emission_moves (Return true) m inst = refl
emission_moves e m inst = refl

fail_moves : (head : Head) (e : Effect) (m : ℕ) (inst : Instance) → fail_of head e (at_line m inst) ≡ fail_of head e inst
fail_moves head (Store (Direct k) r) m inst = refl
fail_moves head (Jump (Absolute k) call) m inst = refl
fail_moves head (Return true) m inst = refl
fail_moves head e m inst = refl

clears_moves : (e : Effect) (m : ℕ) (inst : Instance) → clears_flag e (at_line m inst) ≡ clears_flag e inst
clears_moves (Store (Direct k) r) m inst = refl
clears_moves e m inst = refl

pub main_emits_moves : (e : Effect) (m : ℕ) (inst : Instance) → main_emits e (at_line m inst) ≡ main_emits e inst
main_emits_moves (Store (Direct k) r) m inst = refl
main_emits_moves e m inst = refl

outcomes_move : (image : FinMap nat_cmp ℕ) (following : ℕ) (e : Effect) (m : ℕ) (inst : Instance) → outcomes image following e
    (at_line m inst) ≡ outcomes image following e inst
outcomes_move image following (SkipIf (Equal d r)) m inst = refl
outcomes_move image following e m inst = refl

targets_move : (e : Effect) (o : Outcome) (following m : ℕ) (inst : Instance) → targets e o following (at_line m inst) ≡ targets e o
    following inst
targets_move (Jump (Absolute k) call) o following m inst = refl
targets_move (Return true) o following m inst = refl
targets_move (Branch flag set offset) Taken following m inst = refl
targets_move e o following m inst = refl

exits_move : (e : Effect) (clocks : Outcome → ℕ) (following m : ℕ) (inst : Instance) (os : List Outcome) → exits_of e clocks following
    (at_line m inst) os ≡ exits_of e clocks following inst os
exits_move e clocks following m inst [] = refl
exits_move e clocks following m inst (o ∷ os) = λ i.
    map (λ pc. record { pc = pc; clocks = clocks o }) (targets_move e o following m inst i) ++ exits_move e clocks following m inst os i

-- What it makes of the instance

pointer_moves : (mode : AddressMode) (m : ℕ) (old now : Instance) → with_pointer_range mode (at_line m old) (at_line m now) ≡ at_line m
    (with_pointer_range mode old now)
pointer_moves (Direct k) m old now = refl
pointer_moves mode m old now = refl

stored_moves : (head : Head) (a : Ends) (v : Val) (m : ℕ) (inst : Instance) → stored_in head a v (at_line m inst) ≡ at_line m
    (stored_in head a v inst)
stored_moves head a v m inst = by_case (is_single a) (nat_eq a.lo 0x5F) (cell_place head inst.kind a.lo)
  where
    by_case : (t u : Bool) (place : Option ℕ)
        → (if t then (if u then with_flag_list (flags_from v) (at_line m inst) else with_cell place (span_of v) (at_line m inst)) else
        at_line m inst)
        ≡ at_line m (if t then (if u then with_flag_list (flags_from v) inst else with_cell place (span_of v) inst) else inst)
    by_case true true place = refl
    by_case true false (Some j) = refl
    by_case true false None = refl
    by_case false u place = refl

transfer_moves : (head : Head) (image : FinMap nat_cmp ℕ) (following sampled : ℕ) (e : Effect) (m : ℕ) (inst : Instance)
    → transfer head image following sampled e (at_line m inst) ≡ at_line m (transfer head image following sampled e inst)
transfer_moves head image following sampled (CopyByte d (Register r)) m inst = refl
transfer_moves head image following sampled (Binary (binary.Add false) d (Register r) true) m inst = refl
transfer_moves head image following sampled (Binary (binary.Subtract false) d (Register r) true) m inst = refl
transfer_moves head image following sampled (Binary op d (Register r) true) m inst = refl
transfer_moves head image following sampled (Binary op d (Constant k) true) m inst = refl
transfer_moves head image following sampled (Unary unary.RotateRight d) m inst = refl
transfer_moves head image following sampled (Load d (Direct k)) m inst = refl
transfer_moves head image following sampled (Store to r) m inst =
    ap (λ a. with_pointer_range to (at_line m inst) (stored_in head a (value_at inst.regs r) (at_line m inst))) (address_moves to m inst)
    ∙ (ap (with_pointer_range to (at_line m inst)) (stored_moves head (address_range to inst) (value_at inst.regs r) m inst)
    ∙ pointer_moves to m inst (stored_in head (address_range to inst) (value_at inst.regs r) inst))
transfer_moves head image following sampled (LoadProgram d true) m inst = refl
transfer_moves head image following sampled (Jump target true) m inst = refl
transfer_moves head image following sampled (Return true) m inst = refl
transfer_moves head image following sampled e m inst = refl

-- What it makes of the timer

handler_stores_move : (at : ℕ) (to : AddressMode) (m : ℕ) (inst : Instance) → handler_stores at to (at_line m inst)
    ≡ handler_stores at to inst
handler_stores_move at to m inst = ap (λ a. is_handler inst.kind && (is_single a && nat_eq a.lo at)) (address_moves to m inst)

stores_top_moves : (e : Effect) (m : ℕ) (inst : Instance) → stores_top e (at_line m inst) ≡ stores_top e inst
stores_top_moves (Store to r) m inst = handler_stores_move 0x88 to m inst
stores_top_moves e m inst = refl

top_moves : (e : Effect) (m : ℕ) (inst : Instance) → top_after e (at_line m inst) ≡ top_after e inst
top_moves (Store to r) m inst =
    ap (λ b. if b then inst.temp.lo * 256 + (span_of (value_at inst.regs r)).lo else inst.top) (handler_stores_move 0x88 to m inst)
top_moves e m inst = refl

temp_moves : (sampled : ℕ) (e : Effect) (m : ℕ) (inst : Instance) → temp_after sampled e (at_line m inst) ≡ temp_after sampled e inst
temp_moves sampled (Load d from) m inst =
    ap (λ a. if is_handler inst.kind then temp_loaded sampled a inst.temp else inst.temp) (address_moves from m inst)
temp_moves sampled (Store to r) m inst =
    ap (λ b. if b then span_of (value_at inst.regs r) else inst.temp) (handler_stores_move 0x89 to m inst)
temp_moves sampled e m inst = refl

-- What the flags tell after it

binary_told_moves : (op : BinaryOp) (d : ℕ) (source : Operand) (compare : Bool) (m : ℕ) (inst : Instance)
    → told_by op d source compare (at_line m inst) ≡ told_by op d source compare inst
binary_told_moves (binary.Subtract false) d (Register r) true m inst = refl
binary_told_moves (binary.Subtract true) d (Register r) true m inst = refl
binary_told_moves op d source true m inst = refl
binary_told_moves op d source compare m inst = refl

told_moves : (e : Effect) (m : ℕ) (inst : Instance) → told_after e (at_line m inst) ≡ told_after e inst
told_moves (Binary op d source compare) m inst = binary_told_moves op d source compare m inst
told_moves (Store to r) m inst =
    ap (λ a. if may_be_sreg a then Nothing else past_pointer to inst.compared) (address_moves to m inst)
told_moves (Jump target true) m inst = refl
told_moves e m inst = refl

compared_moves : (head : Head) (e : Effect) (m : ℕ) (inst : Instance) → compared_after head e (at_line m inst) ≡ compared_after head e inst
compared_moves head e m inst = ap (λ c. if knows_comparisons head inst.kind then c else Nothing) (told_moves e m inst)

-- lines l and m have one length, and so have those that follow them
pub record LengthsAlike (lines : Lines) (l m : ℕ) : Type 0 where
  pub own : lines.length m ≡ lines.length l
  pub next : lines.length (lines.next m) ≡ lines.length (lines.next l)

-- the length of the line on which an instruction ends
ends_alike : (lines : Lines) (l m k : ℕ) → LengthsAlike lines l m → lines.length (line_after lines m k)
    ≡ lines.length (line_after lines l k)
ends_alike lines l m k h =
    ap (λ n. lines.length (if nat_lt k n then m else lines.next m)) h.own ∙ by_case (nat_lt k (lines.length l))
  where
    by_case : (b : Bool) → lines.length (if b then m else lines.next m) ≡ lines.length (if b then l else lines.next l)
    by_case true = h.own
    by_case false = h.next

pub each_same : (f g : Exit → Bool) (xs : List Exit) → ((x : Exit) → f x ≡ g x) → each_exit f xs ≡ each_exit g xs
each_same f g [] same = refl
each_same f g (x ∷ xs) same = λ i. same x i && each_same f g xs same i

module _ (lines : Lines) (m : ℕ) (inst : Instance) (h : LengthsAlike lines inst.line m) where
  keeps_moves : (x : Exit) → keeps_time lines (at_line m inst) x ≡ keeps_time lines inst x
  keeps_moves x =
      ap (λ n. nat_eq (suc inst.top) n || (nat_le (inst.clock + x.clocks) inst.top && nat_lt (inst.clock + x.clocks) n)) h.own

  sets_moves : (e : Effect) (x : Exit) → sets_ahead lines e (at_line m inst) x ≡ sets_ahead lines e inst x
  sets_moves e x =
      let k = inst.clock + x.clocks in
      λ i. not (stores_top_moves e m inst i) || nat_le (if nat_lt k (h.own i) then k else k - h.own i) (top_moves e m inst i)

  returns_move : (e : Effect) (x : Exit) → returns_with_top lines e (at_line m inst) x ≡ returns_with_top lines e inst x
  returns_move e x =
      ap (λ n. not (returns_from_interrupt e) || nat_eq (suc inst.top) n) (ends_alike lines inst.line m (inst.clock + x.clocks) h)

  in_time_moves : (e : Effect) (x : Exit) → is_in_time lines e (at_line m inst) x ≡ is_in_time lines e inst x
  in_time_moves e x = λ i. keeps_moves x i && (sets_moves e x i && returns_move e x i)

  time_moves : (e : Effect) (xs : List Exit) → clock_holds lines e (at_line m inst) xs ≡ clock_holds lines e inst xs
  time_moves e xs =
      ap (λ b. not (is_handler inst.kind) || b)
      (each_same (λ x. is_in_time lines e (at_line m inst) x) (λ x. is_in_time lines e inst x) xs (λ x. in_time_moves e x))

-- The step

abbrev pub step_at : ℕ → Step → Step
step_at m step = record step { draft = at_line m step.draft }

abbrev pub result_at : ℕ → Result Step Fail → Result Step Fail
result_at m (Ok step) = Ok (step_at m step)
result_at m (Err why) = Err why

unless_moves : (why : Option Fail) (emitted : Option (Option EventKind)) (in_time : Bool) (m : ℕ) (step : Step)
    → step_unless why emitted in_time (step_at m step) ≡ result_at m (step_unless why emitted in_time step)
unless_moves (Some why) emitted in_time m step = refl
unless_moves None (Some event) true m step = refl
unless_moves None emitted in_time m step = refl

abbrev drafted : Instance → ℕ → Ends → Compared → List Exit → Bool → Bool → Test → Step
drafted draft top temp compared exits back clears asks =
    record {
      draft = with_compared compared (with_timer top temp draft);
      exits = record { items = exits };
      emit = None;
      back = back;
      clears = clears;
      test = asks;
    }

step_moves : (head : Head) (lines : Lines) (image : FinMap nat_cmp ℕ) (e : Effect) (words : ℕ) (clocks : Outcome → ℕ) (m : ℕ)
    (inst : Instance)
    → LengthsAlike lines inst.line m
    → step_of head lines image e words clocks (at_line m inst) ≡ result_at m (step_of head lines image e words clocks inst)
step_moves head lines image e words clocks m inst h =
    let next = following_of words inst in
    let now = at_line m inst in
    let back = returns_from_interrupt e in
    let there = sampled_of (lines.length m) e clocks now in
    let here = sampled_of (lines.length inst.line) e clocks inst in
    let same : there ≡ here = ap (λ n. (inst.clock + sample_clock e clocks) % n) h.own in
    let exits : exits_of e clocks next now (outcomes image next e now) ≡ exits_of e clocks next inst (outcomes image next e inst) =
    ap (exits_of e clocks next now) (outcomes_move image next e m inst) ∙ exits_move e clocks next m inst (outcomes image next e inst) in
    let time : clock_holds lines e now (exits_of e clocks next now (outcomes image next e now)) ≡ clock_holds lines e inst
    (exits_of e clocks next inst (outcomes image next e inst)) =
    ap (clock_holds lines e now) exits ∙ time_moves lines m inst h e (exits_of e clocks next inst (outcomes image next e inst)) in
    let draft : transfer head image next there e now ≡ at_line m (transfer head image next here e inst) =
    ap (λ k. transfer head image next k e now) same ∙ transfer_moves head image next here e m inst in
    let temp : temp_after there e now ≡ temp_after here e inst = ap (λ k. temp_after k e now) same ∙ temp_moves here e m inst in
    (λ i. step_unless (fail_moves head e m inst i) (emission_moves e m inst i) (time i)
    (drafted (draft i) (top_moves e m inst i) (temp i) (compared_moves head e m inst i) (exits i) back (clears_moves e m inst i)
    (test_of head e inst)))
    ∙ unless_moves (fail_of head e inst) (emission e inst) (clock_holds lines e inst
    (exits_of e clocks next inst (outcomes image next e inst))) m
    (drafted (transfer head image next here e inst) (top_after e inst) (temp_after here e inst) (compared_after head e inst)
    (exits_of e clocks next inst (outcomes image next e inst)) back (clears_flag e inst) (test_of head e inst))

-- the step of an instance that is moved to another line is its step, moved
pub row_moves : (head : Head) (lines : Lines) (image : FinMap nat_cmp ℕ) (row : Option Instr) (m : ℕ) (inst : Instance)
    → LengthsAlike lines inst.line m
    → step_of_row head lines image row (at_line m inst) ≡ result_at m (step_of_row head lines image row inst)
row_moves head lines image None m inst h = refl
row_moves head lines image (Some i) m inst h = step_moves head lines image (effect_of i) (words_of i) (clocks_of i) m inst h

-- Results

-- the line of a result: the instance's own, and where the clock lies past its end the line after it
abbrev pub landed : Bool → ℕ → ℕ → ℕ → ℕ → ℕ
landed main k length l next = if main then l else (if nat_lt k length then l else next)

pub placed_moves : (lines : Lines) (m : ℕ) (inst draft : Instance) (emitted : Option EventKind) (clears : Bool) (x : Exit)
    → lines.length m ≡ lines.length inst.line
    → at_exit lines (at_line m inst) (at_line m draft) emitted clears x
    ≡ at_line (landed (is_main inst.kind) (inst.clock + x.clocks) (lines.length inst.line) m (lines.next m))
    (at_exit lines inst draft emitted clears x)
placed_moves lines m inst draft emitted clears x h =
    ap (λ n. record draft {
      kind = inst.kind;
      pc = x.pc;
      line = landed (is_main inst.kind) (inst.clock + x.clocks) n m (lines.next m);
      clock = if is_main inst.kind then inst.clock else (if nat_lt (inst.clock + x.clocks) n then inst.clock + x.clocks else
          inst.clock + x.clocks - n);
      level = if is_main inst.kind then inst.level else level_after emitted (inst.level % 2);
      pending = if is_handler inst.kind then not clears && (inst.pending || nat_le n (inst.clock + x.clocks)) else inst.pending;
    }) h

-- Each exit takes 4 clocks at most

abbrev pub are_few : List Exit → Bool
are_few [] = true
are_few (x ∷ xs) = nat_le x.clocks 4 && are_few xs

few_joined : (xs ys : List Exit) → are_few xs ≡ true → are_few ys ≡ true → are_few (xs ++ ys) ≡ true
few_joined [] ys h g = g
few_joined (x ∷ xs) ys h g = by_case (nat_le x.clocks 4) (λ e. few_joined xs ys e g) h
  where
    by_case : (b : Bool) → (are_few xs ≡ true → are_few (xs ++ ys) ≡ true) → (b && are_few xs) ≡ true → (b && are_few (xs ++ ys)) ≡ true
    by_case true rest h = rest h
    by_case false rest h = absurd cc

few_targets : (k : ℕ) (pcs : List ℕ) → k ≤ 4 → are_few (map (λ pc. record { pc = pc; clocks = k }) pcs) ≡ true
few_targets k [] h = refl
few_targets k (pc ∷ pcs) h =
    let few : nat_le k 4 ≡ true = grind (arith, nat_tests) in
    rw few (few_targets k pcs h)

few_exits : (e : Effect) (clocks : Outcome → ℕ) (following : ℕ) (inst : Instance) (os : List Outcome) → ((o : Outcome) → clocks o ≤ 4)
    → are_few (exits_of e clocks following inst os) ≡ true
few_exits e clocks following inst [] h = refl
few_exits e clocks following inst (o ∷ os) h =
    few_joined (map (λ pc. record { pc = pc; clocks = clocks o }) (targets e o following inst)) (exits_of e clocks following inst os)
    (few_targets (clocks o) (targets e o following inst) (h o)) (few_exits e clocks following inst os h)

abbrev pub FewOf : Result Step Fail → Type 0
FewOf (Ok step) = are_few step.exits.items ≡ true
FewOf (Err why) = ⊤

few_unless : (why : Option Fail) (emitted : Option (Option EventKind)) (in_time : Bool) (step : Step) → are_few step.exits.items ≡ true
    → FewOf (step_unless why emitted in_time step)
few_unless None (Some event) true step h = h
few_unless why emitted in_time step h = tt

same_stops : (e : Effect) → is_stop e ≡ stops e
same_stops Stop = refl
same_stops e = refl

low_of : (t : Bool) (n : ℕ) → t ≡ false → (t || (nat_le 1 n && nat_le n 4)) ≡ true → n ≤ 4
low_of true n s e = absurd cc
low_of false n s e = grind (arith, nat_tests)

pub few_row : (head : Head) (lines : Lines) (image : FinMap nat_cmp ℕ) (i : Instr) (inst : Instance) → is_stop (effect_of i) ≡ false
    → FewOf (step_of_row head lines image (Some i) inst)
few_row head lines image i inst h =
    let e = effect_of i in
    let next = following_of (words_of i) inst in
    let here = sampled_of (lines.length inst.line) e (clocks_of i) inst in
    let exits = exits_of e (clocks_of i) next inst (outcomes image next e inst) in
    few_unless (fail_of head e inst) (emission e inst) (clock_holds lines e inst exits)
    (drafted (transfer head image next here e inst) (top_after e inst) (temp_after here e inst) (compared_after head e inst) exits
    (returns_from_interrupt e) (clears_flag e inst) (test_of head e inst))
    (few_exits e (clocks_of i) next inst (outcomes image next e inst) (λ o. low_of (stops e) (clocks_of i o) (sym (same_stops e) ∙ h)
    (clocks_within i o)))

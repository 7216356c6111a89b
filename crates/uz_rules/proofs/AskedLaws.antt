-- A state at an exit meets what is left there of an instance, by what a branch or a skip asked.
use Rattle.uz_rules.proofs.Common.{◌≡◌, ℕ, ◌<◌, Bool, true, false, not, if◌then◌else◌, nat_eq, nat_lt, Option, Some, None, List, refl, sym}
use Rattle.uz_rules.proofs.Common.{ap, ◌∙◌, arith, slice_index, ◌&&◌, ◌||◌, Ok, nat_cmp, FinMap, nat_tests, clocks_of, Instr, Nop, Outcome}
use Rattle.uz_rules.proofs.Common.{Next, Taken, SkipOne, SkipTwo, word_of, Effect, Branch, SkipIf, Equal, RegisterBit, bit_is_set, Core}
use Rattle.uz_rules.proofs.Common.{register, bit_equals, following_pc, outcome_of, changed_core, IsCore, effect_of, EffectFits, PadHistory}
use Rattle.uz_rules.proofs.Common.{Timer, State, Head, Kind, Main, EventKind, Lines, Instance, zero_keeps, step_of_row, step_unless, Fail}
use Rattle.uz_rules.proofs.Common.{Exit, Step, is_three, knows_comparisons, is_main, left_of, narrowed, test_of, with_left, with_one, Left}
use Rattle.uz_rules.proofs.Common.{span_of, value_at, ComparedHolds, CoreMeets, Meets, TimerMeets, LeftMeets, and_right, byte_span}
use Rattle.uz_rules.specs.OneStep.{MeetsLeft}
use Rattle.uz_rules.proofs.CoreKeeps.{within_span}
use Rattle.uz_transfer.specs.Narrowed.{as_asked, asked, is_taken, left_at, narrowed_by, with_some_left}
use Rattle.avr_table.specs.Length.{length_of}
use Rattle.uz_schedule.specs.declared.kinds.RuleVersion.TheVariants.{Two}
use Rattle.uz_range.proofs.ResultsKeep.{bit_keeps}
use Rattle.uz_range.specs.Narrowing.{bit_narrowed}
use Rattle.uz_rules.proofs.Classes.{memory_same}
use Rattle.uz_rules.proofs.ExitsHold.{equals, is_equals}
use Rattle.uz_rules.proofs.NarrowingLaws.{both_meet, narrowing_meets, one_meets}
use Rattle.uz_schedule.specs.declared.facts.Against.TheVariants as against
use Rattle.uz_transfer.specs.declared.step.Test.TheVariants as test

-- The clocks of a branch and of a skip tell where it goes

abbrev pub is_branch : Effect → Bool
is_branch (Branch flag set offset) = true
is_branch e = false

abbrev pub is_skip : Effect → Bool
is_skip (SkipIf test) = true
is_skip e = false

-- onward in one clock, and away in more
pub record TellsAway (e : Effect) (clocks : Outcome → ℕ) : Type 0 where
  pub next : (is_branch e || is_skip e) ≡ true → nat_lt 1 (clocks Next) ≡ false
  pub taken : is_branch e ≡ true → nat_lt 1 (clocks Taken) ≡ true
  pub one : is_skip e ≡ true → nat_lt 1 (clocks SkipOne) ≡ true
  pub two : is_skip e ≡ true → nat_lt 1 (clocks SkipTwo) ≡ true

at_each : (i : Instr) → ((not (is_branch (effect_of i) || is_skip (effect_of i)) || not (nat_lt 1 (clocks_of i Next))) ≡ true)
    × ((not (is_branch (effect_of i)) || nat_lt 1 (clocks_of i Taken)) ≡ true)
    × ((not (is_skip (effect_of i)) || nat_lt 1 (clocks_of i SkipOne)) ≡ true)
    × ((not (is_skip (effect_of i)) || nat_lt 1 (clocks_of i SkipTwo)) ≡ true)
at_each Nop = (refl, refl, refl, refl)
at_each i = (refl, refl, refl, refl)

then_true : (a b : Bool) → (not a || b) ≡ true → a ≡ true → b ≡ true
then_true true b e h = e
then_true false b e h = absurd cc

then_false : (a b : Bool) → (not a || not b) ≡ true → a ≡ true → b ≡ false
then_false true false e h = refl
then_false a b e h = absurd cc

pub row_tells : (i : Instr) → TellsAway (effect_of i) (clocks_of i)
row_tells i = record {
  next = then_false (is_branch (effect_of i) || is_skip (effect_of i)) (nat_lt 1 (clocks_of i Next)) (at_each i).0;
  taken = then_true (is_branch (effect_of i)) (nat_lt 1 (clocks_of i Taken)) (at_each i).1;
  one = then_true (is_skip (effect_of i)) (nat_lt 1 (clocks_of i SkipOne)) (at_each i).2;
  two = then_true (is_skip (effect_of i)) (nat_lt 1 (clocks_of i SkipTwo)) (at_each i).3;
}

-- so the exit is the one that is taken just where the test holds
branch_taken : (clocks : Outcome → ℕ) (t : Bool) → nat_lt 1 (clocks Next) ≡ false → nat_lt 1 (clocks Taken) ≡ true
    → nat_lt 1 (clocks (if t then Taken else Next)) ≡ t
branch_taken clocks true next away = away
branch_taken clocks false next away = next

skip_taken : (clocks : Outcome → ℕ) (t u : Bool) → nat_lt 1 (clocks Next) ≡ false → nat_lt 1 (clocks SkipOne) ≡ true
    → nat_lt 1 (clocks SkipTwo) ≡ true → nat_lt 1 (clocks (if t then (if u then SkipTwo else SkipOne) else Next)) ≡ t
skip_taken clocks true true next one two = two
skip_taken clocks true false next one two = one
skip_taken clocks false u next one two = next

-- What each question leaves

-- a bit is as it was asked where the test holds, and else not
bool_asked : (t set : Bool) → t ≡ as_asked (equals t set) set
bool_asked true true = refl
bool_asked false true = refl
bool_asked true false = refl
bool_asked false false = refl

bit_asked : (n k : ℕ) (set : Bool) → bit_is_set n k ≡ as_asked (bit_equals n k set) set
bit_asked n k set = bool_asked (bit_is_set n k) set ∙ ap (λ t. as_asked t set) (sym (is_equals n k set))

flag_left : (k : ℕ) (set taken : Bool) (inst : Instance) (o s : Core) → IsCore s → CoreMeets inst o s → ComparedHolds inst.compared s
    → bit_is_set s.sreg k ≡ as_asked taken set → LeftMeets (left_at (test.Flag k set) taken inst.compared (left_of inst)) inst o s
flag_left k set taken inst o s c meets holds is = by_case (nat_lt k 5) refl
  where
    by_case : (t : Bool) → nat_lt k 5 ≡ t
        → LeftMeets (if t then narrowed_by inst.compared k (as_asked taken set) (left_of inst) else Some (left_of inst)) inst o s
    by_case true e = narrowing_meets inst.compared k (as_asked taken set) inst o s (grind (arith, nat_tests)) c meets holds is
    by_case false e = meets

equal_left : (d r : ℕ) (taken : Bool) (inst : Instance) (o s : Core) → d < 32 → r < 32 → IsCore s → CoreMeets inst o s
    → nat_eq (register s d) (register s r) ≡ taken
    → LeftMeets (left_at (test.Equal d r) taken inst.compared (left_of inst)) inst o s
equal_left d r taken inst o s hd hr c meets is =
    both_meet d (against.Register r) inst o s _ c meets
    (zero_keeps taken (span_of (value_at inst.regs d)) (span_of (value_at inst.regs r)) (register s d) (register s r)
    (within_span inst o s d c hd meets) (within_span inst o s r c hr meets) is)

bit_left : (r b : ℕ) (set taken : Bool) (inst : Instance) (o s : Core) → r < 32 → b < 8 → IsCore s → CoreMeets inst o s
    → bit_is_set (register s r) b ≡ as_asked taken set
    → LeftMeets (left_at (test.Bit r b set) taken inst.compared (left_of inst)) inst o s
bit_left r b set taken inst o s hr hb c meets is = by_case (nat_lt b 8)
  where
    by_case : (t : Bool) → LeftMeets (if t then with_one r (left_of inst) (bit_narrowed b (as_asked taken set)
        (byte_span (left_of inst) r)) else Some (left_of inst)) inst o s
    by_case true = one_meets r inst (left_of inst) o s _ c meets
        (bit_keeps b (as_asked taken set) (span_of (value_at inst.regs r)) (register s r) hb
        (within_span inst o s r c hr meets) is)
    by_case false = meets

-- At the exit of an instruction

-- `before` is the core before the instruction, and s the one after it
pub record Goes (e : Effect) (image : FinMap nat_cmp ℕ) (words : ℕ) (clocks : Outcome → ℕ) (loaded : List ℕ) (before s : Core) (exit : Exit) :
    Type 0 where
  pub tells : TellsAway e clocks
  pub goes : exit.clocks ≡ clocks (outcome_of e image words loaded before)
  pub registers : s.registers ≡ (changed_core e image words loaded before).registers
  pub sreg : s.sreg ≡ (changed_core e image words loaded before).sreg

asked_left : (e : Effect) (image : FinMap nat_cmp ℕ) (words : ℕ) (clocks : Outcome → ℕ) (loaded : List ℕ) (before s o : Core) (exit : Exit)
    (inst : Instance) → EffectFits e → Goes e image words clocks loaded before s exit → IsCore s → CoreMeets inst o s
    → ComparedHolds inst.compared s → LeftMeets (left_at (asked e) (is_taken exit) inst.compared (left_of inst)) inst o s
asked_left (Branch k set offset) image words clocks loaded before s o exit inst fits g c meets holds =
    let taken : is_taken exit ≡ bit_equals before.sreg k set = ap (nat_lt 1) g.goes
    ∙ branch_taken clocks (bit_equals before.sreg k set) (g.tells.next refl) (g.tells.taken refl) in
    flag_left k set (is_taken exit) inst o s c meets holds (ap (λ n. bit_is_set n k) g.sreg
    ∙ (bit_asked before.sreg k set ∙ ap (λ t. as_asked t set) (sym taken)))
asked_left (SkipIf (Equal d r)) image words clocks loaded before s o exit inst fits g c meets holds =
    let taken : is_taken exit ≡ nat_eq (register before d) (register before r) = ap (nat_lt 1) g.goes
    ∙ skip_taken clocks (nat_eq (register before d) (register before r))
    (nat_eq (length_of (word_of image (following_pc words before))) 2) (g.tells.next refl) (g.tells.one refl) (g.tells.two refl) in
    equal_left d r (is_taken exit) inst o s fits.0 fits.1 c meets
    (ap (λ xs. nat_eq (slice_index xs d) (slice_index xs r)) g.registers ∙ sym taken)
asked_left (SkipIf (RegisterBit r b set)) image words clocks loaded before s o exit inst fits g c meets holds =
    let taken : is_taken exit ≡ bit_equals (register before r) b set = ap (nat_lt 1) g.goes
    ∙ skip_taken clocks (bit_equals (register before r) b set) (nat_eq (length_of (word_of image (following_pc words before))) 2)
    (g.tells.next refl) (g.tells.one refl) (g.tells.two refl) in
    bit_left r b set (is_taken exit) inst o s fits.0 fits.1 c meets (ap (λ xs. bit_is_set (slice_index xs r) b) g.registers
    ∙ (bit_asked (register before r) b set ∙ ap (λ t. as_asked t set) (sym taken)))
asked_left e image words clocks loaded before s o exit inst fits g c meets holds = meets

-- a state that meets an instance meets what is left of it
timer_same : (kind : Kind) (inst : Instance) (left : Left) (t : Timer) → TimerMeets kind inst t → TimerMeets kind (with_left left inst) t
timer_same Main inst left t h = h
timer_same kind inst left t h = h

pub left_meets : (head : Head) (left : Option Left) (inst : Instance) (o : Core) (d : ℕ) (new : State PadHistory) → LeftMeets left inst o new.core
    → Meets head inst o d new → MeetsLeft head (with_some_left left inst) o d new
left_meets head None inst o d new core m = absurd core
left_meets head (Some left) inst o d new core m = record {
  pc = m.pc;
  enabled = m.enabled;
  core = core;
  compared = m.compared;
  memory = memory_same head inst (with_left left inst) o d new.core.sp new.core.sp new.space.bytes new.space.bytes refl refl refl refl refl
      m.memory;
  timer = timer_same inst.kind inst left new.space.timer m.timer;
  ticks = m.ticks;
  level = m.level;
  response = m.response;
}

pub exit_meets : (head : Head) (at : Instance) (e : Effect) (image : FinMap nat_cmp ℕ) (words : ℕ) (clocks : Outcome → ℕ) (loaded : List ℕ)
    (before o : Core) (d : ℕ) (exit : Exit) (inst : Instance) (new : State PadHistory) → EffectFits e
    → Goes e image words clocks loaded before new.core exit → IsCore new.core → Meets head inst o d new
    → MeetsLeft head (narrowed (test_of head e at) exit inst) o d new
exit_meets head at e image words clocks loaded before o d exit inst new fits g c m = by_case (knows_comparisons head at.kind)
  where
    by_case : (t : Bool) → MeetsLeft head (narrowed (if t then asked e else test.Nothing) exit inst) o d new
    by_case true = left_meets head (left_at (asked e) (is_taken exit) inst.compared (left_of inst)) inst o d new
        (asked_left e image words clocks loaded before new.core o exit inst fits g c m.core m.compared) m
    by_case false = m

-- Nothing is asked outside main, nor by the rules of version 2

pub asks_none : (head : Head) (e : Effect) (inst : Instance) → is_main inst.kind ≡ false → test_of head e inst ≡ test.Nothing
asks_none head e inst out =
    ap (λ t. if t then asked e else test.Nothing) (and_right (is_three head.version) (is_main inst.kind) out)

pub two_asks_none : (head : Head) (e : Effect) (inst : Instance) → head.version ≡ Two → test_of head e inst ≡ test.Nothing
two_asks_none head e inst two = ap (λ v. if is_three v && is_main inst.kind then asked e else test.Nothing) two

-- what a step that isn't refused tells
pub record Told (refused : Option Fail) (emitted : Option (Option EventKind)) (in_time : Bool) (plan step : Step) : Type 0 where
  pub event : Option EventKind
  pub fine : refused ≡ None
  pub emits : emitted ≡ Some event
  pub time : in_time ≡ true
  pub is : step ≡ record plan { emit = event }

pub step_tells : (refused : Option Fail) (emitted : Option (Option EventKind)) (in_time : Bool) (plan step : Step)
    → step_unless refused emitted in_time plan ≡ Ok step → Told refused emitted in_time plan step
step_tells None (Some event) true plan step e = record {
  event = event;
  fine = refl;
  emits = refl;
  time = refl;
  is = (let q : record plan { emit = event } ≡ step = cc in sym q);
}
step_tells refused emitted in_time plan step e = absurd cc

pub row_unasked : (head : Head) (lines : Lines) (image : FinMap nat_cmp ℕ) (row : Option Instr) (inst : Instance) (step : Step)
    → head.version ≡ Two → step_of_row head lines image row inst ≡ Ok step → step.test ≡ test.Nothing
row_unasked head lines image None inst step two e = absurd cc
row_unasked head lines image (Some i) inst step two e =
    ap (λ (x : Step). x.test) (step_tells _ _ _ _ step e).is ∙ two_asks_none head (effect_of i) inst two

-- An instance has one answer, and what its step was where it has results.
use Rattle.uz_search.proofs.Common.{◌≡◌, ℕ, zero, suc, Bool, true, false, List, [], ◌∷◌, ◌++◌, length, map, ◌≤◌, subst, Option, Some, None}
use Rattle.uz_search.proofs.Common.{Result, Ok, refl, sym, ◌∙◌, ap, slice_get, Instr, clocks_of, words_of, returns_from_interrupt}
use Rattle.uz_search.proofs.Common.{effect_of, Lines, EventKind, Instance, Fail, Exit, Step, Test, emission, is_main, left_at, is_taken}
use Rattle.uz_search.proofs.Common.{left_of, narrowed, test_of, with_left, with_some_left, Left, fail_of, clock_holds, at_exit, clears_flag}
use Rattle.uz_search.proofs.Common.{step_of_row, step_unless, successor, Next, results_plain, asks_none, timed, results_of, next_of}
use Rattle.uz_search.proofs.Common.{first_exit, decoded_same, Program, Among, Flash, After, order_of_program, same_Some}
use Rattle.uz_transfer.specs.Step.{all_exits, draft_of}
use Rattle.uz_rules.proofs.AfterLaws.{few_results}
use Rattle.uz_rules.specs.After.{if_there}

pub one_result : (image : Flash) (program : Program) (x : Instance) (a b : Result Next Fail) → After image program x a → After image program
    x b → a ≡ b
one_result image program x a b h k =
    h.is ∙ ap (λ row. next_of (order_of_program program) x (step_of_row program.head (order_of_program program) image
    row x))
    (decoded_same _ _ h.row k.row h.reads k.reads) ∙ sym k.is

ok_is : (a b : Next) → ◌≡◌ {A = Result Next Fail} (Ok a) (Ok b) → a ≡ b
ok_is a b h = cc

pub one_next : (image : Flash) (program : Program) (x : Instance) (a b : Next) → After image program x (Ok a) → After image program x (Ok b)
    → a ≡ b
one_next image program x a b h k = ok_is a b (one_result image program x (Ok a) (Ok b) h k)

-- Where an instance has results

abbrev pub exits_at : Flash → Instance → Instr → List Exit
exits_at image x i = all_exits image (effect_of i) (words_of i) (clocks_of i) x

abbrev pub draft_at : Flash → Program → Instance → Instr → Instance
draft_at image program x i = draft_of program.head ((order_of_program program).length x.line) image (effect_of i) (words_of i)
    (clocks_of i) x

-- of a step with this reason, this emission and the timer in time or not
record Unless (lines : Lines) (x : Instance) (why : Option Fail) (emission : Option (Option EventKind)) (in_time : Bool) (step : Step)
    (next : Next) : Type 0 where
  emitted : Option EventKind
  fails : why ≡ None
  emits : emission ≡ Some emitted
  is : ◌≡◌ {A = Result Next Fail} (Ok next) (next_of lines x (Ok (record step { emit = emitted })))

unless : (lines : Lines) (x : Instance) (why : Option Fail) (emission : Option (Option EventKind)) (in_time : Bool) (step : Step)
    (next : Next) → Ok next ≡ next_of lines x (step_unless why emission in_time step) → Unless lines x why emission in_time step next
unless lines x (Some why) emission in_time step next h = cc
unless lines x None None in_time step next h = cc
unless lines x None (Some emitted) false step next h = cc
unless lines x None (Some emitted) true step next h = record { emitted = emitted; fails = refl; emits = refl; is = h }

-- the step of a row that isn't refused
abbrev pub step_at : Flash → Program → Instance → Instr → Option EventKind → Step
step_at image program x i emitted = record {
  draft = draft_at image program x i;
  exits = record { items = exits_at image x i };
  emit = emitted;
  back = returns_from_interrupt (effect_of i);
  clears = clears_flag (effect_of i) x;
  test = test_of program.head (effect_of i) x;
}

-- the row that is read, and what it makes of the instance
pub record Steps (image : Flash) (program : Program) (x : Instance) (next : Next) : Type 0 where
  pub row : Instr
  pub emitted : Option EventKind
  pub fails : fail_of program.head (effect_of row) x ≡ None
  pub emits : emission (effect_of row) x ≡ Some emitted
  pub emit : next.emit ≡ timed emitted (first_exit (exits_at image x row)).clocks
  pub back : next.back ≡ returns_from_interrupt (effect_of row)
  pub out : next.out.items ≡ results_of (order_of_program program) x (step_at image program x row emitted) (exits_at image x row)
  -- outside main nothing is narrowed
  pub plain : is_main x.kind ≡ false → next.out.items ≡ map (at_exit (order_of_program program) x (draft_at image program x row) emitted
      (clears_flag (effect_of row) x))
      (exits_at image x row)

steps_row : (image : Flash) (program : Program) (x : Instance) (next : Next) (row : Option Instr)
    → Ok next ≡ next_of (order_of_program program) x (step_of_row program.head (order_of_program program) image row x)
    → Steps image program x next
steps_row image program x next None h = cc
steps_row image program x next (Some i) h = record {
  row = i;
  emitted = u.emitted;
  fails = u.fails;
  emits = u.emits;
  emit = ap (λ (n : Next). n.emit) is;
  back = ap (λ (n : Next). n.back) is;
  out = ap (λ (n : Next). n.out.items) is;
  plain = λ apart. ap (λ (n : Next). n.out.items) is ∙ results_plain (order_of_program program) x (step_at image program x i u.emitted)
      (asks_none program.head (effect_of i) x apart) (exits_at image x i);
}
  where
    in_time : Bool
    in_time = clock_holds (order_of_program program) (effect_of i) x (exits_at image x i)

    u : Unless (order_of_program program) x (fail_of program.head (effect_of i) x) (emission (effect_of i) x) in_time
        (step_at image program x i None) next
    u = unless (order_of_program program) x (fail_of program.head (effect_of i) x) (emission (effect_of i) x) in_time
        (step_at image program x i None) next h

    is : next ≡ record {
      emit = timed u.emitted (first_exit (exits_at image x i)).clocks;
      back = returns_from_interrupt (effect_of i);
      out = record { items = results_of (order_of_program program) x (step_at image program x i u.emitted) (exits_at image x i) };
    }
    is = ok_is next _ u.is

pub steps : (image : Flash) (program : Program) (x : Instance) (next : Next) → After image program x (Ok next) → Steps image program x next
steps image program x next h = steps_row image program x next h.row h.is

-- Where a result comes from

-- the exit at which it is what is left
pub record LeftAt (lines : Lines) (x : Instance) (step : Step) (exits : List Exit) (y : Instance) : Type 0 where
  pub exit : Exit
  pub there : Among exits exit
  pub left : narrowed step.test exit (successor lines x step exit) ≡ Some y

pub left_at_exit : (lines : Lines) (x : Instance) (step : Step) (exits : List Exit) (y : Instance)
    → Among (results_of lines x step exits) y → LeftAt lines x step exits y
left_at_exit lines x step [] y (i, h) = cc
left_at_exit lines x step (exit ∷ exits) y (i, h) =
    by (λ there. left_at_exit lines x step exits y there) (narrowed step.test exit (successor lines x step exit)) refl i h
  where
    later : LeftAt lines x step exits y → LeftAt lines x step (exit ∷ exits) y
    later r = record { exit = r.exit; there = (suc r.there.0, r.there.1); left = r.left }

    by : (Among (results_of lines x step exits) y → LeftAt lines x step exits y) → (o : Option Instance)
        → narrowed step.test exit (successor lines x step exit) ≡ o → (i : ℕ)
        → slice_get (if_there o ++ results_of lines x step exits) i ≡ Some y → LeftAt lines x step (exit ∷ exits) y
    by rest None is i h = later (rest (i, h))
    by rest (Some z) is zero h = record { exit = exit; there = (0, refl); left = is ∙ h }
    by rest (Some z) is (suc i) h = later (rest (i, h))

-- what is left at an exit is a result
pub left_is_result : (lines : Lines) (x : Instance) (step : Step) (exits : List Exit) (exit : Exit) (y : Instance)
    → Among exits exit → narrowed step.test exit (successor lines x step exit) ≡ Some y → Among (results_of lines x step exits) y
left_is_result lines x step [] exit y (i, h) left = cc
left_is_result lines x step (first ∷ exits) exit y (zero, h) left = (
  0,
  ap (λ o. slice_get (if_there o ++ results_of lines x step exits) 0)
      (ap (λ e. narrowed step.test e (successor lines x step e)) (same_Some first exit h) ∙ left),
)
left_is_result lines x step (first ∷ exits) exit y (suc i, h) left =
    by (narrowed step.test first (successor lines x step first)) (left_is_result lines x step exits exit y (i, h) left)
  where
    by : (o : Option Instance) → Among (results_of lines x step exits) y → Among (if_there o ++ results_of lines x step exits) y
    by None there = there
    by (Some z) there = (suc there.0, there.1)

-- it has other registers and pairs alone
pub left_only : (test : Test) (exit : Exit) (z y : Instance) → narrowed test exit z ≡ Some y
    → record z { regs = y.regs; pairs = y.pairs } ≡ y
left_only test exit z y h = by (left_at test (is_taken exit) z.compared (left_of z)) h
  where
    by : (o : Option Left) → with_some_left o z ≡ Some y → record z { regs = y.regs; pairs = y.pairs } ≡ y
    by None e = cc
    by (Some left) e =
        let is : with_left left z ≡ y = same_Some (with_left left z) y e in
        ap (λ (w : Instance). record z { regs = w.regs; pairs = w.pairs }) (sym is) ∙ is

-- by any version there are no more results than exits
pub record FewOf (image : Flash) (program : Program) (x : Instance) (next : Next) : Type 0 where
  pub row : Instr
  pub fails : fail_of program.head (effect_of row) x ≡ None
  pub few : length next.out.items ≤ length (exits_at image x row)

few_row : (image : Flash) (program : Program) (x : Instance) (next : Next) (row : Option Instr)
    → Ok next ≡ next_of (order_of_program program) x (step_of_row program.head (order_of_program program) image row x)
    → FewOf image program x next
few_row image program x next None h = cc
few_row image program x next (Some i) h =
    let u = unless (order_of_program program) x (fail_of program.head (effect_of i) x) (emission (effect_of i) x)
    (clock_holds (order_of_program program) (effect_of i) x (exits_at image x i)) (step_at image program x i None) next h in
    record {
      row = i;
      fails = u.fails;
      few = subst (λ l. length l ≤ length (exits_at image x i)) (sym (ap (λ (n : Next). n.out.items) (ok_is next _ u.is)))
          (few_results (order_of_program program) x (step_at image program x i u.emitted) (exits_at image x i));
    }

pub few_of_after : (image : Flash) (program : Program) (x : Instance) (next : Next) → After image program x (Ok next)
    → FewOf image program x next
few_of_after image program x next h = few_row image program x next h.row h.is

-- Where the results of an instance stand, and what is shown on the way to them.
use Rattle.uz_search.proofs.Common.{◌≡◌, ◌≢◌, ℕ, zero, suc, ◌<◌, ◌≤◌, ◌+◌, ◌-◌, ◌%◌, List, [], ◌∷◌, map, Option, Some, None, true, false}
use Rattle.uz_search.proofs.Common.{not, ◌&&◌, ◌||◌, refl, sym, ap, ◌∙◌, subst, ⊎_elim, slice_get, if◌then◌else◌, arith, mod-eq_of_lt}
use Rattle.uz_search.proofs.Common.{returns_from_interrupt, effect_of, clocks_of, words_of, line_after, clock_after, whole_byte, is_top}
use Rattle.uz_search.proofs.Common.{length_of, scanline, IsInstanceTold, Kind, Main, Handler, Alone, EventKind, Sync, Pixel, Sound, Leave}
use Rattle.uz_search.proofs.Common.{Instance, Exit, emission, emission_at, level_after, outcomes, is_main, narrowed, test_of, clears_flag}
use Rattle.uz_search.proofs.Common.{following_of, at_exit, sampled_of, pair_range, Next, timed, first_exit, Program, ProgramFits, Stands}
use Rattle.uz_search.proofs.Common.{Among, Flash, order_of_program, lines_of, line_on, clock_on, place_on, clocks_between, most_clocks}
use Rattle.uz_search.proofs.Common.{cases_Bool, same_Some}
use Rattle.uz_transfer.specs.Step.{ends_line}
use Rattle.uz_search.specs.Following.{frame_of}
use Rattle.uz_transfer.specs.Compared.{with_compared}
use Rattle.uz_transfer.specs.Timer.{with_timer}
use Rattle.uz_search.proofs.OneResult.{Steps, exits_at, draft_at, left_at_exit, left_only, step_at}
use Rattle.uz_search.proofs.Lists.{in_map, kind_cases}
use Rattle.uz_search.proofs.Exits.{exit_clocks, first_exit_of, emits_one, returns_one, OneExit}
use Rattle.uz_search.proofs.Events.{Turns, Emits, emits, back_handler, level_turned}
use Rattle.uz_search.proofs.FramePlaces.{Reaches, length_few, length_some, line_below, reach_after, reach_line, between_of}
use Rattle.uz_search.proofs.TimerLaws.{handler_not, temp_kept, top_kept, top_stays}
use Rattle.uz_search.proofs.ToldLaws.{told_so, transfer_leaves}

pub apart_main : (k : Kind) → k ≢ Main → is_main k ≡ false
apart_main Main h = absurd (h refl)
apart_main Handler h = refl
apart_main Alone h = refl

-- a result, at its exit
pub record AtExit (image : Flash) (program : Program) (x : Instance) (next : Next) (s : Steps image program x next) (y : Instance) : Type
    0 where
  pub exit : Exit
  pub there : Among (exits_at image x s.row) exit
  -- what is left there, and where registers and pairs are as they are left, all that is known there
  pub left : narrowed (test_of program.head (effect_of s.row) x) exit (at_exit (order_of_program program) x (draft_at image program x s.row)
      s.emitted (clears_flag (effect_of s.row) x) exit) ≡ Some y
  pub is : record (at_exit (order_of_program program) x (draft_at image program x s.row) s.emitted (clears_flag (effect_of s.row) x) exit) {
    regs = y.regs;
    pairs = y.pairs;
  } ≡ y
  pub some : 1 ≤ exit.clocks
  pub few : exit.clocks ≤ 4

module _ (image : Flash) (program : Program) (x : Instance) (next : Next) (s : Steps image program x next) where
  pub result : (y : Instance) → Among next.out.items y → AtExit image program x next s y
  result y h =
      let at = left_at_exit (order_of_program program) x (step_at image program x s.row s.emitted) (exits_at image x s.row) y
      (subst (λ l. Among l y) s.out h) in
      let clocks = exit_clocks image program.head s.row x (following_of (words_of s.row) x)
      (outcomes image (following_of (words_of s.row) x) (effect_of s.row) x) at.exit s.fails at.there in
      record {
        exit = at.exit;
        there = at.there;
        left = at.left;
        is = left_only (test_of program.head (effect_of s.row) x) at.exit
            (at_exit (order_of_program program) x (draft_at image program x s.row) s.emitted (clears_flag (effect_of s.row) x) at.exit) y
            at.left;
        some = clocks.0;
        few = clocks.1;
      }

  -- outside main there is one, where Z's ends are in order
  pub some_result : is_main x.kind ≡ false → (pair_range x 30).lo ≤ (pair_range x 30).hi
      → (y : Instance) × (slice_get next.out.items 0 ≡ Some y)
  some_result apart order =
      let exit = first_exit_of image (effect_of s.row) (clocks_of s.row) (following_of (words_of s.row) x) x order in (
        at_exit (order_of_program program) x (draft_at image program x s.row) s.emitted (clears_flag (effect_of s.row) x) exit.0,
        ap (λ l. slice_get l 0) (s.plain apart) ∙ in_map (at_exit (order_of_program program) x (draft_at image program x s.row) s.emitted
            (clears_flag (effect_of s.row) x)) (exits_at image x s.row) 0 exit.0 exit.1,
      )

  pub same_kind : (y : Instance) → Among next.out.items y → y.kind ≡ x.kind
  same_kind y h = ap (λ (z : Instance). z.kind) (sym (result y h).is)

  -- a return is the handler's
  pub back_is_handler : next.back ≡ true → x.kind ≡ Handler
  back_is_handler back = back_handler program.head (effect_of s.row) x s.fails (sym s.back ∙ back)

  -- where one exit is there, one result is
  only_one : is_main x.kind ≡ false → OneExit image (effect_of s.row) (clocks_of s.row) (following_of (words_of s.row) x) x
      → (y : Instance) → Among next.out.items y → slice_get next.out.items 0 ≡ Some y
  only_one apart one y (i, h) =
      let out : next.out.items ≡ f one.exit ∷ [] = s.plain apart ∙ ap (map f) one.is in
      let here : slice_get (f one.exit ∷ []) i ≡ Some y = ap (λ l. slice_get l i) (sym out) ∙ h in
      ap (λ l. slice_get l 0) out ∙ at_zero (f one.exit) i here
    where
      f : Exit → Instance
      f = at_exit (order_of_program program) x (draft_at image program x s.row) s.emitted (clears_flag (effect_of s.row) x)

      at_zero : (z : Instance) (i : ℕ) → slice_get (z ∷ []) i ≡ Some y → Some z ≡ Some y
      at_zero z zero e = e
      at_zero z (suc i) e = cc

  -- a return has one result
  pub one_return : next.back ≡ true → (y : Instance) → Among next.out.items y → slice_get next.out.items 0 ≡ Some y
  one_return back = only_one (ap is_main (back_is_handler back)) (returns_one image (effect_of s.row) (clocks_of s.row)
      (following_of (words_of s.row) x) x (sym s.back ∙ back))

  -- what is emitted is a return's leave, or turns the level
  emits_so : Stands program x → Emits x.level next.back (Some s.emitted)
  emits_so stands =
      let even : x.level % 2 ≡ x.level = mod-eq_of_lt (let l = stands.level in omega (arith, l)) in
      let at : Emits x.level (returns_from_interrupt (effect_of s.row)) (emission (effect_of s.row) x) =
      subst (λ n. Emits x.level (returns_from_interrupt (effect_of s.row)) (emission_at n (effect_of s.row) x)) (sym even)
      (emits x.level (effect_of s.row) x stands.level) in
      subst (λ b. Emits x.level b (Some s.emitted)) (sym s.back) (subst (Emits x.level (returns_from_interrupt (effect_of s.row))) s.emits
      at)

-- a result outside main: it stands 1 to 4 clocks on
pub record Moves (program : Program) (x y : Instance) : Type 0 where
  pub apart : y.kind ≢ Main
  pub some : 1 ≤ clocks_between program x y
  pub few : clocks_between program x y ≤ 4
  pub goes : Reaches program.schedule x.line x.clock (clocks_between program x y) y.line y.clock

-- the level of a result: a sync event turns it, and nothing else does
abbrev pub LevelOf : Instance → Option EventKind → Instance → Type 0
LevelOf x emitted y = y.level ≡ level_after emitted x.level

-- the clocks to a place that is passed are fewer than those of a line
few_of : (program : Program) → ProgramFits program → (k : ℕ) → k ≤ 4 → (l : ℕ) → k ≤ length_of program.schedule l
few_of program fits k few l = let room = length_some program fits l in omega (arith, few, room)

most_few : (program : Program) (x : Instance) (out : List Instance) (n : ℕ)
    → ((y : Instance) → Among out y → clocks_between program x y ≤ n) → most_clocks program x out ≤ n
most_few program x [] n h = omega arith
most_few program x (z ∷ zs) n h =
    let a = h z (0, refl) in let b = most_few program x zs n (λ y there. h y (suc there.0, there.1)) in omega (arith, a, b)

module _ (image : Flash) (program : Program) (fits : ProgramFits program) (x : Instance) (stands : Stands program x) (apart : x.kind ≢ Main)
    (next : Next) (s : Steps image program x next) where
  main_not : is_main x.kind ≡ false
  main_not = apart_main x.kind apart

  -- the clocks to a result are its exit's
  clocks_to : (y : Instance) (h : Among next.out.items y) → (clocks_between program x y ≡ (result image program x next s y h).exit.clocks)
      × Reaches program.schedule x.line x.clock (result image program x next s y h).exit.clocks y.line y.clock
  clocks_to y h =
      let r = result image program x next s y h in
      let k : ℕ = r.exit.clocks in
      let some = r.some in
      let few = r.few in
      let line : line_after (order_of_program program) x.line (x.clock + k) ≡ y.line =
      sym (ap (λ b. if b then x.line else line_after (order_of_program program) x.line (x.clock + k)) main_not)
      ∙ ap (λ (z : Instance). z.line)
      r.is in
      let clock : clock_after (order_of_program program) x.line (x.clock + k) ≡ y.clock =
      sym (ap (λ b. if b then x.clock else clock_after (order_of_program program) x.line (x.clock + k)) main_not)
      ∙ ap (λ (z : Instance). z.clock)
      r.is in
      let reach : Reaches program.schedule x.line x.clock k y.line y.clock =
      subst (λ q. Reaches program.schedule x.line x.clock k y.line q) clock
      (subst (λ l. Reaches program.schedule x.line x.clock k l (clock_after (order_of_program program) x.line (x.clock + k))) line
      (reach_after program.schedule x.line x.clock k stands.line stands.clock (few_of program fits k few))) in
      (between_of program.schedule x.line x.clock k y.line y.clock reach stands.clock some (few_of program fits k few x.line), reach)

  pub moves : (y : Instance) → Among next.out.items y → Moves program x y
  moves y h =
      let r = result image program x next s y h in
      let e = clocks_to y h in
      record {
        apart = λ main. apart (sym (same_kind image program x next s y h) ∙ main);
        some = subst (λ n. 1 ≤ n) (sym e.0) r.some;
        few = subst (λ n. n ≤ 4) (sym e.0) r.few;
        goes = subst (λ n. Reaches program.schedule x.line x.clock n y.line y.clock) (sym e.0) e.1;
      }

  -- the longest result takes four clocks at most
  pub most_moves : most_clocks program x next.out.items ≤ 4
  most_moves = most_few program x next.out.items 4 (λ y there. (moves y there).few)

  -- where it is some clocks on
  pub passes : (k : ℕ) → k ≤ most_clocks program x next.out.items
      → Reaches program.schedule x.line x.clock k (line_on program x k) (clock_on program x k)
  passes k le = reach_after program.schedule x.line x.clock k stands.line stands.clock
      (few_of program fits k (let most = most_moves in omega (arith, le, most)))

  -- a position that is passed lies in the frame
  pub passes_within : (k : ℕ) → k ≤ most_clocks program x next.out.items → place_on program x k < frame_of program
  passes_within k le =
      let reach = passes k le in
      let few = length_few program fits (line_on program x k) in
      line_below (lines_of program) (line_on program x k) (clock_on program x k)
      (reach_line program.schedule x.line x.clock k (line_on program x k) (clock_on program x k) stands.line reach)
      (let below = reach.0 in omega (arith, below, few))

  pub level_of : (y : Instance) → Among next.out.items y → LevelOf x s.emitted y
  level_of y h =
      let r = result image program x next s y h in
      let even : x.level % 2 ≡ x.level = mod-eq_of_lt (let l = stands.level in omega (arith, l)) in
      ap (λ (z : Instance). z.level) (sym r.is) ∙ ap (λ b. if b then x.level else level_after s.emitted (x.level % 2)) main_not
      ∙ ap (level_after s.emitted) even

  -- what is emitted is emitted at the end of the one result
  pub at_end : (t : ℕ) (e : EventKind) (y : Instance) → next.emit ≡ Some (t, e) → Among next.out.items y → t ≡ clocks_between program x y
  at_end t e y emit h = by s.emitted refl
    where
      only : (a b : Exit) (i : ℕ) → slice_get (b ∷ []) i ≡ Some a → a ≡ b
      only a b zero g = sym (same_Some b a g)
      only a b (suc i) g = cc

      by : (emitted : Option EventKind) → s.emitted ≡ emitted → t ≡ clocks_between program x y
      by None is =
          let none : Some (t, e) ≡ None = sym emit ∙ s.emit ∙ ap (λ o. timed o (first_exit (exits_at image x s.row)).clocks) is in
          cc
      by (Some event) is =
          let one = emits_one image (effect_of s.row) (clocks_of s.row) (following_of (words_of s.row) x) x event (s.emits ∙ ap Some is) in
          let r = result image program x next s y h in
          let mine : r.exit ≡ one.exit = only (r.exit) one.exit r.there.0 (ap (λ l. slice_get l r.there.0) (sym one.is) ∙ r.there.1) in
          let first : first_exit (exits_at image x s.row) ≡ one.exit = ap first_exit one.is in
          let timed_so : Some (t, e) ≡ Some ((first_exit (exits_at image x s.row)).clocks, event) =
          sym emit ∙ s.emit ∙ ap (λ o. timed o (first_exit (exits_at image x s.row)).clocks) is in
          let pair : (t, e) ≡ ((first_exit (exits_at image x s.row)).clocks, event) = same_Some (t, e) _ timed_so in
          ap (λ (q : ℕ × EventKind). q.0) pair ∙ ap (λ (z : Exit). z.clocks) (first ∙ sym mine) ∙ sym (clocks_to y h).0

  -- what an event is: a leave of a return, and else a turn of the level
  emitted_is : (t : ℕ) (e : EventKind) → next.emit ≡ Some (t, e) → s.emitted ≡ Some e
  emitted_is t e emit = by s.emitted refl
    where
      by : (emitted : Option EventKind) → s.emitted ≡ emitted → s.emitted ≡ Some e
      by None is =
          let none : Some (t, e) ≡ None = sym emit ∙ s.emit ∙ ap (λ o. timed o (first_exit (exits_at image x s.row)).clocks) is in
          cc
      by (Some event) is =
          let pair : (t, e) ≡ ((first_exit (exits_at image x s.row)).clocks, event) = same_Some (t, e) _
          (sym emit ∙ s.emit ∙ ap (λ o. timed o (first_exit (exits_at image x s.row)).clocks) is) in
          is ∙ ap Some (ap (λ (q : ℕ × EventKind). q.1) (sym pair))

  pub leaves : next.back ≡ true → (t : ℕ) × (next.emit ≡ Some (t, Leave))
  leaves back =
      let e : s.emitted ≡ Some Leave = same_Some s.emitted (Some Leave) (subst (λ b. Emits x.level b (Some s.emitted)) back
      (emits_so image program x next s stands)) in
      ((first_exit (exits_at image x s.row)).clocks, s.emit ∙ ap (λ o. timed o (first_exit (exits_at image x s.row)).clocks) e)

  pub returns : (t : ℕ) → next.emit ≡ Some (t, Leave) → next.back ≡ true
  returns t emit = ⊎_elim (λ h. h)
      (λ h. absurd (subst (λ o. Turns x.level (Some o)) (emitted_is t Leave emit) (subst (λ b. Emits x.level b (Some s.emitted)) h
      (emits_so image program x next s stands))))
      (cases_Bool next.back)

  pub syncs : (t v : ℕ) (y : Instance) → next.emit ≡ Some (t, Sync v) → Among next.out.items y → (y.level ≡ v) × (x.level + v ≡ 1)
  syncs t v y emit h =
      let e = emitted_is t (Sync v) emit in (
        level_of y h ∙ ap (λ o. level_after o x.level) e,
        ⊎_elim
            (λ back. let leave : s.emitted ≡ Some Leave = same_Some s.emitted (Some Leave) (subst (λ b. Emits x.level b (Some s.emitted)) back
            (emits_so image program x next s stands)) in
            let one : Sync v ≡ Leave = same_Some (Sync v) Leave (sym e ∙ leave) in absurd cc)
            (λ back. subst (λ o. Turns x.level (Some o)) e (subst (λ b. Emits x.level b (Some s.emitted)) back
            (emits_so image program x next s stands)))
            (cases_Bool next.back),
      )

  pub keeps : ((t v : ℕ) → next.emit ≡ Some (t, Sync v) → ⊥) → (y : Instance) → Among next.out.items y → y.level ≡ x.level
  keeps no_sync y h = level_of y h ∙ by s.emitted refl
    where
      k : ℕ
      k = (first_exit (exits_at image x s.row)).clocks

      by : (emitted : Option EventKind) → s.emitted ≡ emitted → level_after emitted x.level ≡ x.level
      by None is = refl
      by (Some (Sync v)) is = absurd (no_sync k v (s.emit ∙ ap (λ o. timed o k) is))
      by (Some Pixel) is = refl
      by (Some Sound) is = refl
      by (Some Leave) is = refl

-- Where results stand

main_is : (k : Kind) → k ≡ Main → is_main k ≡ true
main_is k h = ap is_main h

module _ (image : Flash) (program : Program) (fits : ProgramFits program) (x : Instance) (stands : Stands program x) (next : Next)
    (s : Steps image program x next) where
  pub main_line : x.kind ≡ Main → (y : Instance) → Among next.out.items y → (y.line ≡ x.line) × (y.clock ≡ x.clock) × (y.level ≡ x.level)
  main_line main y h =
      let r = result image program x next s y h in
      let k : ℕ = x.clock + r.exit.clocks in (
        ap (λ (z : Instance). z.line) (sym r.is) ∙ ap (λ b. if b then x.line else line_after (order_of_program program) x.line k)
            (main_is x.kind main),
        ap (λ (z : Instance). z.clock) (sym r.is) ∙ ap (λ b. if b then x.clock else clock_after (order_of_program program) x.line k)
            (main_is x.kind main),
        ap (λ (z : Instance). z.level) (sym r.is) ∙ ap (λ b. if b then x.level else level_after s.emitted (x.level % 2))
            (main_is x.kind main),
      )

  level_bound : x.kind ≢ Main → (y : Instance) → Among next.out.items y → y.level ≤ 1
  level_bound apart y h = ⊎_elim
      (λ back. let leave : s.emitted ≡ Some Leave = same_Some s.emitted (Some Leave) (subst (λ b. Emits x.level b (Some s.emitted)) back
      (emits_so image program x next s stands)) in
      subst (λ n. n ≤ 1) (sym (level_of image program fits x stands apart next s y h ∙ ap (λ o. level_after o x.level) leave)) stands.level)
      (λ back. subst (λ n. n ≤ 1) (sym (level_of image program fits x stands apart next s y h))
      (level_turned x.level s.emitted stands.level (subst (λ b. Emits x.level b (Some s.emitted)) back
      (emits_so image program x next s stands))))
      (cases_Bool next.back)

  line_bound : (y : Instance) → Moves program x y → y.line < lines_of program
  line_bound y m = reach_line program.schedule x.line x.clock (clocks_between program x y) y.line y.clock stands.line m.goes

  -- a result stands in the frame
  pub stands_next : (y : Instance) → Among next.out.items y → Stands program y
  stands_next y h = ⊎_elim of_main apart (kind_cases x.kind)
    where
      kind : y.kind ≡ x.kind
      kind = same_kind image program x next s y h

      r : AtExit image program x next s y
      r = result image program x next s y h

      pending : y.kind ≢ Handler → y.pending ≡ false
      pending other =
          let not_handler : x.kind ≢ Handler = λ e. other (kind ∙ e) in
          ap (λ (z : Instance). z.pending) (sym r.is) ∙ ap (λ b. if b then not (clears_flag (effect_of s.row) x)
          && (x.pending || ends_line (order_of_program program) x.line (x.clock + r.exit.clocks)) else x.pending)
          (handler_not x.kind not_handler) ∙ stands.pending not_handler

      top : is_top y.top ≡ true
      top = ap (λ (z : Instance). is_top z.top) (sym r.is) ∙ top_stays program.head (effect_of s.row) x s.fails stands.top

      timer : y.kind ≢ Handler → (y.top ≡ scanline - 1) × (y.temp ≡ whole_byte)
      timer other =
          let not_handler : x.kind ≢ Handler = λ e. other (kind ∙ e) in
          let before = stands.timer not_handler in (
            ap (λ (z : Instance). z.top) (sym r.is) ∙ top_kept (effect_of s.row) x not_handler ∙ before.0,
            ap (λ (z : Instance). z.temp) (sym r.is)
                ∙ temp_kept (sampled_of ((order_of_program program).length x.line) (effect_of s.row) (clocks_of s.row) x) (effect_of s.row)
                x not_handler
                ∙ before.1,
          )

      told : IsInstanceTold y
      told = subst IsInstanceTold r.is (told_so x _
          (ap (λ (z : Instance). record (at_exit (order_of_program program) x (with_compared (draft_at image program x s.row).compared
          (with_timer (draft_at image program x s.row).top (draft_at image program x s.row).temp z)) s.emitted (clears_flag (effect_of s.row)
          x) r.exit) {
            regs = y.regs;
            pairs = y.pairs;
          })
          (transfer_leaves program.head image (following_of (words_of s.row) x)
          (sampled_of ((order_of_program program).length x.line) (effect_of s.row) (clocks_of s.row) x) (effect_of s.row) x))
          stands.told)

      of_main : x.kind ≡ Main → Stands program y
      of_main main = let m = main_line main y h in record {
        line = subst (λ n. n < lines_of program) (sym m.0) stands.line;
        clock = subst (λ l. y.clock < length_of program.schedule l) (sym m.0)
            (subst (λ n. n < length_of program.schedule x.line) (sym m.1) stands.clock);
        level = subst (λ n. n ≤ 1) (sym m.2) stands.level;
        main = λ e. (m.0 ∙ (stands.main main).0, m.1 ∙ (stands.main main).1);
        entered = λ handler. stands.entered (sym kind ∙ handler);
        pending = pending;
        top = top;
        timer = timer;
        told = told;
      }

      apart : x.kind ≢ Main → Stands program y
      apart other = let m = moves image program fits x stands other next s y h in record {
        line = line_bound y m;
        clock = m.goes.0;
        level = level_bound other y h;
        main = λ e. absurd (m.apart e);
        entered = λ handler. stands.entered (sym kind ∙ handler);
        pending = pending;
        top = top;
        timer = timer;
        told = told;
      }

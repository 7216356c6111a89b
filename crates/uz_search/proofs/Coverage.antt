-- A search that ends reaches each line, and its returns end their lines.
use Rattle.uz_search.proofs.Common.{◌≡◌, ◌≢◌, ℕ, zero, suc, ◌<◌, ◌≤◌, ◌+◌, ◌-◌, map, Some, true, false, sym, ap, ◌∙◌, subst, inl, inr}
use Rattle.uz_search.proofs.Common.{⊎_elim, slice_get, if◌then◌else◌, true≢false, arith, flat_map, cases_lt, cases_Bool, slice_get_within}
use Rattle.uz_search.proofs.Common.{same_Some, scanline, length_of, response_clocks, Instance, Main, Handler, Next, EventKind, Sync, Leave}
use Rattle.uz_search.proofs.Common.{Program, Return, ProgramFits, Stands, pieces, split_at, Among, Flash, Follows, entries, followers_of}
use Rattle.uz_search.proofs.Common.{lines_of, line_start, line_on, clock_on, place_on, most_clocks, clocks_between, shown_at, Seen}
use Rattle.uz_search.proofs.Common.{ReturnAt, Treated, widened, Found}
use Rattle.uz_search.specs.Searching.{IsEnded}
use Rattle.uz_search.proofs.FramePlaces.{IsNext, Reaches, at, length_few, length_some, one_line, one_clock, one_next, reach_line, reach_on}
use Rattle.uz_search.proofs.Lists.{kind_cases, in_map, in_first, of_flat}
use Rattle.uz_search.proofs.MarkingLemmas.{seen_once}
use Rattle.uz_search.proofs.OneResult.{steps}
use Rattle.uz_search.proofs.PiecesLaws.{from_result, never_split, result_place}
use Rattle.uz_search.proofs.Results.{Moves, apart_main, back_is_handler, same_kind, main_line, passes}
use Rattle.uz_search.proofs.SearchingLemmas.{tree_all}
use Rattle.uz_search.proofs.Standing.{stands_all}
use Rattle.uz_search.proofs.WidenedLaws.{widened_place}
use Rattle.uz_search.proofs.NodeLaws.{Owes, Clear, entry_place, some_entry, start_place}
use Rattle.uz_search.proofs.Closing.{shown_is, shown_here, one_emit, clocks_few, reaches_less, reaches_one, reaches_back}
use Rattle.uz_search.proofs.OneResult as result
use Rattle.uz_search.proofs.NodeLaws as node_laws

-- a search that has ended, of a program that fits
pub record Ended : Type 0 where
  pub image : Flash
  pub program : Program
  pub fits : ProgramFits program
  pub found : Found
  pub s : IsEnded image program found

module _ (ended : Ended) where
  open ended use {image, program, fits, s}
  open ended.found.nodes use {keys as nodes}
  open ended.found.parents use {items as parents}
  open ended.found.marks use {items as marks}
  open ended.found.returns use {items as returns}

  pub stands : (x : Instance) → Among nodes x → Stands program x
  stands x node = stands_all image program nodes parents fits s.tree x node

  pub treated : (x : Instance) → Among nodes x → Treated image program nodes marks returns x
  treated x node = s.treated node.0 x (slice_get_within nodes node.0 x node.1) node.1

  pub owed : (x : Instance) (node : Among nodes x) → x.kind ≢ Main → Owes program x (treated x node).next
  owed x node apart = let t = treated x node in node_laws.owes image program fits x t.next (stands x node) apart t.after (t.some apart)

  pub cleared : (x : Instance) (node : Among nodes x) → x.kind ≢ Main → Clear program x (treated x node).next
  cleared x node apart = let t = treated x node in node_laws.cleared image program x t.next (stands x node) apart t.clear

  -- a return is the handler's, each entry of which comes before the fall
  pub back_apart : (x : Instance) (node : Among nodes x) → (treated x node).next.back ≡ true → x.kind ≢ Main
  back_apart x node back main = let t = treated x node in
      kinds (sym main ∙ back_is_handler image program x t.next (steps image program x t.next t.after) back)
    where
      kinds : Main ≡ Handler → ⊥
      kinds h = cc

  pub entered : (x : Instance) (node : Among nodes x) → (treated x node).next.back ≡ true → response_clocks program.head.irq + 3
      < program.schedule.fall
  entered x node back = let t = treated x node in
      (stands x node).entered (back_is_handler image program x t.next (steps image program x t.next t.after) back)

  -- what follows an instance is among what its treatment found
  pub following : (x : Instance) (node : Among nodes x) (y : Instance) → Follows image program x y
      → Among (followers_of program x (treated x node).next) y
  following x node y follows = let t = treated x node in
      subst (λ (n : Next). Among (followers_of program x n) y) (result.one_next image program x follows.next t.next follows.after t.after)
      follows.is

  -- main's results are main's, with its level
  pub main_kind : (x : Instance) (node : Among nodes x) → x.kind ≡ Main → (y : Instance) → Among (treated x node).next.out.items y
      → y.kind ≡ Main
  main_kind x node main y there = let t = treated x node in same_kind image program x t.next (steps image program x t.next t.after) y there
      ∙ main

  pub main_level : (x : Instance) (node : Among nodes x) → x.kind ≡ Main → (y : Instance) → Among (treated x node).next.out.items y
      → y.level ≡ x.level
  main_level x node main y there = let t = treated x node in
      (main_line image program fits x (stands x node) t.next (steps image program x t.next t.after) main y there).2

  -- a result stands on a line of the frame
  pub result_line : (x : Instance) (node : Among nodes x) → x.kind ≢ Main → (y : Instance) → Among (treated x node).next.out.items y
      → y.line < lines_of program
  result_line x node apart y there =
      reach_line program.schedule x.line x.clock (clocks_between program x y) y.line y.clock (stands x node).line
      ((owed x node apart).moves y there).goes

  -- where an instance is some clocks on
  pub passed : (x : Instance) (node : Among nodes x) → x.kind ≢ Main → (k : ℕ) → k ≤ most_clocks program x (treated x node).next.out.items
      → Reaches program.schedule x.line x.clock k (line_on program x k) (clock_on program x k)
  passed x node apart k few = let t = treated x node in
      passes image program fits x (stands x node) apart t.next (steps image program x t.next t.after) k few

  -- what an instance shows where it passes is what is marked there
  pub seen_at : (x : Instance) (node : Among nodes x) → x.kind ≢ Main → (k l q : ℕ) → 1 ≤ k → k ≤ most_clocks program x
      (treated x node).next.out.items
      → Reaches program.schedule x.line x.clock k l q → Seen marks (at l q) (shown_at (treated x node).next.emit k)
  seen_at x node apart k l q some few reach =
      let t = treated x node in
      let on = reach_on program.schedule x.line x.clock k l q (stands x node).line reach in
      let place : place_on program x k ≡ at l q = ap (λ m. line_start m + clock_on program x k) on.0 ∙ ap (at l) on.1 in
      subst (λ p. Seen marks p (shown_at t.next.emit k)) place (t.seen apart k some few)

  -- an instance that passes a clock of a line, and shows this there
  pub record Shower (l q : ℕ) (e : EventKind) : Type 0 where
    pub x : Instance
    pub node : Among nodes x
    pub apart : x.kind ≢ Main
    pub k : ℕ
    pub some : 1 ≤ k
    pub few : k ≤ most_clocks program x (treated x node).next.out.items
    pub reach : Reaches program.schedule x.line x.clock k l q
    pub shown : shown_at (treated x node).next.emit k ≡ Some e

  -- what is marked is shown by one of the instances
  pub who : (l q : ℕ) (e : EventKind) → q < length_of program.schedule l → Seen marks (at l q) (Some e) → Shower l q e
  who l q e in_line seen =
      let it = s.marked (at l q) (Some e) seen in
      let x = it.x in
      let node : Among nodes x = (it.number, it.there) in
      let t = treated x node in
      let next = it.shows.0 in
      let same : next ≡ t.next = result.one_next image program x next t.next it.shows.1 t.after in
      let st = it.shows.3 in
      let few : st.clocks ≤ most_clocks program x t.next.out.items =
      subst (λ (n : Next). st.clocks ≤ most_clocks program x n.out.items) same st.few in
      let l' : ℕ = line_on program x st.clocks in
      let q' : ℕ = clock_on program x st.clocks in
      let goes = passed x node it.shows.2 st.clocks few in
      let here : q < scanline = (let long = length_few program fits l in omega (arith, in_line, long)) in
      let there : q' < scanline = (let long = length_few program fits l' in let below = goes.0 in omega (arith, below, long)) in
      let line = one_line l q l' q' here there st.there in
      let clock = one_clock l q l' q' here there st.there in
      record {
        x = x;
        node = node;
        apart = it.shows.2;
        k = st.clocks;
        some = st.some;
        few = few;
        reach = subst (λ (a : ℕ). Reaches program.schedule x.line x.clock st.clocks a q) (sym line)
            (subst (λ (b : ℕ). Reaches program.schedule x.line x.clock st.clocks l' b) (sym clock) goes);
        shown = ap (λ (n : Next). shown_at n.emit st.clocks) (sym same) ∙ sym st.shows;
      }

  -- a result of an instance that does not return is there, widened
  pub result_there : (x : Instance) (node : Among nodes x) → x.kind ≢ Main → (y : Instance) → (treated x node).next.back ≡ false
      → Among (treated x node).next.out.items y → Among nodes (widened program y)
  result_there x node apart y back out =
      let t = treated x node in
      let here : followers_of program x t.next ≡ map (widened program) t.next.out.items =
      ap (λ b. if b then flat_map (entries program) t.next.out.items else map (widened program) (pieces (split_at program x)
      t.next.out.items)) back
      ∙ ap (λ o. map (widened program) (pieces o t.next.out.items)) (never_split program x (apart_main x.kind apart)) in
      t.follow (widened program y) (out.0, ap (λ l. slice_get l out.0) here ∙ in_map (widened program) t.next.out.items out.0 y out.1)

  pub entry_there : (x : Instance) (node : Among nodes x) (end e : Instance) → (treated x node).next.back ≡ true
      → slice_get (treated x node).next.out.items 0 ≡ Some end → Among (entries program end) e → Among nodes e
  entry_there x node end e back out entry =
      let t = treated x node in
      let here : followers_of program x t.next ≡ flat_map (entries program) t.next.out.items =
      ap (λ b. if b then flat_map (entries program) t.next.out.items else map (widened program) (pieces (split_at program x)
      t.next.out.items)) back in
      t.follow e (subst (λ l. Among l e) (sym here) (in_first (entries program) t.next.out.items end e out entry))

  -- an instance that passes the program.schedule.fall of a line
  pub record Falls (l : ℕ) : Type 0 where
    pub x : Instance
    pub node : Among nodes x
    pub apart : x.kind ≢ Main
    pub k : ℕ
    pub some : 1 ≤ k
    pub few : k ≤ most_clocks program x (treated x node).next.out.items
    pub reach : Reaches program.schedule x.line x.clock k l program.schedule.fall

  -- a fact of instances that steps outside main keep
  pub record Kept (G : Instance → Type 0) : Type 0 where
    pub result : (x : Instance) (node : Among nodes x) → x.kind ≢ Main → (y : Instance) → (treated x node).next.back ≡ false
        → Among (treated x node).next.out.items y → G x → G (widened program y)
    pub entry : (x : Instance) (node : Among nodes x) → x.kind ≢ Main → (end e : Instance) → (treated x node).next.back ≡ true
        → slice_get (treated x node).next.out.items 0 ≡ Some end → Among (entries program end) e → G x → G e

  -- from each instance a way leads past the next program.schedule.fall
  pub next_fall : (G : Instance → Type 0) → Kept G → (n : ℕ) (x : Instance) → Among nodes x → x.kind ≢ Main → G x → (d l : ℕ) → 1 ≤ d
      → d ≤ n → Reaches program.schedule x.line x.clock d l program.schedule.fall → (f : Falls l) × G f.x
  next_fall G kept zero x node apart good d l some le reach = absurd (omega arith)
  next_fall G kept (suc n) x node apart good d l some le reach = ⊎_elim
      (λ (short : most_clocks program x t.next.out.items < d). ⊎_elim
      (λ (back : t.next.back ≡ true).
      let leave = o.leaves back in
      let time : leave.0 ≡ c = o.at_end leave.0 Leave y leave.1 y_there in
      let shows : shown_at t.next.emit c ≡ Some Leave = shown_here t.next.emit c Leave (leave.1 ∙ ap (λ k. Some (k, Leave)) time) in
      let above : program.schedule.fall ≤ y.clock = cl.above y.line y.clock c Leave mv.some few mv.goes shows in
      let left = reaches_less program.schedule x.line x.clock c y.line y.clock d l program.schedule.fall mv.goes reach
      (omega (arith, few, short)) in
      let entry = some_entry program y in
      let before = entry_place program y entry.0 (entered x node back) (result_line x node apart y y_there) entry.1 in
      let below : d - c ≤ n = omega (arith, mv.some, le) in
      let place = late y.line y.clock (d - c) l entry.0.line (omega (arith, few, short)) mv.goes.0 left above before.1 in
      next_fall G kept n entry.0 (entry_there x node y entry.0 back o.out.1 entry.1) before.0.apart
      (kept.entry x node apart y entry.0 back o.out.1 entry.1 good) (program.schedule.fall - entry.0.clock) l
      (let h = before.0.clock in omega (arith, h)) (let h = place.1 in omega (arith, h, below))
      (fits.fall_in_line l, inl (place.0, (let h = before.0.clock in omega (arith, h)))))
      (λ (back : t.next.back ≡ false).
      let z = widened program y in
      let same = widened_place program y in
      let left = reaches_less program.schedule x.line x.clock c y.line y.clock d l program.schedule.fall mv.goes reach
      (omega (arith, few, short)) in
      let apart' : z.kind ≢ Main = λ h. mv.apart (sym same.kind ∙ h) in
      next_fall G kept n z (result_there x node apart y back y_there) apart' (kept.result x node apart y back y_there good) (d - c) l
      (omega (arith, few, short)) (omega (arith, mv.some, le))
      (subst (λ (a : ℕ). Reaches program.schedule a z.clock (d - c) l program.schedule.fall) (sym same.line)
      (subst (λ (b : ℕ). Reaches program.schedule y.line b (d - c) l program.schedule.fall) (sym same.clock) left)))
      (cases_Bool t.next.back))
      (λ long. (record { x = x; node = node; apart = apart; k = d; some = some; few = long; reach = reach }, good))
      (cases_lt (most_clocks program x t.next.out.items) d)
    where
      t : Treated image program nodes marks returns x
      t = treated x node

      o : Owes program x t.next
      o = owed x node apart

      cl : Clear program x t.next
      cl = cleared x node apart

      y : Instance
      y = o.out.0

      y_there : Among t.next.out.items y
      y_there = (0, o.out.1)

      mv : Moves program x y
      mv = o.moves y y_there

      c : ℕ
      c = clocks_between program x y

      few : c ≤ most_clocks program x t.next.out.items
      few = clocks_few program x t.next.out.items 0 y o.out.1

      late : (line clock j l line' : ℕ) → 1 ≤ j → clock < length_of program.schedule line
          → Reaches program.schedule line clock j l program.schedule.fall → program.schedule.fall ≤ clock
          → IsNext program.schedule line line' → (l ≡ line') × (program.schedule.fall ≤ j)
      late line clock j l line' pos in_line (h, inl a) above next = absurd (omega (arith, a.1))
      late line clock j l line' pos in_line (h, inr a) above next = (
        one_next program.schedule line l line' a.0 next,
        omega (arith, a.1, h, in_line),
      )

  -- an instance at the program.schedule.fall of a line, after the instruction that shows it
  pub record FallNode (l : ℕ) : Type 0 where
    pub x : Instance
    pub node : Among nodes x
    pub apart : x.kind ≢ Main
    pub line : x.line ≡ l
    pub clock : x.clock ≡ program.schedule.fall
    pub level : x.level ≡ 0

  -- the program.schedule.fall is shown where it is passed
  pub falls_shown : (l : ℕ) → Falls l → Seen marks (at l program.schedule.fall) (Some (Sync 0))
  falls_shown l f =
      let t = treated f.x f.node in
      let shown = (cleared f.x f.node f.apart).falls l f.k f.some f.few f.reach in
      subst (Seen marks (at l program.schedule.fall)) shown (seen_at f.x f.node f.apart f.k l program.schedule.fall f.some f.few f.reach)

  sync_no_leave : (v : ℕ) → Sync v ≡ Leave → ⊥
  sync_no_leave v h = cc

  pub fall_node : (l : ℕ) → Falls l → FallNode l
  fall_node l f =
      let t = treated f.x f.node in
      let o = owed f.x f.node f.apart in
      let shown = (cleared f.x f.node f.apart).falls l f.k f.some f.few f.reach in
      let emit = shown_is t.next.emit f.k (Sync 0) shown in
      let y = o.out.0 in
      let there : Among t.next.out.items y = (0, o.out.1) in
      let time = o.at_end f.k (Sync 0) y emit there in
      let mv = o.moves y there in
      let one = reaches_one program.schedule f.x.line f.x.clock (clocks_between program f.x y) y.line y.clock l program.schedule.fall
      mv.goes
      (subst (λ k. Reaches program.schedule f.x.line f.x.clock k l program.schedule.fall) time f.reach) in
      let back : t.next.back ≡ false = ⊎_elim
      (λ h. let leave = o.leaves h in absurd (sync_no_leave 0 (one_emit t.next.emit f.k leave.0 (Sync 0) Leave emit leave.1).1))
      (λ h. h) (cases_Bool t.next.back) in
      let same = widened_place program y in
      record {
        x = widened program y;
        node = result_there f.x f.node f.apart y back there;
        apart = λ h. mv.apart (sym same.kind ∙ h);
        line = same.line ∙ one.0;
        clock = same.clock ∙ one.1;
        level = same.level ∙ (o.syncs f.k 0 y emit there).0;
      }

  any_kept : Kept (λ x. Unit {0})
  any_kept = record { result = λ x node apart y back out good. tt; entry = λ x node apart end e back out entry good. tt }

  -- each line falls
  pub each_falls : (l : ℕ) → l < lines_of program → Falls l
  each_falls zero below =
      let b = fits.begins in
      let node = s.started b.0 b.1 in
      let before = start_place program fits b.0 b.1 b.2 in
      let h = before.0.clock in
      (next_fall (λ x. Unit {0}) any_kept program.schedule.fall b.0 node b.2 tt (program.schedule.fall - b.0.clock) 0 (omega (arith, h))
      (omega arith) (fits.fall_in_line 0, inl (sym before.1, omega (arith, h)))).0
  each_falls (suc l) below =
      let n = fall_node l (each_falls l (omega arith)) in
      let line = n.line in
      let clock = n.clock in
      let long : ℕ = length_of program.schedule n.x.line in
      (next_fall (λ x. Unit {0}) any_kept long n.x n.node n.apart tt long (suc l) (let some = length_some program fits n.x.line in
      omega (arith, some)) (omega arith)
      (fits.fall_in_line (suc l), inr (inr (omega (arith, line), ap suc (sym line)), omega (arith, clock)))).0

  -- the schedule is steady: at the program.schedule.fall of each line stands sync 0, nothing stands before it, and no other sync 0
  pub steady_first : (l : ℕ) → l < lines_of program → Seen marks (at l program.schedule.fall) (Some (Sync 0))
  steady_first l below = falls_shown l (each_falls l below)

  pub steady_above : (l q : ℕ) (e : EventKind) → q < length_of program.schedule l → Seen marks (at l q) (Some e) → program.schedule.fall ≤ q
  steady_above l q e in_line seen =
      let h = who l q e in_line seen in (cleared h.x h.node h.apart).above l q h.k e h.some h.few h.reach h.shown

  pub steady_once : (l q : ℕ) → q < length_of program.schedule l → Seen marks (at l q) (Some (Sync 0)) → q ≡ program.schedule.fall
  steady_once l q in_line seen =
      let h = who l q (Sync 0) in_line seen in (cleared h.x h.node h.apart).once l q h.k h.some h.few h.reach h.shown

  -- a return that is noted leaves at its clock, after the program.schedule.fall
  pub record LeavesAt (l : ℕ) (r : Return) : Type 0 where
    pub x : Instance
    pub end : Instance
    pub node : Among nodes x
    pub back : (treated x node).next.back ≡ true
    pub out : slice_get (treated x node).next.out.items 0 ≡ Some end
    pub line : l ≡ end.line
    pub clock : r.clock ≡ end.clock
    pub cells : r.cells ≡ end.cells
    pub in_line : r.clock < length_of program.schedule l
    pub seen : Seen marks (at l r.clock) (Some Leave)
    pub after : program.schedule.fall < r.clock

  pub leaves_at : (l : ℕ) (r : Return) → ReturnAt returns l r → LeavesAt l r
  leaves_at l r h =
      let it = s.ended l r h in
      let x = it.0 in
      let end = it.1 in
      let node : Among nodes x = (r.by, it.2) in
      let t = treated x node in
      let ret = it.3 in
      let same : ret.0 ≡ t.next = result.one_next image program x ret.0 t.next ret.1 t.after in
      let back : t.next.back ≡ true = ap (λ (n : Next). n.back) (sym same) ∙ ret.2 in
      let out : slice_get t.next.out.items 0 ≡ Some end = ap (λ (n : Next). slice_get n.out.items 0) (sym same) ∙ ret.3 in
      let apart : x.kind ≢ Main = back_apart x node back in
      let o = owed x node apart in
      let cl = cleared x node apart in
      let mv = o.moves end (0, out) in
      let few = clocks_few program x t.next.out.items 0 end out in
      let leave = o.leaves back in
      let time = o.at_end leave.0 Leave end leave.1 (0, out) in
      let shows : shown_at t.next.emit (clocks_between program x end) ≡ Some Leave =
      shown_here t.next.emit (clocks_between program x end) Leave (leave.1 ∙ ap (λ k. Some (k, Leave)) time) in
      let above = cl.above end.line end.clock (clocks_between program x end) Leave mv.some few mv.goes shows in
      let not_fall : program.schedule.fall ≢ end.clock = λ e.
      let f = cl.falls end.line (clocks_between program x end) mv.some few
      (subst (λ q. Reaches program.schedule x.line x.clock (clocks_between program x end) end.line q) (sym e) mv.goes) in
      sync_no_leave 0 (same_Some (Sync 0) Leave (sym f ∙ shows)) in
      let seen = subst (Seen marks (at end.line end.clock)) shows (seen_at x node apart (clocks_between program x end) end.line end.clock
      mv.some few mv.goes) in
      record {
        x = x;
        end = end;
        node = node;
        back = back;
        out = out;
        line = it.4;
        clock = it.5.0;
        cells = it.5.1;
        in_line = subst (λ a. r.clock < length_of program.schedule a) (sym it.4)
            (subst (λ q. q < length_of program.schedule end.line) (sym it.5.0) mv.goes.0);
        seen = subst (λ q. Seen marks (at l q) (Some Leave)) (sym it.5.0) (subst (λ a. Seen marks (at a end.clock) (Some Leave)) (sym it.4)
            seen);
        after = let e = it.5.0 in omega (arith, above, not_fall, e);
      }

  -- an instance that does not return shows no leave
  no_leave : (x : Instance) (node : Among nodes x) → x.kind ≢ Main → (k l q : ℕ) → (treated x node).next.back ≡ false → 1 ≤ k
      → k ≤ most_clocks program x (treated x node).next.out.items
      → Reaches program.schedule x.line x.clock k l q → Seen marks (at l q) (Some Leave) → ⊥
  no_leave x node apart k l q back some few reach seen =
      let t = treated x node in
      let shows = seen_once marks (at l q) (shown_at t.next.emit k) (Some Leave) (seen_at x node apart k l q some few reach) seen in
      let returns' = (owed x node apart).returns k (shown_is t.next.emit k Leave shows) in
      true≢false (sym returns' ∙ back)

  -- on a line with a return each instance stands before it
  pub record Early (x : Instance) : Type 0 where
    pub node : Among nodes x
    pub early : x.kind ≢ Main → (r : Return) → ReturnAt returns x.line r → x.clock < r.clock

  early_start : (y : Instance) → Among program.starts y → Early y
  early_start y h = record {
    node = s.started y h;
    early = λ apart r at_r. let b = (start_place program fits y h apart).0.clock in let a = (leaves_at y.line r at_r).after in
        omega (arith, a, b);
  }

  early_more : (x y : Instance) → Early x → Follows image program x y → Early y
  early_more x y e follows = record {
    node = t.follow y (following x e.node y follows);
    early = λ apart r at_r. ⊎_elim
        (λ (back : t.next.back ≡ true).
        let flat : Among (flat_map (entries program) t.next.out.items) y = subst (λ l. Among l y)
        (ap (λ b. if b then flat_map (entries program) t.next.out.items else map (widened program) (pieces (split_at program x)
        t.next.out.items)) back)
        (following x e.node y follows) in
        let from = of_flat (entries program) t.next.out.items y flat in
        let x_apart : x.kind ≢ Main = back_apart x e.node back in
        let b = (entry_place program from.0 y (entered x e.node back) (result_line x e.node x_apart from.0 from.1) from.2).0.clock in
        let a = (leaves_at y.line r at_r).after in omega (arith, a, b))
        (λ (back : t.next.back ≡ false).
        let f = from_result program x t.next y back (following x e.node y follows) in
        let z = f.result in
        let z_there : Among t.next.out.items z = f.there in
        let same = result_place program x t.next y f in
        let kind : y.kind ≡ z.kind = same.kind in
        let line : y.line ≡ z.line = same.line in
        let clock : y.clock ≡ z.clock = same.clock in
        ⊎_elim
        (λ (main : x.kind ≡ Main). absurd (apart (kind ∙ main_kind x e.node main z z_there)))
        (λ (x_apart : x.kind ≢ Main).
        let o = owed x e.node x_apart in
        let mv = o.moves z z_there in
        let few = clocks_few program x t.next.out.items z_there.0 z z_there.1 in
        let at_z : ReturnAt returns z.line r = subst (λ l. ReturnAt returns l r) line at_r in
        let leave = leaves_at z.line r at_z in
        subst (λ q. q < r.clock) (sym clock) (⊎_elim (λ lt. lt)
        (λ (late : r.clock ≤ z.clock).
        let b = reaches_back program.schedule x.line x.clock (clocks_between program x z) z.line z.clock r.clock mv.goes late
        (stands x e.node).clock
        (λ on. e.early x_apart r (subst (λ l. ReturnAt returns l r) on at_z)) in
        absurd (no_leave x e.node x_apart (clocks_between program x z - (z.clock - r.clock)) z.line r.clock back b.0 (let le = b.1 in
        omega (arith, le, few)) b.2 leave.seen))
        (cases_lt z.clock r.clock)))
        (kind_cases x.kind))
        (cases_Bool t.next.back);
  }
    where
      t : Treated image program nodes marks returns x
      t = treated x e.node

  pub early_all : (x : Instance) → Among nodes x → Early x
  early_all x node = tree_all image program Early early_start early_more nodes parents s.tree x node

  -- nothing stands after a return on its line
  pub quiet_after : (l : ℕ) (r : Return) (q : ℕ) (e : EventKind) → ReturnAt returns l r → r.clock < q → q < length_of program.schedule l
      → Seen marks (at l q) (Some e) → ⊥
  quiet_after l r q e at_r after in_line seen =
      let h = who l q e in_line seen in
      let t = treated h.x h.node in
      let leave = leaves_at l r at_r in
      let b = reaches_back program.schedule h.x.line h.x.clock h.k l q r.clock h.reach (omega arith) (stands h.x h.node).clock
      (λ on. (early_all h.x h.node).early h.apart r (subst (λ a. ReturnAt returns a r) on at_r)) in
      let few' = h.few in
      let le = b.1 in
      let shows = seen_once marks (at l r.clock) (shown_at t.next.emit (h.k - (q - r.clock))) (Some Leave)
      (seen_at h.x h.node h.apart (h.k - (q - r.clock)) l r.clock b.0 (omega (arith, le, few')) b.2) leave.seen in
      let one = one_emit t.next.emit (h.k - (q - r.clock)) h.k Leave e (shown_is t.next.emit (h.k - (q - r.clock)) Leave shows)
      (shown_is t.next.emit h.k e h.shown) in
      let k_some = b.0 in
      let eq = one.0 in
      omega (arith, eq, k_some, after)

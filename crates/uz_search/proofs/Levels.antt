-- The level of each instance is that of the last sync event before it.
use Rattle.uz_search.proofs.Common.{◌≡◌, ◌≢◌, ℕ, ◌<◌, ◌≤◌, ◌+◌, ◌-◌, ◌%◌, ◌⊎◌, List, map, Option, Some, None, true, false, refl, sym, ap}
use Rattle.uz_search.proofs.Common.{◌∙◌, subst, inl, inr, ⊎_elim, length, slice_get, if◌then◌else◌, arith, flat_map, cases_lt, cases_Bool}
use Rattle.uz_search.proofs.Common.{mod-add-mod, mod-eq_of_lt, mod-lt, add-mod_right, length_of, start_of, frame_of, place_below, Schedule}
use Rattle.uz_search.proofs.Common.{Instance, Main, EventKind, Sync, Pixel, Sound, Leave, position_of, Mark, pieces, split_at, Among}
use Rattle.uz_search.proofs.Common.{Follows, entries, lines_of, line_on, clock_on, most_clocks, clocks_between, shown_at, Seen, Treated}
use Rattle.uz_search.proofs.Common.{widened}
use Rattle.uz_search.specs.Returning.{Noted}
use Rattle.uz_search.proofs.FramePlaces.{IsNext, Reaches, at, length_some}
use Rattle.uz_search.proofs.Lists.{kind_cases, of_flat}
use Rattle.uz_search.proofs.MarkingLemmas.{seen_once}
use Rattle.uz_search.proofs.PiecesLaws.{from_result, result_place}
use Rattle.uz_search.proofs.Results.{Moves, apart_main}
use Rattle.uz_search.proofs.SearchingLemmas.{tree_all}
use Rattle.uz_search.proofs.WidenedLaws.{widened_place}
use Rattle.uz_search.proofs.NodeLaws.{Owes, Before, entry_place, start_place}
use Rattle.uz_search.proofs.Closing.{shown_is, shown_here, one_emit, clocks_few}
use Rattle.uz_search.proofs.Positions.{one_place, reach_position}
use Rattle.uz_search.proofs.Coverage as cover

-- at this clock, counted without end, sync v is marked: at the clock of a line that it is, round the frame
pub record SyncAt (s : Schedule) (marks : List Mark) (p v : ℕ) : Type 0 where
  pub line : ℕ
  pub clock : ℕ
  pub below : line < length s.lines
  pub in_line : clock < length_of s line
  pub place : p % frame_of s ≡ start_of s line + clock
  pub seen : Seen marks (at line clock) (Some (Sync v))

-- at this clock, counted without end, the level of sync is v: the last sync event at it or before it gave v
pub record LevelIs (s : Schedule) (marks : List Mark) (p v : ℕ) : Type 0 where
  pub last : ℕ
  pub le : last ≤ p
  pub sync : SyncAt s marks last v
  pub quiet : (j : ℕ) → last < j → j ≤ p → (u : ℕ) → SyncAt s marks j u → ⊥

-- the level at a position of the frame
pub record LevelAt (s : Schedule) (marks : List Mark) (place v : ℕ) : Type 0 where
  pub p : ℕ
  pub at : p % frame_of s ≡ place
  pub level : LevelIs s marks p v

pub emit_cases : (emit : Option (ℕ × EventKind)) → ((t : ℕ) × (v : ℕ) × (emit ≡ Some (t, Sync v)))
    ⊎ ((t v : ℕ) → emit ≡ Some (t, Sync v) → ⊥)
emit_cases None = inr (λ t v h. cc)
emit_cases (Some e) = of_event e.0 e.1
  where
    of_event : (t : ℕ) (k : EventKind) → ((t' : ℕ) × (v : ℕ) × ◌≡◌ {A = Option (ℕ × EventKind)} (Some (t, k)) (Some (t', Sync v)))
        ⊎ ((t' v : ℕ) → ◌≡◌ {A = Option (ℕ × EventKind)} (Some (t, k)) (Some (t', Sync v)) → ⊥)
    of_event t (Sync v) = inl (t, v, refl)
    of_event t Pixel = inr (λ t' v h. let e : Pixel ≡ Sync v = (one_emit (Some (t, Pixel)) t t' Pixel (Sync v) refl h).1 in cc e)
    of_event t Sound = inr (λ t' v h. let e : Sound ≡ Sync v = (one_emit (Some (t, Sound)) t t' Sound (Sync v) refl h).1 in cc e)
    of_event t Leave = inr (λ t' v h. let e : Leave ≡ Sync v = (one_emit (Some (t, Leave)) t t' Leave (Sync v) refl h).1 in cc e)

-- counted back from a place of the frame
pub back_mod : (frame x n a : ℕ) → 0 < frame → (x + n) % frame ≡ a → n ≤ a → a < frame → x % frame ≡ a - n
back_mod frame x n a some h le below =
    let r : ℕ = x % frame in
    let small : r < frame = mod-lt x some in
    let e : (r + n) % frame ≡ a = mod-add-mod x frame n ∙ h in
    ⊎_elim
    (λ lt. let f : (r + n) % frame ≡ r + n = mod-eq_of_lt lt in omega (arith, e, f))
    (λ ge.
    let split : r + n ≡ (r + n - frame) + frame = omega arith in
    let lt : r + n - frame < frame = omega (arith, small, le, below) in
    let f : (r + n) % frame ≡ r + n - frame = ap (λ p. p % frame) split ∙ add-mod_right (r + n - frame) frame ∙ mod-eq_of_lt lt in
    absurd (omega (arith, e, f, small, le, ge)))
    (cases_lt (r + n) frame)

module _ (ended : cover.Ended) where
  open ended use {image, program, fits, s}
  open ended.found.nodes use {keys as nodes}
  open ended.found.parents use {items as parents}
  open ended.found.marks use {items as marks}
  open ended.found.returns use {items as returns}

  abbrev pub Syncs : ℕ → ℕ → Type 0
  Syncs p v = SyncAt program.schedule marks p v

  abbrev pub NoSync : ℕ → Type 0
  NoSync p = (v : ℕ) → Syncs p v → ⊥

  abbrev Level : ℕ → ℕ → Type 0
  Level p v = LevelIs program.schedule marks p v

  level_more : (p g v : ℕ) → Level p v → ((k : ℕ) → 1 ≤ k → k ≤ g → NoSync (p + k)) → Level (p + g) v
  level_more p g v h quiet = record {
    last = h.last;
    le = (let le = h.le in omega (arith, le));
    sync = h.sync;
    quiet = λ j after le. ⊎_elim
        (λ lt. h.quiet j after (omega arith))
        (λ ge. let e : p + (j - p) ≡ j = omega (arith, ge) in
        subst NoSync e (quiet (j - p) (let q = ge in omega (arith, q)) (omega (arith, le))))
        (cases_lt j (p + 1));
  }

  -- the level of an instance is the schedule's at its position
  abbrev pub Good : Instance → Type 0
  Good x = LevelAt program.schedule marks (position_of program.schedule x) x.level

  abbrev T : (x : Instance) → Among nodes x → Treated image program nodes marks returns x
  T x node = cover.treated ended x node

  -- a sync event that is marked where an instance passes is what it shows
  sync_shown : (x : Instance) (node : Among nodes x) → x.kind ≢ Main → (p k v : ℕ)
      → p % frame_of program.schedule ≡ position_of program.schedule x → 1 ≤ k → k ≤ most_clocks program x (T x node).next.out.items
      → Syncs (p + k) v → shown_at (T x node).next.emit k ≡ Some (Sync v)
  sync_shown x node apart p k v place some few h =
      let l : ℕ = line_on program x k in
      let q : ℕ = clock_on program x k in
      let goes = cover.passed ended x node apart k few in
      let stands = cover.stands ended x node in
      let there = reach_position program.schedule x.line x.clock k l q p stands.line goes place in
      let one = one_place program.schedule h.line h.clock l q h.in_line goes.0 (sym h.place ∙ there) in
      let same : at h.line h.clock ≡ at l q = ap (λ m. at m h.clock) one.0 ∙ ap (at l) one.1 in
      seen_once marks (at l q) (shown_at (T x node).next.emit k) (Some (Sync v)) ((T x node).seen apart k some few)
      (subst (λ m. Seen marks m (Some (Sync v))) same h.seen)

  place_at_result : (x : Instance) (node : Among nodes x) → x.kind ≢ Main → (y : Instance) → Among (T x node).next.out.items y
      → (g : Good x) → (g.p + clocks_between program x y) % frame_of program.schedule ≡ position_of program.schedule y
  place_at_result x node apart y there g =
      let mv = (cover.owed ended x node apart).moves y there in
      reach_position program.schedule x.line x.clock (clocks_between program x y) y.line y.clock g.p
      (cover.stands ended x node).line mv.goes g.at

  -- the level at a result
  level_at_result : (x : Instance) (node : Among nodes x) → x.kind ≢ Main → (i : ℕ) (y : Instance) → slice_get (T x node).next.out.items
      i ≡ Some y → (g : Good x) → Level (g.p + clocks_between program x y) y.level
  level_at_result x node apart i y out g = ⊎_elim
      (λ sync.
      let v = sync.1 in
      let time : sync.0 ≡ c = o.at_end sync.0 (Sync v) y sync.2 there in
      let shows : shown_at t.next.emit c ≡ Some (Sync v) = shown_here t.next.emit c (Sync v) (sync.2 ∙ ap (λ k. Some (k, Sync v)) time) in
      let here : Syncs (g.p + c) v = record {
        line = y.line;
        clock = y.clock;
        below = cover.result_line ended x node apart y there;
        in_line = mv.goes.0;
        place = place_at_result x node apart y there g;
        seen = subst (Seen marks (at y.line y.clock)) shows
            (cover.seen_at ended x node apart c y.line y.clock mv.some few mv.goes);
      } in
      subst (Level (g.p + c)) (sym (o.syncs sync.0 v y sync.2 there).0)
      (record { last = g.p + c; le = omega arith; sync = here; quiet = λ j after le. absurd (omega (arith, after, le)) }))
      (λ none.
      subst (Level (g.p + c)) (sym (o.keeps none y there))
      (level_more g.p c x.level g.level (λ k some le v h.
      none k v (shown_is t.next.emit k (Sync v) (sync_shown x node apart g.p k v g.at some (omega (arith, le, few)) h)))))
      (emit_cases t.next.emit)
    where
      t : Treated image program nodes marks returns x
      t = T x node

      o : Owes program x t.next
      o = cover.owed ended x node apart

      there : Among t.next.out.items y
      there = (i, out)

      mv : Moves program x y
      mv = o.moves y there

      c : ℕ
      c = clocks_between program x y

      few : c ≤ most_clocks program x t.next.out.items
      few = clocks_few program x t.next.out.items i y out

  good_result : (x : Instance) (node : Among nodes x) → x.kind ≢ Main → (y : Instance) → Among (T x node).next.out.items y → Good x
      → Good (widened program y)
  good_result x node apart y there g =
      let same = widened_place program y in
      record {
        p = g.p + clocks_between program x y;
        at = place_at_result x node apart y there g ∙ ap (λ (l : ℕ). start_of program.schedule l + y.clock) (sym same.line)
            ∙ ap (λ (q : ℕ). start_of program.schedule (widened program y).line + q) (sym same.clock);
        level = subst (Level (g.p + clocks_between program x y)) (sym same.level) (level_at_result x node apart there.0 y there.1 g);
      }

  -- a place of the frame where no sync is marked
  no_sync_at : (p l q : ℕ) → q < length_of program.schedule l → p % frame_of program.schedule ≡ start_of program.schedule l + q
      → ((v : ℕ) → Seen marks (at l q) (Some (Sync v)) → ⊥) → NoSync p
  no_sync_at p l q in_line place none v h =
      let one = one_place program.schedule h.line h.clock l q h.in_line in_line (sym h.place ∙ place) in
      none v (subst (λ m. Seen marks m (Some (Sync v))) (ap (λ m. at m h.clock) one.0 ∙ ap (at l) one.1) h.seen)

  early_quiet : (l q : ℕ) → q < program.schedule.fall → (v : ℕ) → Seen marks (at l q) (Some (Sync v)) → ⊥
  early_quiet l q below v h =
      let f = fits.fall_in_line l in
      let a = cover.steady_above ended l q (Sync v) (omega (arith, f, below)) h in
      omega (arith, a, below)

  good_entry : (x : Instance) (node : Among nodes x) → x.kind ≢ Main → (end e : Instance) → (T x node).next.back ≡ true
      → slice_get (T x node).next.out.items 0 ≡ Some end → Among (entries program end) e → Good x → Good e
  good_entry x node apart end e back out entry g = record {
    p = p + gap;
    at = step gap e.line e.clock reach;
    level = subst (Level (p + gap)) (sym law.2)
        (level_more p gap end.level (level_at_result x node apart 0 end out g) (λ k some le. ⊎_elim
        (λ (on_line : end.clock + k < long).
        no_sync_at (p + k) end.line (end.clock + k) on_line (step k end.line (end.clock + k) (on_line, inl (refl, refl))) (λ v h.
        cover.quiet_after ended end.line noted.0 (end.clock + k) (Sync v) noted.1 (let c = noted.2.0 in omega (arith, c, some)) on_line h))
        (λ (past : long ≤ end.clock + k).
        let q : ℕ = end.clock + k - long in
        let below : q < program.schedule.fall = (let c = law.0.clock in let r = reach_is in omega (arith, c, r, le)) in
        let in_line : q < length_of program.schedule e.line = (let f = fits.fall_in_line e.line in omega (arith, below, f)) in
        no_sync_at (p + k) e.line q in_line (step k e.line q (in_line, inr (law.1, omega (arith, past)))) (early_quiet e.line q below))
        (cases_lt (end.clock + k) long)));
  }
    where
      t : Treated image program nodes marks returns x
      t = T x node

      o : Owes program x t.next
      o = cover.owed ended x node apart

      mv : Moves program x end
      mv = o.moves end (0, out)

      law : Before program e × IsNext program.schedule end.line e.line × (e.level ≡ end.level)
      law = entry_place program end e (cover.entered ended x node back) (cover.result_line ended x node apart end (0, out)) entry

      noted : Noted returns end
      noted = t.noted back end out

      p : ℕ
      p = g.p + clocks_between program x end

      long : ℕ
      long = length_of program.schedule end.line

      gap : ℕ
      gap = e.clock + long - end.clock

      reach_is : e.clock + long ≡ end.clock + gap
      reach_is = let h = mv.goes.0 in omega (arith, h)

      reach : Reaches program.schedule end.line end.clock gap e.line e.clock
      reach = ((let c = law.0.clock in let f = fits.fall_in_line e.line in omega (arith, c, f)), inr (law.1, reach_is))

      place_end : p % frame_of program.schedule ≡ position_of program.schedule end
      place_end = place_at_result x node apart end (0, out) g

      line_in : end.line < lines_of program
      line_in = cover.result_line ended x node apart end (0, out)

      step : (k l q : ℕ) → Reaches program.schedule end.line end.clock k l q
          → (p + k) % frame_of program.schedule ≡ start_of program.schedule l + q
      step k l q r = reach_position program.schedule end.line end.clock k l q p line_in r place_end

  pub good_kept : cover.Kept ended Good
  good_kept = record {
    result = λ x node apart y back there g. good_result x node apart y there g;
    entry = λ x node apart end e back out entry g. good_entry x node apart end e back out entry g;
  }

  node_of : (l : ℕ) → l < lines_of program → cover.FallNode ended l
  node_of l below = cover.fall_node ended l (cover.each_falls ended l below)

  good_fall : (l : ℕ) → l < lines_of program → (n : cover.FallNode ended l) → Good n.x
  good_fall l below n =
      let place : ℕ = start_of program.schedule l + program.schedule.fall in
      let here : place % frame_of program.schedule ≡ place =
      mod-eq_of_lt (place_below program.schedule l program.schedule.fall below (fits.fall_in_line l)) in
      let clock = n.clock in
      let start = ap (start_of program.schedule) n.line in
      record {
        p = place;
        at = here ∙ omega (arith, start, clock);
        level = subst (Level place) (sym n.level) (record {
          last = place;
          le = omega arith;
          sync = record {
            line = l;
            clock = program.schedule.fall;
            below = below;
            in_line = fits.fall_in_line l;
            place = here;
            seen = cover.steady_first ended l below;
          };
          quiet = λ j after le. absurd (omega (arith, after, le));
        });
      }

  -- right before the program.schedule.fall of line 0 the level is 1
  record Eve : Type 0 where
    p : ℕ
    place : (p + 1) % frame_of program.schedule ≡ program.schedule.fall
    level : Level p 1

  frame_big : program.schedule.fall < frame_of program.schedule
  frame_big = let big = place_below program.schedule 0 program.schedule.fall fits.some (fits.fall_in_line 0) in omega (arith, big)

  pub frame_some : 0 < frame_of program.schedule
  frame_some = let big = frame_big in omega (arith, big)

  eve : Eve
  eve = record {
    p = g.p + (k - 1);
    place = ap (λ m. m % frame_of program.schedule) whole ∙ reach;
    level = subst (Level (g.p + (k - 1))) one (level_more g.p (k - 1) x.level g.level (λ j some le v h.
        let shows = sync_shown x f.node f.apart g.p j v g.at some (let few = f.few in omega (arith, le, few)) h in
        let same = (one_emit t.next.emit j k (Sync v) (Sync 0) (shown_is t.next.emit j (Sync v) shows) emit).0 in
        let pos = f.some in omega (arith, same, le, pos)));
  }
    where
      last : ℕ
      last = lines_of program - 1

      below : last < lines_of program
      below = let n = fits.some in omega (arith, n)

      n : cover.FallNode ended last
      n = node_of last below

      found : (f : cover.Falls ended 0) × Good f.x
      found =
          let line = n.line in
          let clock = n.clock in
          let some = fits.some in
          let long : ℕ = length_of program.schedule n.x.line in
          cover.next_fall ended Good good_kept long n.x n.node n.apart (good_fall last below n)
          long 0 (let few = length_some program fits n.x.line in omega (arith, few)) (omega arith)
          (fits.fall_in_line 0, inr (inl (omega (arith, line, some), refl), omega (arith, clock)))

      f : cover.Falls ended 0
      f = found.0

      g : Good f.x
      g = found.1

      x : Instance
      x = f.x

      k : ℕ
      k = f.k

      t : Treated image program nodes marks returns x
      t = T x f.node

      o : Owes program x t.next
      o = cover.owed ended x f.node f.apart

      shown : shown_at t.next.emit k ≡ Some (Sync 0)
      shown = (cover.cleared ended x f.node f.apart).falls 0 k f.some f.few f.reach

      emit : t.next.emit ≡ Some (k, Sync 0)
      emit = shown_is t.next.emit k (Sync 0) shown

      one : x.level ≡ 1
      one = let e = (o.syncs k 0 o.out.0 emit (0, o.out.1)).1 in omega (arith, e)

      whole : g.p + (k - 1) + 1 ≡ g.p + k
      whole = let pos = f.some in omega (arith, pos)

      reach : (g.p + k) % frame_of program.schedule ≡ program.schedule.fall
      reach = reach_position program.schedule x.line x.clock k 0 program.schedule.fall g.p
          (cover.stands ended x f.node).line f.reach g.at ∙ omega arith

  -- at each clock of line 0 before its program.schedule.fall the level is 1
  pub record FirstLevel (q : ℕ) : Type 0 where
    pub p : ℕ
    pub place : p % frame_of program.schedule ≡ q
    pub level : Level p 1

  pub first_level : (q : ℕ) → q < program.schedule.fall → FirstLevel q
  first_level q below = ⊎_elim
      (λ (short : e.p < l.last + n).
      let i : ℕ = e.p - l.last in
      let le = l.le in
      let sum : l.last + (i + 1) ≡ e.p + 1 = omega (arith, le) in
      let place : l.last % frame_of program.schedule ≡ program.schedule.fall - (i + 1) =
      back_mod (frame_of program.schedule) l.last (i + 1) program.schedule.fall frame_some
      (ap (λ m. m % frame_of program.schedule) sum ∙ e.place) (omega (arith, short, le)) frame_big in
      absurd (no_sync_at l.last 0 (program.schedule.fall - (i + 1)) (let f = fits.fall_in_line 0 in omega (arith, f)) (place ∙ omega arith)
      (early_quiet 0 (program.schedule.fall - (i + 1)) (omega (arith, below))) 1 l.sync))
      (λ (long : l.last + n ≤ e.p).
      let sum : (e.p - n) + (n + 1) ≡ e.p + 1 = omega (arith, long) in
      let place : (e.p - n) % frame_of program.schedule ≡ program.schedule.fall - (n + 1) =
      back_mod (frame_of program.schedule) (e.p - n) (n + 1) program.schedule.fall
      frame_some (ap (λ m. m % frame_of program.schedule) sum ∙ e.place) (omega (arith, below)) frame_big in
      record {
        p = e.p - n;
        place = place ∙ omega (arith, below);
        level = record {
          last = l.last;
          le = omega (arith, long);
          sync = l.sync;
          quiet = λ j after le. l.quiet j after (omega (arith, le));
        };
      })
      (cases_lt e.p (l.last + n))
    where
      e : Eve
      e = eve

      l : Level e.p 1
      l = e.level

      n : ℕ
      n = program.schedule.fall - 1 - q

  record AllGood (x : Instance) : Type 0 where
    node : Among nodes x
    good : x.kind ≢ Main → Good x
    main : x.kind ≡ Main → x.level ≡ 1

  all_start : (y : Instance) → Among program.starts y → AllGood y
  all_start y h = record {
    node = s.started y h;
    good = λ apart.
        let b = start_place program fits y h apart in
        let f = first_level y.clock b.0.clock in
        record {
          p = f.p;
          at = f.place ∙ no_line y.clock ∙ ap (λ (m : ℕ). start_of program.schedule m + y.clock) (sym b.1);
          level = subst (Level f.p) (sym ((fits.starts y h).level)) f.level;
        };
    main = λ _. (fits.starts y h).level;
  }
    where
      no_line : (q : ℕ) → q ≡ start_of program.schedule 0 + q
      no_line q = omega arith

  all_more : (x y : Instance) → AllGood x → Follows image program x y → AllGood y
  all_more x y e follows = ⊎_elim
      (λ (back : t.next.back ≡ true).
      let flat : Among (flat_map (entries program) t.next.out.items) y = subst (λ l. Among l y)
      (ap (λ b. if b then flat_map (entries program) t.next.out.items else map (widened program) (pieces (split_at program x)
      t.next.out.items)) back)
      (cover.following ended x e.node y follows) in
      let from = of_flat (entries program) t.next.out.items y flat in
      let x_apart : x.kind ≢ Main = cover.back_apart ended x e.node back in
      let first = (cover.owed ended x e.node x_apart).out in
      record {
        node = t.follow y (cover.following ended x e.node y follows);
        good = λ apart. entry_good x_apart back from.0 from.1 from.2;
        main = λ main. absurd ((entry_place program from.0 y (cover.entered ended x e.node back)
            (cover.result_line ended x e.node x_apart from.0 from.1) from.2).0.apart main);
      })
      (λ (back : t.next.back ≡ false).
      let f = from_result program x t.next y back (cover.following ended x e.node y follows) in
      let z = f.result in
      let z_there : Among t.next.out.items z = f.there in
      let same = result_place program x t.next y f in
      let kind : y.kind ≡ z.kind = same.kind in
      let level : y.level ≡ z.level = same.level in
      ⊎_elim
      (λ (main : x.kind ≡ Main). record {
        node = t.follow y (cover.following ended x e.node y follows);
        good = λ apart. absurd (apart (kind ∙ cover.main_kind ended x e.node main z z_there));
        main = λ _. level ∙ cover.main_level ended x e.node main z z_there ∙ e.main main;
      })
      (λ (x_apart : x.kind ≢ Main). record {
        node = t.follow y (cover.following ended x e.node y follows);
        good = λ apart. subst Good (f.plain (apart_main x.kind x_apart)) (good_result x e.node x_apart z z_there (e.good x_apart));
        main = λ main. absurd (((cover.owed ended x e.node x_apart).moves z z_there).apart (sym kind ∙ main));
      })
      (kind_cases x.kind))
      (cases_Bool t.next.back)
    where
      t : Treated image program nodes marks returns x
      t = T x e.node

      entry_good : x.kind ≢ Main → t.next.back ≡ true → (end : Instance) → Among t.next.out.items end → Among (entries program end) y
          → Good y
      entry_good apart back end there entry =
          good_entry x e.node apart end y back ((cover.owed ended x e.node apart).one back end there) entry (e.good apart)

  -- the level of each instance is the schedule's, and main's is that of the frame's begin
  pub good_all : (x : Instance) → Among nodes x → x.kind ≢ Main → Good x
  good_all x node apart = (tree_all image program AllGood all_start all_more nodes parents s.tree x node).good apart

  pub main_all : (x : Instance) → Among nodes x → x.kind ≡ Main → x.level ≡ 1
  main_all x node main = (tree_all image program AllGood all_start all_more nodes parents s.tree x node).main main

-- The certificate that is made of an ended search is well formed, and accepted.
use Rattle.std.proofs.Common.{◌≡◌, ◌≢◌, ◌∙◌, sym, ap, refl, arith, inl, inr, ⊎_elim, ◌⊎◌, ℕ, zero, suc, ◌+◌, ◌-◌, ◌*◌, ◌<◌, ◌≤◌, Bool, true}
use Rattle.std.proofs.Common.{false, List, [], ◌∷◌, map, length, subst, if◌then◌else◌}
use Rattle.std.specs.Prelude.{Contains, Option, Some, ◌&&◌, ◌||◌, ◌==◌, nat_eq, nat_le, slice_get, unwrap_or}
use Rattle.std.proofs.lemmas.Bool.{cases_eq, cases_lt, or_right, and_parts}
use Rattle.std.proofs.lemmas.Bool.Decides.{nat_tests}
use Rattle.std.proofs.lemmas.List.{length-map}
use Rattle.std.proofs.lemmas.Option.{get_or_from_slice_get, slice_get-get_or, slice_get_within}
use Rattle.uz_schedule.proofs.Starts.{length_within}
use Rattle.uz_schedule.specs.Instances.{entry_instance, entry_instance_at, handler_entry, instance_at, is_in_box, level_or_zero}
use Rattle.uz_schedule.specs.Limits.{ScheduleFits, rises}
use Rattle.uz_schedule.specs.Schedule.{length_of, level_at, next_line, response_clocks, start_of}
use Rattle.uz_schedule.specs.Tracked.{tracked}
use Rattle.uz_schedule.specs.WellFormed.{EntryFits, EntryKindFits, PointFits, PointsFit, RangeFits, RestFits, RestsFit}
use Rattle.uz_schedule.specs.WellFormed.{WellFormed, instances_of, spans_fit}
use Rattle.uz_schedule.specs.declared.certificate.Cert.{Cert}
use Rattle.uz_schedule.specs.declared.kinds.Kind.{Kind}
use Rattle.uz_schedule.specs.declared.kinds.Kind.TheVariants.{Main, Handler, Alone}
use Rattle.uz_schedule.specs.declared.kinds.Response.{Response}
use Rattle.uz_schedule.specs.declared.kinds.Response.TheVariants.{Four, Five}
use Rattle.uz_schedule.specs.declared.lines.Schedule.{Schedule}
use Rattle.uz_schedule.specs.declared.states.Entry.{Entry}
use Rattle.uz_schedule.specs.declared.states.Instance.{Instance}
use Rattle.uz_schedule.specs.declared.states.Point.{Point}
use Rattle.uz_schedule.specs.declared.states.Rest.{Rest}
use Rattle.uz_rules.specs.Inside.{inside, known_inside, place_of_itself, same_place, KnownInItself, PlaceHolds, PlaceTells}
use Rattle.uz_rules.specs.Successors.{any_from, lies_at, lies_in_any, lies_in_box, lies_in_point}
use Rattle.uz_check.specs.Acceptance.{Accepts}
use Rattle.uz_search.specs.declared.found.Found.{Found}
use Rattle.uz_search.specs.declared.program.Program.{Program}
use Rattle.uz_search.specs.Fitting.{ProgramFits, Stands}
use Rattle.uz_search.specs.Following.{Among, Flash, order_of_program, lines_of, split_at}
use Rattle.uz_search.specs.Pieces.{pieces}
use Rattle.uz_search.specs.Returning.{ReturnAt}
use Rattle.uz_search.specs.Searching.{IsEnded}
use Rattle.uz_search.specs.Widened.{widened}
use Rattle.uz_search.proofs.TimerLaws.{last_clock}
use Rattle.uz_search.proofs.VisitingLemmas.{some_is}
use Rattle.uz_search.proofs.Lists.{in_map, of_map}
use Rattle.uz_search.specs.Complete.{EndedFallsOnce, EndedLevels, EndedLevelsFit, EndedRestsAreQuiet, EndedRestsEnter, HasSuccessors}
use Rattle.uz_search.specs.Complete.{PiecesPass}
use Rattle.uz_search.specs.Limits.{EndedWithinLimits, IsWithinLimits, LiesInWidened}
use Rattle.uz_search.specs.Made as made_of
use Rattle.uz_search.specs.Accepting.{ArePointsOf, EndedAccepts, IsRestOf, StandsFor}
use Rattle.uz_paths.specs.declared.certificate.Parts.{Parts}
use Rattle.uz_paths.specs.Certificate.{ArePartsOf, IsEntry, ReturnsFromMain, cert_of}
use Rattle.uz_paths.specs.Linked.{AreEntered, SuccessorsFit, LeadsToResults, first_after}
use Rattle.uz_paths.specs.Numbers.{Numbered}
use Rattle.uz_join.specs.Points.{IsOrdered, point_of, vector_after}
use Rattle.uz_paths.specs.Rests.{rests_of}
use Rattle.uz_paths.specs.Splits.{SplitsFit, split_for, with_split}
use Rattle.uz_paths.proofs.Counting.{at_least, sum_few}
use Rattle.uz_paths.proofs.FewResults.{few_out}
use Rattle.uz_paths.proofs.MadeSchedule.{EventByLine, is_fit, is_made}
use Rattle.uz_paths.proofs.NumberLemmas.{numbers_below}
use Rattle.uz_paths.proofs.RestLemmas.{all_in, few_of, lines_of_rests, of_return, one_rest, rest_among, rest_of_line, rests_rise}
use Rattle.uz_paths.proofs.SameInstance.{own_instance, vector_instance}
use Rattle.uz_paths.proofs.WithinPoints.{all_of, own_fits, split_known, vector_fits}

-- what is known of an ended search, and of schedules
pub record Laws : Type 0 where
  pub by_line : EventByLine
  pub falls : EndedFallsOnce
  pub levels_fit : EndedLevelsFit
  pub quiet : EndedRestsAreQuiet
  pub levels : EndedLevels
  pub enter : EndedRestsEnter
  pub within : EndedWithinLimits
  pub widens : LiesInWidened
  pub tells : PlaceTells
  pub holds : PlaceHolds
  pub itself : KnownInItself
  pub pass : PiecesPass
  pub accepts : EndedAccepts
  pub stand : (image : Flash) (p : Program) (s : Found) (x : Instance) → ProgramFits p → IsEnded image p s → Among s.nodes.keys x
      → Stands p x

-- Lists

there_is : {A : Type 0} (xs : List A) (k : ℕ) → k < length xs → (x : A) × (slice_get xs k ≡ Some x)
there_is [] k h = absurd (omega arith)
there_is (x ∷ xs) zero h = (x, refl)
there_is (x ∷ xs) (suc k) h = there_is xs k (omega arith)

eq_of : (a b : ℕ) → nat_eq a b ≡ true → a ≡ b
eq_of a b e = grind (arith, nat_tests)

le_of : (a b : ℕ) → nat_le a b ≡ true → a ≤ b
le_of a b e = grind (arith, nat_tests)

line_of : PlaceTells → (a b : Instance) → inside a b ≡ true → a.line ≡ b.line
line_of tells a b h = (tells a b (and_parts (same_place a b) (known_inside a b) h).0).line

inside_self : PlaceHolds → KnownInItself → (x : Instance) → inside x x ≡ true
inside_self holds itself x = λ i. holds x x (place_of_itself x) i && itself x i

-- Where instances lie

any_true : (test : ℕ → Bool) (k n j : ℕ) → k ≤ j → j < k + n → test j ≡ true → any_from test k n ≡ true
unfolding any_from
any_true test k zero j le less h = absurd (omega arith)
any_true test k (suc n) j le less h = ⊎_elim
    (λ (same : k ≡ j). ap (λ b. b || any_from test (suc k) n) (ap test same ∙ h))
    (λ (other : k ≢ j). or_right (test k) (any_from test (suc k) n) (any_true test (suc k) n j (omega arith) (omega arith) h))
    (cases_eq k j)

-- at one of the counts of a point's box this instance is known
pub record IsKnownAt (cert : Cert) (n : ℕ) (x : Instance) : Type 0 where
  pub point : Point
  pub at : slice_get cert.points n ≡ Some point
  pub count : ℕ
  pub low : point.c0 ≤ count
  pub high : count ≤ point.c1
  pub is : instance_at cert n x.line count ≡ Some x

lies : PlaceTells → (cert : Cert) (n : ℕ) (x y : Instance) → IsKnownAt cert n x → inside y x ≡ true → lies_in_point cert n y ≡ true
lies tells cert n x y known h =
    ap (λ o. lies_in_box cert n o y) known.at
    ∙ any_true (λ c. lies_at (instance_at cert n y.line c) y) known.point.c0 (suc known.point.c1 - known.point.c0) known.count known.low
    (let low = known.low in let high = known.high in omega arith)
    (ap (λ l. lies_at (instance_at cert n l known.count) y) (line_of tells y x h) ∙ (ap (λ o. lies_at o y) known.is ∙ h))

any_named : (cert : Cert) (ids : List ℕ) (i n : ℕ) (y : Instance) → slice_get ids i ≡ Some n → lies_in_point cert n y ≡ true
    → lies_in_any cert ids y ≡ true
any_named cert [] i n y at h = absurd (cc)
any_named cert (id ∷ ids) zero n y at h = ap (λ b. b || lies_in_any cert ids y) (ap (λ m. lies_in_point cert m y) (some_is id n at) ∙ h)
any_named cert (id ∷ ids) (suc i) n y at h = or_right (lies_in_point cert id y) (lies_in_any cert ids y) (any_named cert ids i n y at h)

-- Lines

abbrev next_of : ℕ → ℕ → ℕ
next_of n l = if suc l == n then 0 else suc l

-- two lines with one next line are one
one_next : (n a b : ℕ) → a < n → b < n → next_of n a ≡ next_of n b → a ≡ b
one_next n a b below under same = by (nat_eq (suc a) n) (nat_eq (suc b) n) refl refl same
  where
    by : (s t : Bool) → nat_eq (suc a) n ≡ s → nat_eq (suc b) n ≡ t → (if s then 0 else suc a) ≡ (if t then 0 else suc b) → a ≡ b
    by true true e f h = let x = eq_of (suc a) n e in let y = eq_of (suc b) n f in omega arith
    by true false e f h = absurd (omega arith)
    by false true e f h = absurd (omega arith)
    by false false e f h = omega arith

pub next_below : (n l : ℕ) → l < n → next_of n l < n
next_below n l below = by (nat_eq (suc l) n) refl
  where
    apart : (a b : ℕ) → nat_eq a b ≡ false → a ≢ b
    apart a b e = grind (arith, nat_tests)

    by : (s : Bool) → nat_eq (suc l) n ≡ s → (if s then 0 else suc l) < n
    by true e = omega arith
    by false e = let other = apart (suc l) n e in omega arith

few_clocks : (irq : Response) → response_clocks irq ≤ 5
few_clocks Four = omega arith
few_clocks Five = omega arith

-- the handler's first states after a rest are instances
pub entered : (image : Flash) (p : Program) (found : Found) (entry : Entry) (s : Schedule) → EndedRestsEnter → ProgramFits p → IsEnded image
    p found → made_of.IsScheduleOf p found.marks.items s
    → (k c : ℕ) (rest : Rest) → slice_get (rests_of found.returns.items) k ≡ Some rest → c ≤ 3
    → Among found.nodes.keys (first_after p s rest c)
entered image p found entry s enter fits ended made k c rest at few =
    let o = of_return 0 0 found.returns.items k rest at in
    let line : o.place ≡ rest.line = (let l = o.is_line in omega arith) in
    enter image p found (record { head = p.head; schedule = s; rests = []; entry = entry; points = [] }) rest o.noted c fits ended refl made
    (subst (λ l. ReturnAt found.returns.items l o.noted) line o.there) (ap (λ v. v.items) o.are_cells) few

pub are_entered : (image : Flash) (p : Program) (found : Found) (entry : Entry) (s : Schedule) → EndedRestsEnter → ProgramFits p
    → IsEnded image p found → made_of.IsScheduleOf p found.marks.items s → ScheduleFits s
    → AreEntered p s (rests_of found.returns.items) found.nodes.keys
are_entered image p found entry s enter fits ended made fit k rest at = record {
  schedule = fit;
  lines = made.lines;
  line = lines_of_rests found.returns.items (rests_of found.returns.items) (lines_of p) refl ended.lines k rest at;
  first = λ c few. entered image p found entry s enter fits ended made k c rest at few;
}

module _ (image : Flash) (p : Program) (entry : Entry) (found : Found) (parts : Parts) (laws : Laws) (fits : ProgramFits p)
    (ended : IsEnded image p found)
    (few : length found.nodes.keys < 524288) (splits_fit : SplitsFit p) (entering : IsEntry p entry) (returns : ReturnsFromMain p found)
    (of : ArePartsOf image p entry found parts) where
  abbrev cert : Cert
  cert = cert_of p parts

  abbrev response : ℕ
  response = response_clocks p.head.irq

  abbrev next : ℕ → ℕ
  next l = (order_of_program p).next l

  made : made_of.IsScheduleOf p found.marks.items parts.schedule
  made = is_made p found.marks.items parts.schedule laws.by_line of.schedule

  schedule_fits : ScheduleFits parts.schedule
  schedule_fits = is_fit image p found parts.schedule laws.by_line laws.falls laws.levels_fit fits ended of.schedule

  same_next : (l : ℕ) → next_line parts.schedule l ≡ next l
  same_next l = ap (λ n. if suc l == n then 0 else suc l) of.schedule.count

  -- the last clock of a line
  abbrev last : ℕ → ℕ
  last l = (order_of_program p).length l - 1

  same_last : (l : ℕ) → length_of parts.schedule l - 1 ≡ last l
  same_last l = ap (λ n. n - 1) (of.schedule.lengths l)

  limits : (x : Instance) → Among found.nodes.keys x → IsWithinLimits p x
  limits x node = laws.within image p found x fits entering.limits ended node

  stand : (x : Instance) → Among found.nodes.keys x → Stands p x
  stand x node = laws.stand image p found x fits ended node

  level : (x : Instance) → Among found.nodes.keys x → level_at parts.schedule (start_of parts.schedule x.line + x.clock) ≡ Some x.level
  level x node = laws.levels image p found parts.schedule x fits ended made node

  -- lines are as long as the program's
  clock_in : (x : Instance) → Among found.nodes.keys x → x.clock < length_of parts.schedule x.line
  clock_in x node = subst (λ n. x.clock < n) (sym (of.schedule.lengths x.line)) (stand x node).clock

  -- Rests

  among_rests : (k : ℕ) (rest : Rest) → slice_get parts.rests.items k ≡ Some rest → slice_get (rests_of found.returns.items) k ≡ Some rest
  among_rests k rest at = ap (λ rs. slice_get rs k) (sym of.rests) ∙ at

  rest_line : (k : ℕ) (rest : Rest) → slice_get parts.rests.items k ≡ Some rest → rest.line < lines_of p
  rest_line k rest at = lines_of_rests found.returns.items parts.rests.items (lines_of p) of.rests ended.lines k rest at

  first : (k c : ℕ) (rest : Rest) → slice_get parts.rests.items k ≡ Some rest → c ≤ 3 → Among found.nodes.keys
      (first_after p parts.schedule rest c)
  first k c rest at le = entered image p found entry parts.schedule laws.enter fits ended made k c rest (among_rests k rest at) le

  -- the certificate has each point with its split
  cert_at : (n : ℕ) (q : Point) → slice_get parts.points.items n ≡ Some q → slice_get cert.points n ≡ Some (with_split p.splits q)
  cert_at n q at = in_map (with_split p.splits) parts.points.items n q at

  -- a vector's instance at its line, for each latency
  vector_at : (k c : ℕ) (rest : Rest) → slice_get parts.rests.items k ≡ Some rest → c ≤ 3 → instance_at cert k
      (next_line parts.schedule rest.line) c ≡ Some (first_after p parts.schedule rest c)
  vector_at k c rest at le =
      let v = of.points.vectors k rest at in
      let x = first_after p parts.schedule rest c in
      let small = few_clocks p.head.irq in
      let there : level_at parts.schedule (start_of parts.schedule (next rest.line) + (c + response)) ≡ Some x.level =
      ap (λ l. level_at parts.schedule (start_of parts.schedule l + (c + response))) (sym (same_next rest.line))
      ∙ level x (first k c rest at le) in
      let room = (length_within parts.schedule schedule_fits (next rest.line)).0 in
      ap (λ l. instance_at cert k l c) (same_next rest.line)
      ∙ (vector_instance cert k rest.cells.items (next rest.line) response c x.level (last rest.line) v.next
      (cert_at k (vector_after response (order_of_program p) rest v.next) v.is) le (omega arith) there
      ∙ (λ j. Some (handler_entry rest.cells.items (sym (same_next rest.line) j) (c + response) x.level (sym (same_last rest.line) j))))

  -- a vector says what is known of each of its first states
  vector_known : (k c : ℕ) (rest : Rest) → slice_get parts.rests.items k ≡ Some rest → c ≤ 3 → IsKnownAt cert k
      (first_after p parts.schedule rest c)
  vector_known k c rest at le =
      let v = of.points.vectors k rest at in
      record {
        point = vector_after response (order_of_program p) rest v.next;
        at = cert_at k (vector_after response (order_of_program p) rest v.next) v.is;
        count = c;
        low = omega arith;
        high = le;
        is = vector_at k c rest at le;
      }

  -- the point of an instance says what is known
  known : (i n : ℕ) (x : Instance) → slice_get found.nodes.keys i ≡ Some x → slice_get of.numbers i ≡ Some n → IsKnownAt cert n x
  known i n x node number = by (of.numbered.each i n x node number)
    where
      by : Numbered response (order_of_program p) parts.rests.items (length parts.points.items) n x → IsKnownAt cert n x
      by (inl v) =
          let vec = of.points.vectors n v.rest v.there in
          let low = v.after.first.earliest in
          let high = v.after.first.latest in
          let clocks : x.clock < length_of parts.schedule (next v.rest.line) =
          subst (λ l. x.clock < length_of parts.schedule l) (sym v.after.line) (clock_in x (i, node)) in
          let same : x.clock - response + response ≡ x.clock = omega arith in
          let there : level_at parts.schedule (start_of parts.schedule (next v.rest.line) + (x.clock - response + response)) ≡ Some
          x.level =
          (λ j. level_at parts.schedule (start_of parts.schedule (v.after.line j) + same j)) ∙ level x (i, node) in
          record {
            point = vector_after response (order_of_program p) v.rest vec.next;
            at = cert_at n (vector_after response (order_of_program p) v.rest vec.next) vec.is;
            count = x.clock - response;
            low = omega arith;
            high = omega arith;
            is = ap (λ l. instance_at cert n l (x.clock - response)) (sym v.after.line)
                ∙ (vector_instance cert n v.rest.cells.items (next v.rest.line) response (x.clock - response) x.level (last v.rest.line)
                vec.next (cert_at n (vector_after response (order_of_program p) v.rest vec.next) vec.is) (omega arith) (omega arith) there
                ∙ (λ j. Some (handler_entry v.rest.cells.items (v.after.line j) (same j) x.level (last v.rest.line))) ∙ ap (λ y. Some y)
                (sym v.after.first.is));
          }
      by (inr h) =
          let own = of.points.own i n x node number h.1 in
          record {
            point = with_split p.splits (point_of x own.next);
            at = cert_at n (point_of x own.next) own.is;
            count = 0;
            low = omega arith;
            high = omega arith;
            is = own_instance cert n x own.next (split_at p x) (cert_at n (point_of x own.next) own.is) (limits x (i, node)).pair_count
                (clock_in x (i, node)) (level x (i, node));
          }

  succeeded : (x : Instance) (ids : List ℕ) (split : Option ℕ) → split_at p x ≡ split → LeadsToResults image p found.nodes.keys of.numbers x ids
      → HasSuccessors image p cert ids split x
  succeeded x ids split same named result y after on there =
      laws.pass p cert ids split result.out.items y (few_out image p x result after) (λ z w piece inside.
      let h = named result z after on (subst (λ s. Among (pieces s result.out.items) z) (sym same) piece) in
      any_named cert ids h.named.0 h.number w h.named.1
      (lies laws.tells cert h.number (widened p z) w (known h.place h.number (widened p z) h.node h.is) inside)) there

  -- Points

  record IsVector (id : ℕ) (point : Point) : Type 0 where
    rest : Rest
    at : slice_get parts.rests.items id ≡ Some rest
    below : id < length parts.rests.items
    ids : List ℕ
    is : point ≡ vector_after response (order_of_program p) rest ids

  record IsOwn (id : ℕ) (point : Point) : Type 0 where
    place : ℕ
    x : Instance
    node : slice_get found.nodes.keys place ≡ Some x
    number : slice_get of.numbers place ≡ Some id
    low : length parts.rests.items ≤ id
    ids : List ℕ
    is : point ≡ point_of x ids
    ordered : IsOrdered x

  -- a point is a vector, or an instance's own
  which : (id : ℕ) (point : Point) → slice_get parts.points.items id ≡ Some point → IsVector id point ⊎ IsOwn id point
  which id point at = ⊎_elim
      (λ (below : id < length parts.rests.items).
      let r = there_is parts.rests.items id below in
      let v = of.points.vectors id r.0 r.1 in
      inl (record { rest = r.0; at = r.1; below = below; ids = v.next; is = some_is point _ (sym at ∙ v.is) }))
      (λ (low : length parts.rests.items ≤ id).
      let i = of.numbered.there id low (slice_get_within parts.points.items id point at) in
      let within : i.0 < length found.nodes.keys = (let w = slice_get_within of.numbers i.0 id i.1 in let same = of.numbered.lengths in
      omega arith) in
      let x = there_is found.nodes.keys i.0 within in
      let own = of.points.own i.0 id x.0 x.1 i.1 low in
      inr (record {
        place = i.0;
        x = x.0;
        node = x.1;
        number = i.1;
        low = low;
        ids = own.next;
        is = some_is point _ (sym at ∙ own.is);
        ordered = own.ordered;
      }))
      (cases_lt id (length parts.rests.items))

  stands_split : (id l c : ℕ) (point : Point) → slice_get parts.points.items id ≡ Some point → is_in_box point l c ≡ true → StandsFor image
      p found cert id l c (with_split p.splits point)
  stands_split id l c point at box = ⊎_elim vector own (which id point at)
    where
      vector : IsVector id point → StandsFor image p found cert id l c (with_split p.splits point)
      vector v =
          let inside : is_in_box (vector_after response (order_of_program p) v.rest v.ids) l c ≡ true =
          subst (λ (z : Point). is_in_box z l c ≡ true) v.is box in
          let parts_of_box = and_parts (nat_le (next v.rest.line) l && nat_le l (next v.rest.line)) (nat_le 0 c && nat_le c 3) inside in
          let lines = and_parts (nat_le (next v.rest.line) l) (nat_le l (next v.rest.line)) parts_of_box.0 in
          let counts = and_parts (nat_le 0 c) (nat_le c 3) parts_of_box.1 in
          let low = le_of (next v.rest.line) l lines.0 in
          let high = le_of l (next v.rest.line) lines.1 in
          let same : next v.rest.line ≡ l = omega arith in
          let le : c ≤ 3 = le_of c 3 counts.1 in
          let x = first_after p parts.schedule v.rest c in
          let k = vector_at id c v.rest v.at le in
          record {
            x = x;
            is = ap (λ l. instance_at cert id l c) (sym same ∙ sym (same_next v.rest.line)) ∙ k;
            node = first id c v.rest v.at le;
            pc = sym (ap (λ (z : Point). z.pc) v.is);
            named = succeeded x point.next.items (split_for p.splits point) (sym (ap (split_for p.splits) v.is))
                (of.named.vectors id v.rest point v.below v.at at c le);
          }

      own : IsOwn id point → StandsFor image p found cert id l c (with_split p.splits point)
      own o =
          let inside : is_in_box (point_of o.x o.ids) l c ≡ true = subst (λ (z : Point). is_in_box z l c ≡ true) o.is box in
          let parts_of_box = and_parts (nat_le o.x.line l && nat_le l o.x.line) (nat_le 0 c && nat_le c 0) inside in
          let lines = and_parts (nat_le o.x.line l) (nat_le l o.x.line) parts_of_box.0 in
          let counts = and_parts (nat_le 0 c) (nat_le c 0) parts_of_box.1 in
          let low = le_of o.x.line l lines.0 in
          let high = le_of l o.x.line lines.1 in
          let zero_count = le_of c 0 counts.1 in
          let same : o.x.line ≡ l = omega arith in
          let none : 0 ≡ c = omega arith in
          let node : Among found.nodes.keys o.x = (o.place, o.node) in
          let there : slice_get parts.points.items id ≡ Some (point_of o.x o.ids) = at ∙ ap (λ z. Some z) o.is in
          record {
            x = o.x;
            is = (λ j. instance_at cert id (sym same j) (sym none j)) ∙ own_instance cert id o.x o.ids (split_at p o.x)
                (cert_at id (point_of o.x o.ids) there) (limits o.x node).pair_count
                (clock_in o.x node) (level o.x node);
            node = node;
            pc = sym (ap (λ (z : Point). z.pc) o.is);
            named = succeeded o.x point.next.items (split_for p.splits point) (sym (ap (split_for p.splits) o.is))
                (of.named.own o.place id o.x point (slice_get_within found.nodes.keys o.place o.x o.node) o.node o.number o.low at);
          }

  stands_for : (id l c : ℕ) (point : Point) → slice_get cert.points id ≡ Some point → is_in_box point l c ≡ true → StandsFor image p found
      cert id l c point
  stands_for id l c point at box =
      let old = of_map (with_split p.splits) parts.points.items id point at in
      subst (StandsFor image p found cert id l c) old.2
      (stands_split id l c old.0 old.1 (subst (λ (z : Point). is_in_box z l c ≡ true) (sym old.2) box))

  is_rest : (rest : Rest) → Contains parts.rests.items rest → IsRestOf found cert rest
  is_rest rest has =
      let at : slice_get parts.rests.items has.0 ≡ Some rest = slice_get-get_or parts.rests.items has.0 rest has.1 ∙ ap (λ r. Some r)
      has.2 in
      let o = of_return 0 0 found.returns.items has.0 rest (among_rests has.0 rest at) in
      let line : o.place ≡ rest.line = (let l = o.is_line in omega arith) in
      let vector : has.0 ≡ rest.vector = (let v = o.is_vector in omega arith) in
      record {
        noted = o.noted;
        at = subst (λ l. ReturnAt found.returns.items l o.noted) line o.there;
        clock = o.is_clock;
        cells = ap (λ v. v.items) o.are_cells;
        vector = λ c le node. (let x = first_after p parts.schedule rest c in
            lies laws.tells cert rest.vector x x (subst (λ n. IsKnownAt cert n x) vector (vector_known has.0 c rest at le)) (inside_self laws.holds laws.itself x));
      }

  -- The entry

  start : Instance
  start = entry_instance_at entry 1

  enters_start : entry_instance cert ≡ entry_instance_at entry 1
  enters_start =
      let e = of.entry_number in
      ap (λ (z : Entry). entry_instance_at z (level_or_zero parts.schedule z.line z.clock)) of.enters
      ∙ ap (λ v. entry_instance_at entry v) (ap (λ o. unwrap_or o 0) (level (entry_instance_at entry 1) (e.place, e.node)))

  entry_lies : lies_in_point cert parts.entry.id (entry_instance cert) ≡ true
  entry_lies =
      let e = of.entry_number in
      subst (λ z. lies_in_point cert parts.entry.id z ≡ true) (sym enters_start)
      (lies laws.tells cert parts.entry.id (entry_instance_at entry 1) (entry_instance_at entry 1)
      (known e.place parts.entry.id (entry_instance_at entry 1) e.node e.is) (inside_self laws.holds laws.itself (entry_instance_at entry 1)))

  some_rest : parts.entry.kind ≡ Main → (rest : Rest) × Contains parts.rests.items rest
  some_rest main =
      let r = returns (entry_instance_at entry 1) entering.start (sym (ap (λ (z : Entry). z.kind) of.enters) ∙ main) in
      let one = rest_of_line 0 0 found.returns.items r.0 r.1 r.2 in
      let among = rest_among (rests_of found.returns.items) (0 + r.0) one.rest one.is in
      let at : slice_get parts.rests.items among.0 ≡ Some one.rest = ap (λ rs. slice_get rs among.0) of.rests ∙ among.1 in (
        one.rest,
        (
          among.0,
          slice_get_within parts.rests.items among.0 one.rest at,
          get_or_from_slice_get parts.rests.items among.0 one.rest
              one.rest at,
        ),
      )

  are_points : ArePointsOf image p found cert
  are_points = record { points = stands_for; rests = is_rest; entry = entry_lies; enters = some_rest }

  -- Limits

  -- each number is some instance's
  all_numbers : (n : ℕ) → n < length parts.points.items → Among of.numbers n
  all_numbers n less = ⊎_elim
      (λ (below : n < length parts.rests.items).
      let r = there_is parts.rests.items n below in
      vector_number n r.0 r.1)
      (λ (low : length parts.rests.items ≤ n). of.numbered.there n low less)
      (cases_lt n (length parts.rests.items))
    where
      vector_number : (n : ℕ) (rest : Rest) → slice_get parts.rests.items n ≡ Some rest → Among of.numbers n
      vector_number n rest at =
          let node = first n 0 rest at (omega arith) in
          let m = there_is of.numbers node.0 (let w = slice_get_within found.nodes.keys node.0 (first_after p parts.schedule rest 0)
          node.1 in let same = of.numbered.lengths in omega arith) in
          (node.0, m.1 ∙ ap (λ k. Some k) (by m.0 (of.numbered.each node.0 m.0 (first_after p parts.schedule rest 0) node.1 m.1)))
        where
          by : (m : ℕ) → Numbered response (order_of_program p) parts.rests.items (length parts.points.items) m
              (first_after p parts.schedule rest 0) → m ≡ n
          by m (inl v) =
              let same : next v.rest.line ≡ next rest.line = v.after.line ∙ same_next rest.line in
              let line = one_next (lines_of p) v.rest.line rest.line (rest_line m v.rest v.there) (rest_line n rest at) same in
              one_rest found.returns.items m n v.rest rest (among_rests m v.rest v.there) (among_rests n rest at) line
          by m (inr h) = absurd (h.0 n (record {
            rest = rest;
            there = at;
            after = record {
              line = sym (same_next rest.line);
              first = record {
                earliest = omega arith;
                latest = omega arith;
                is = (let x = first_after p parts.schedule rest 0 in
                    λ j. handler_entry rest.cells.items x.line x.clock x.level (same_last rest.line j));
              };
            };
          }))

  few_points : length parts.points.items < 524288
  few_points = let h = at_least (length parts.points.items) of.numbers all_numbers in let same = of.numbered.lengths in omega arith

  some_point : 1 ≤ length parts.points.items
  some_point =
      let e = of.entry_number in
      let below = numbers_below response (order_of_program p) parts.rests.items found.nodes.keys of.numbers (length parts.points.items)
      of.numbered e.place parts.entry.id e.is in
      omega arith

  cells_fit : (k : ℕ) (rest : Rest) → slice_get parts.rests.items k ≡ Some rest → spans_fit (tracked p.head Handler) rest.cells.items ≡ true
  cells_fit k rest at = (limits (first_after p parts.schedule rest 0) (first k 0 rest at (omega arith))).cells

  split_point_fits : (id : ℕ) (point : Point) → slice_get parts.points.items id ≡ Some point → PointFits p.head (lines_of p)
      (length parts.points.items) (with_split p.splits point)
  split_point_fits id point at = ⊎_elim vector own (which id point at)
    where
      vector : IsVector id point → PointFits p.head (lines_of p) (length parts.points.items) (with_split p.splits point)
      vector v =
          let small = few_clocks p.head.irq in
          let names = subst (λ (z : Point). SuccessorsFit (length parts.points.items) z.next.items) v.is (of.points.names id point at) in
          subst (λ (z : Point). PointFits p.head (lines_of p) (length parts.points.items) (with_split p.splits z)) (sym v.is)
          (vector_fits p (length parts.points.items) v.rest.cells.items (next v.rest.line) response (last v.rest.line) v.ids
          (next_below (lines_of p) v.rest.line (rest_line id v.rest v.at)) (omega arith)
          (last_clock (length_of p.schedule v.rest.line) (fits.lengths v.rest.line)) (cells_fit id v.rest v.at)
          (of.points.vectors id v.rest v.at).ordered names)

      own : IsOwn id point → PointFits p.head (lines_of p) (length parts.points.items) (with_split p.splits point)
      own o =
          let node : Among found.nodes.keys o.x = (o.place, o.node) in
          let names = subst (λ (z : Point). SuccessorsFit (length parts.points.items) z.next.items) o.is (of.points.names id point at) in
          subst (λ (z : Point). PointFits p.head (lines_of p) (length parts.points.items) (with_split p.splits z)) (sym o.is)
          (own_fits p (length parts.points.items) o.x o.ids (split_at p o.x) (split_known p o.x splits_fit)
          (stand o.x node) (limits o.x node) (let inside = clock_in o.x node in let short =
          (length_within parts.schedule schedule_fits o.x.line).1 in omega arith) o.ordered names)

  point_fits : (m id : ℕ) (point : Point) → length parts.points.items ≡ m → slice_get cert.points id ≡ Some point → PointFits p.head
      (lines_of p) m point
  point_fits m id point same at =
      let old = of_map (with_split p.splits) parts.points.items id point at in
      subst (λ m. PointFits p.head (lines_of p) m point) same
      (subst (PointFits p.head (lines_of p) (length parts.points.items)) old.2 (split_point_fits id old.0 old.1))

  few_bare : (id : ℕ) (point : Point) → slice_get parts.points.items id ≡ Some point → instances_of point ≤ 4
  few_bare id point at = ⊎_elim
      (λ v. subst (λ (z : Point). instances_of z ≤ 4) (sym v.is) (let l = next v.rest.line in let none : l - l ≡ 0 = omega arith in
      subst (λ n. (n + 1) * 4 ≤ 4) (sym none) (omega arith)))
      (λ o. subst (λ (z : Point). instances_of z ≤ 4) (sym o.is) (let l = o.x.line in let none : l - l ≡ 0 = omega arith in
      subst (λ n. (n + 1) * 1 ≤ 4) (sym none) (omega arith)))
      (which id point at)

  few_instances : (id : ℕ) (point : Point) → slice_get cert.points id ≡ Some point → instances_of point ≤ 4
  few_instances id point at =
      let old = of_map (with_split p.splits) parts.points.items id point at in
      subst (λ (z : Point). instances_of z ≤ 4) old.2 (few_bare id old.0 old.1)

  rest_fits : (k : ℕ) (rest : Rest) → slice_get parts.rests.items k ≡ Some rest
      → RestFits p.head (lines_of p) (length parts.points.items) rest
  rest_fits k rest at =
      let o = of_return 0 0 found.returns.items k rest (among_rests k rest at) in
      let below = slice_get_within parts.rests.items k rest at in
      let some = of.numbered.some in
      let vector = o.is_vector in
      let line : o.place ≡ rest.line = (let l = o.is_line in omega arith) in
      let quiet = laws.quiet image p found parts.schedule rest.line o.noted fits ended made (rest_line k rest at)
      (subst (λ l. ReturnAt found.returns.items l o.noted) line o.there) in
      record {
        line = rest_line k rest at;
        clock = (let is = o.is_clock in let inside = quiet.in_line in let short =
            (length_within parts.schedule schedule_fits rest.line).1 in omega arith);
        vector = omega arith;
        cells = record {
          ranges = all_of (RangeFits 255) rest.cells.items (of.points.vectors k rest at).ordered;
          within = cells_fit k rest at;
        };
      }

  kind_same : (k : Kind) (id : ℕ) → EntryKindFits k entry → EntryKindFits k (record entry { id = id })
  kind_same Main id h = h
  kind_same Handler id h = h
  kind_same Alone id h = h

  entry_fits : (id : ℕ) → id < length parts.points.items → EntryFits p.head (lines_of p) (length parts.points.items)
      (record entry { id = id })
  entry_fits id below =
      let some = fits.some in
      let f = entering.facts in
      record {
        kind = kind_same entry.kind id entering.kind;
        id = below;
        pc = entering.pc;
        line = (let zero_line = entering.line in omega arith);
        clock = (let zero_clock = entering.clock in omega arith);
        facts = record {
          registers = f.registers;
          ranges = f.ranges;
          flag_count = f.flag_count;
          flags = f.flags;
          slots = f.slots;
          stack = f.stack;
          cells = f.cells;
        };
      }

  -- among so many points
  fits_points : (m : ℕ) → length parts.points.items ≡ m → RestsFit p.head (lines_of p) m parts.rests.items × EntryFits p.head (lines_of p) m
      parts.entry × ((id : ℕ) (point : Point) → slice_get cert.points id ≡ Some point → PointFits p.head (lines_of p) m point)
  fits_points m same = (
    subst (λ m. RestsFit p.head (lines_of p) m parts.rests.items) same (record {
      few = few_of found.returns.items parts.rests.items (lines_of p) of.rests ended.lines;
      each = all_of (RestFits p.head (lines_of p) (length parts.points.items)) parts.rests.items rest_fits;
      rise = ap (λ rs. rises (map (λ r. r.line) rs)) of.rests ∙ rests_rise 0 0 0 found.returns.items (omega arith);
    }),
    subst (λ m. EntryFits p.head (lines_of p) m parts.entry) same
        (subst (EntryFits p.head (lines_of p) (length parts.points.items)) (sym of.enters)
        (entry_fits parts.entry.id (let e = of.entry_number in numbers_below response (order_of_program p) parts.rests.items
        found.nodes.keys
        of.numbers (length parts.points.items) of.numbered e.place parts.entry.id e.is))),
    λ id point at. point_fits m id point same at,
  )

  -- as many points with their splits
  as_many : length parts.points.items ≡ length cert.points
  as_many = sym (length-map parts.points.items (with_split p.splits))

  -- among the lines of the schedule, which are the program's
  fits_lines : (n : ℕ) → lines_of p ≡ n → RestsFit p.head n (length cert.points) parts.rests.items × EntryFits p.head n
      (length cert.points) parts.entry × PointsFit p.head n cert.points
  fits_lines n same = subst (λ n. RestsFit p.head n (length cert.points) parts.rests.items × EntryFits p.head n
      (length cert.points) parts.entry × PointsFit p.head n cert.points) same (
      let fit = fits_points (length cert.points) as_many in (
        fit.0,
        fit.1,
        record {
          some = omega (arith, some_point, as_many);
          few = omega (arith, few_points, as_many);
          each = all_of (PointFits p.head (lines_of p) (length cert.points)) cert.points fit.2;
          instances = (let sum = sum_few instances_of cert.points few_instances in omega (arith, few_points, as_many, sum));
        },
      )
      )

  pub well_formed : WellFormed cert
  well_formed =
      let all = fits_lines (length parts.schedule.lines) (sym of.schedule.count) in
      record { head = fits.head; schedule = schedule_fits; rests = all.0; entry = all.1; points = all.2 }

  pub accepted : Accepts image cert
  accepted = laws.accepts image p found cert fits ended
      (record { head = refl; schedule = made; rests = all_in found.returns.items parts.rests.items of.rests }) schedule_fits
      are_points

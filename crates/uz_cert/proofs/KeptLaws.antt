-- Each line that is within limits where it is due keeps what is read so far within limits.
use Rattle.uz_cert.proofs.Common.{◌≡◌, ◌⊎◌, inl, inr, ℕ, zero, suc, ◌+◌, ◌-◌, ◌<◌, ◌≤◌, Bool, true, false, ◌&&◌, eqb, List, [], ◌∷◌, ◌++◌}
use Rattle.uz_cert.proofs.Common.{length, map, replicate, All, refl, sym, ◌∙◌, ap, subst, arith, length-append, Option, Some, None}
use Rattle.uz_cert.proofs.Common.{IfSome, sum_by, eqb-true, eqb-false, map-append, length-replicate, All-nil, All-weaker, clock_limit}
use Rattle.uz_cert.proofs.Common.{is_length, clocks_below, lengths_fit, EventFits, EventsFit, scanline, StackFits, CellFits, RestFits}
use Rattle.uz_cert.proofs.Common.{EntryFits, PointFits, instances_of, Cell, Head, Event, Rest, Entry, Point, Sizes, ParsedLine, KindLine}
use Rattle.uz_cert.proofs.Common.{Version, First, Second, Third, first_draft, lacks, expected_line, draft_after, expected_as, SizesFit}
use Rattle.uz_cert.proofs.Common.{IsLengthIn, IsPointIn, rules_of, length_few, LastIs, Kept, IsAfterCells, EventSaid, SaidFits, Draft}
use Rattle.uz_cert.proofs.Common.{with_said, true_not, Response}
use Rattle.uz_cert.specs.Kept.{CellsKept, KindsKept, RestsKept, PointsKept, ScheduleKept, StatesKept, AreCellsDue, LateLater, CellSaid}
use Rattle.uz_cert.specs.Kept.{KindSaid, RunSaid, RestSaid, EntrySaid, PointSaid}
use Rattle.std.proofs.{lemmas.Bool.Decides.nat_tests, lemmas.List.Elements.All-push, lemmas.List.Elements.All-append}
use Rattle.std.proofs.{lemmas.List.Elements.All-replicate, Common.◌*◌, lemmas.Nat.mul-le, lemmas.List.Sums.sum_by_push}
use Rattle.uz_schedule.specs.Limits.{most_events, rises}
use Rattle.uz_cert.proofs.ExpectedLineLaws.{IsExpected, is_expected}
use Rattle.uz_cert_laws.specs.LineWords.{least_after}
use Rattle.uz_cert_laws.proofs.{Tests.both_true, GrowingFacts.rises_more, GrowingFacts.after_more}
use Rattle.uz_cert_lines.specs.declared.lines.ParsedLine.TheVariants as parsed
use Rattle.uz_cert.specs.declared.expected_line.ExpectedLine.TheVariants as expected

pub product_few : (a b : ℕ) → a ≤ 65536 → b ≤ 256 → a * b ≤ 16777216
product_few a b h k = mul-le a b 65536 256 h k

-- numbers of elements that rise
rise_more : {A : Type 0} (f : A → ℕ) (xs : List A) (x : A) (least : ℕ) → rises (map f xs) ≡ true → least ≡ least_after 0 (map f xs)
    → least ≤ f x
    → rises (map f (xs ++ x ∷ [])) ≡ true
rise_more f xs x least h l o =
    subst (λ ys. rises ys ≡ true) (sym (map-append f xs (x ∷ []))) (rises_more 0 (map f xs) (f x) h (subst (λ n. n ≤ f x) l o))

least_more : {A : Type 0} (f : A → ℕ) (xs : List A) (x : A) → f x + 1 ≡ least_after 0 (map f (xs ++ x ∷ []))
least_more f xs x = after_more 0 (map f xs) (f x) ∙ ap (least_after 0) (sym (map-append f xs (x ∷ [])))

-- one kind more, of a length

below_push : (events : List Event) (e : Event) (n : ℕ) → clocks_below events n ≡ true → e.clock < n
    → clocks_below (events ++ e ∷ []) n ≡ true
below_push [] e n h l = grind (arith, nat_tests)
below_push (x ∷ xs) e n h l = grind (arith, nat_tests, below_push xs e n)

lengths_push : (kinds : List (List Event)) (lengths : List ℕ) (events : List Event) (n : ℕ) → lengths_fit kinds lengths ≡ true
    → is_length n ≡ true → clocks_below events n ≡ true
    → lengths_fit (kinds ++ events ∷ []) (lengths ++ n ∷ []) ≡ true
lengths_push [] [] events n h l b =
    both_true (is_length n && clocks_below events n) true (both_true (is_length n) (clocks_below events n) l b) refl
lengths_push [] (m ∷ lengths) events n h l b = absurd cc
lengths_push (es ∷ kinds) [] events n h l b = absurd cc
lengths_push (es ∷ kinds) (m ∷ lengths) events n h l b =
    grind (arith, nat_tests, lengths_push kinds lengths events n)

pub length_in : (version : Version) (n : ℕ) → IsLengthIn version n → is_length n ≡ true
length_in First n h = subst (λ m. is_length m ≡ true) (sym h) refl
length_in Second n h = h
length_in Third n h = h

pub scanline_in : (version : Version) → IsLengthIn version scanline
scanline_in First = refl
scanline_in Second = refl
scanline_in Third = refl

-- lines of one kind more

last_copies : (kind n : ℕ) → LastIs kind (replicate (suc n) kind)
last_copies kind zero = refl
last_copies kind (suc n) = last_copies kind n

pub last_more : (kind : ℕ) (lines : List ℕ) (n : ℕ) → 1 ≤ n → LastIs kind (lines ++ replicate n kind)
last_more kind lines zero h = absurd (omega (arith, h))
last_more kind lines (suc n) h = behind lines
  where
    behind : (ls : List ℕ) → LastIs kind (ls ++ replicate (suc n) kind)
    behind [] = last_copies kind n
    behind (x ∷ []) = last_copies kind n
    behind (x ∷ y ∷ ys) = behind (y ∷ ys)

-- nothing so far

no_kinds : (version : Version) (kinds : List (List Event)) (lengths : List ℕ) (count owed : ℕ) → kinds ≡ [] → lengths ≡ [] → owed ≡ 0
    → KindsKept version kinds lengths count owed
no_kinds version [] [] count owed e l none = record {
  few = omega arith;
  owing = λ some. absurd (omega (arith, some, none));
  each = All-nil EventsFit;
  fit = refl;
  own = All-nil (IsLengthIn version);
}
no_kinds version [] (n ∷ lengths) count owed e l none = absurd cc
no_kinds version (es ∷ kinds) lengths count owed e l none = absurd cc

no_states : (version : Version) (h : Head) (s : Sizes) (rests : List Rest) (least : ℕ) (entry : Option Entry) (points : List Point) (left : ℕ)
    → rests ≡ [] → entry ≡ None → points ≡ [] → least ≡ least_after 0 (map (λ r. r.line) rests)
    → left + sum_by instances_of points ≡ 16777216
    → RestsKept h s rests least × IfSome entry (EntryFits h s.lines s.points) × PointsKept version h s points left
no_states version h s [] least None [] left r e p l i = (
  record { few = omega arith; each = All-nil (RestFits h s.lines s.points); rise = refl; least_is = l },
  tt,
  record { few = omega arith; each = All-nil (PointFits h s.lines s.points); own = All-nil (IsPointIn version); instances = i },
)
no_states version h s [] least None (x ∷ points) left r e p l i = absurd cc
no_states version h s [] least (Some x) points left r e p l i = absurd cc
no_states version h s (x ∷ rests) least entry points left r e p l i = absurd cc

-- where cells are to come, there is no state yet
pub record NoStates (d : Draft) : Type 0 where
  pub rests : d.rests ≡ []
  pub entry : d.entry ≡ None
  pub points : d.points ≡ []
  pub lines : d.lines ≡ []

pub none : {A : Type 0} (xs : List A) (n : ℕ) → xs ≡ [] → 1 ≤ n → length xs < n
none xs n e some = let l : length xs ≡ 0 = ap (λ ys. length ys) e in omega (arith, l, some)

pub no_states_yet : (d : Draft) → Kept d → AreCellsDue d → NoStates d
no_states_yet d k expected =
    let l = k.later in
    let lines = l.late.0 (l.fall (inl expected)) in
    let few = none d.lines d.sizes.lines lines k.sizes.lines_some in
    let entry = l.late.2 (inl few) in
    record { rests = l.late.1 few; entry = entry; points = l.late.3 entry; lines = lines }

-- the draft of the first line

pub first_kept : (version : Version) → Kept (first_draft version)
first_kept version =
    let d = first_draft version in
    record {
      begun = omega arith;
      rules = refl;
      sizes = grind arith;
      stack = grind arith;
      cells = record { few = omega arith; each = All-nil (CellFits d.head); rise = refl; least_is = refl };
      schedule = (
        grind (arith, All-nil EventFits, scanline_in version),
        no_kinds version [] [] 1 0 refl refl refl,
        omega arith,
        record { few = omega arith; there = All-nil (λ kind. kind < 1) },
      );
      states = no_states version d.head d.sizes [] 0 None [] 16777216 refl refl refl refl refl;
      later = record {
        cells = λ _. refl;
        kinds = λ _. (refl, refl, refl);
        fall = λ _. refl;
        late = (λ _. refl, λ _. refl, λ _. refl, λ _. refl, λ _. refl);
        run = tt;
      };
    }

-- one line more

past_three : {A : Type 0} (n : ℕ) → 4 ≤ n → n + 1 ≤ 3 → A
past_three n h k = absurd (omega (arith, h, k))

not_both : (a b : ℕ) → a ≤ b → b < a → ⊥
not_both a b h g = omega (arith, h, g)

-- what stays the same in each line after the cells
abbrev onto : Draft → Draft → Draft
onto d e = record e { read = d.read + 1; version = d.version; sizes = d.sizes; head = d.head; cell_least = d.cell_least }

-- one of the lines after the cells
body_kept : (d e : Draft) → Kept d → IsAfterCells d → ScheduleKept (onto d e) → StatesKept (onto d e)
    → ((1 ≤ e.owed) ⊎ (length e.kinds < d.sizes.kinds) → e.fall ≡ 0) → LateLater (onto d e) → LastIs e.run_kind e.lines → Kept (onto d e)
body_kept d e k a schedule states fall late run = record {
  begun = omega arith;
  rules = k.rules;
  sizes = k.sizes;
  stack = k.stack;
  cells = k.cells;
  schedule = schedule;
  states = states;
  later = record {
    cells = λ x. absurd (none_due (inl x));
    kinds = λ x. absurd (none_due x);
    fall = λ x. elim x [ inl y ↦ absurd (none_due y) | inr y ↦ fall y ];
    late = late;
    run = run;
  };
}
  where
    none_due : AreCellsDue (onto d e) → ⊥
    none_due (inl x) = let body = a.body in omega (arith, body, x)
    none_due (inr x) = not_both d.sizes.cells (length d.head.cells.items) a.cells x

-- one of the first three lines: they say sizes and head, and all else is still empty
opening_kept : (d : Draft) (s : Sizes) (h : Head) → Kept d → d.read ≤ 3 → SizesFit s → StackFits h → h.cells.items ≡ d.head.cells.items
    → h.version ≡ rules_of d.version
    → Kept (record d { read = d.read + 1; sizes = s; head = h })
opening_kept d s h k o sizes stack same rules =
    let l = k.later in
    let no = no_states_yet d k (inl o) in
    let cells = same ∙ l.cells o in
    let kinds = l.kinds (inl o) in
    record {
      begun = omega arith;
      rules = rules;
      sizes = sizes;
      stack = stack;
      cells = record {
        few = subst (λ cs. length cs ≤ s.cells) (sym cells) (omega arith);
        each = subst (All (CellFits h)) (sym cells) (All-nil (CellFits h));
        rise = subst (λ cs. rises (map (λ c. c.at) cs) ≡ true) (sym cells) refl;
        least_is = k.cells.least_is ∙ ap (λ cs. least_after 0 (map (λ c. c.at) cs)) (sym same);
      };
      schedule = (
        k.schedule.0,
        no_kinds d.version d.kinds d.lengths s.kinds d.owed kinds.0 kinds.1 kinds.2,
        k.schedule.2,
        record {
          few = subst (λ ls. length ls ≤ s.lines) (sym no.lines) (omega arith);
          there = subst (All (λ kind. kind < s.kinds)) (sym no.lines) (All-nil (λ kind. kind < s.kinds));
        },
      );
      states = no_states d.version h s d.rests d.rest_least d.entry d.points d.left no.rests no.entry no.points k.states.0.least_is
          k.states.2.instances;
      later = record {
        cells = λ _. cells;
        kinds = λ _. kinds;
        fall = λ _. l.fall (inl (inl o));
        late = (
          l.late.0,
          λ _. no.rests,
          λ _. no.entry,
          l.late.3,
          λ _. l.late.4 (none d.points d.sizes.points no.points k.sizes.points_some),
        );
        run = l.run;
      };
    }

-- the stack of a head with other cells and another response
same_stack : (h : Head) (r : Response) (cs : List Cell) → StackFits h → StackFits (record h { irq = r; cells = record { items = cs } })
same_stack h r cs f = record { low = f.low; order = f.order; high = f.high; main = f.main; handler = f.handler; room = f.room }

abbrev with_cell : Head → Cell → Head
with_cell h c = record h { cells = record { items = h.cells.items ++ c ∷ [] } }

-- a cell fits with the same stack
pub same_cell : (h k : Head) (x : Cell) → h.lo ≡ k.lo → h.hi ≡ k.hi → CellFits h x → CellFits k x
same_cell h k x a b f = grind (arith, a, b, f)

cells_more : (h : Head) (c : Cell) (count least : ℕ) → CellsKept h count least → length h.cells.items < count → CellFits h c → least ≤ c.at
    → CellsKept (with_cell h c) count (c.at + 1)
cells_more h c count least k room f o = record {
  few = simp length-append (omega (arith, room));
  each = All-push (CellFits (with_cell h c)) h.cells.items c
      (All-weaker (CellFits h) (CellFits (with_cell h c)) (λ x g. same_cell h (with_cell h c) x refl refl g) h.cells.items k.each)
      (same_cell h (with_cell h c) c refl refl f);
  rise = rise_more (λ m. m.at) h.cells.items c least k.rise k.least_is o;
  least_is = least_more (λ m. m.at) h.cells.items c;
}

cell_kept : (d : Draft) (c : Cell) → Kept d → CellSaid d c → Kept (draft_after d (parsed.Cell c))
unfolding draft_after
cell_kept d c k f =
    let no = no_states_yet d k (inr f.room) in
    let l = k.later in
    let h : Head = with_cell d.head c in
    record {
      begun = omega arith;
      rules = k.rules;
      sizes = k.sizes;
      stack = same_stack d.head d.head.irq h.cells.items k.stack;
      cells = cells_more d.head c d.sizes.cells d.cell_least k.cells f.room f.fits f.order;
      schedule = k.schedule;
      states = no_states d.version h d.sizes d.rests d.rest_least d.entry d.points d.left no.rests no.entry no.points
          k.states.0.least_is k.states.2.instances;
      later = record {
        cells = past_three d.read f.body;
        kinds = λ _. l.kinds (inr f.room);
        fall = λ _. l.fall (inl (inr f.room));
        late = l.late;
        run = l.run;
      };
    }

kind_kept : (d : Draft) (n : KindLine) → Kept d → IsAfterCells d → KindSaid d n → Kept (draft_after d (parsed.Kind n))
unfolding draft_after
kind_kept d n k a f =
    let events = k.schedule.0 in
    let kinds = k.schedule.1 in
    let l = k.later in
    let none = events.present f.none_owed in
    let few = f.fits.few in
    let most = length_few n.clocks (length_in d.version n.clocks f.fits.clocks) in
    body_kept d (draft_after d (parsed.Kind n)) k a (
      record {
        few = subst (λ es. length es + n.events ≤ most_events) (sym none) (omega (arith, few, most));
        each = events.each;
        below = subst (λ es. clocks_below es n.clocks ≡ true) (sym none) refl;
        own = f.fits.clocks;
        rise = events.rise;
        least_is = events.least_is;
        present = λ _. none;
      },
      record { few = kinds.few; owing = λ _. f.room; each = kinds.each; fit = kinds.fit; own = kinds.own },
      k.schedule.2,
      k.schedule.3,
    ) k.states (λ _. l.fall (inr (inr f.room))) l.late l.run

event_more : (d : Draft) (e : Event) → Kept d → IsAfterCells d → EventSaid d e → (last : Bool) → eqb (d.owed - 1) 0 ≡ last
    → Kept (draft_after d (parsed.Event e))
unfolding draft_after
event_more d e k a f true is =
    let events = k.schedule.0 in
    let kinds = k.schedule.1 in
    let l = k.later in
    let one : d.owed - 1 ≡ 0 = eqb-true (d.owed - 1) 0 is in
    let have = events.few in
    let below = below_push d.events e d.clocks events.below f.below in
    let whole : EventsFit (d.events ++ e ∷ []) = record {
      some = simp length-append (omega arith);
      few = simp length-append (omega (arith, f.owed, have));
      each = All-push EventFits d.events e events.each f.fits;
      rise = rise_more (λ v. v.clock) d.events e d.event_least events.rise events.least_is f.order;
    } in
    let next : Draft = record d {
      read = d.read + 1;
      kinds = d.kinds ++ (d.events ++ e ∷ []) ∷ [];
      lengths = d.lengths ++ d.clocks ∷ [];
      owed = d.owed - 1;
      clocks = scanline;
      events = [];
      event_least = 0;
    } in
    let more : Kept next = body_kept d next k a (
      grind (arith, one, All-nil EventFits, scanline_in d.version),
      record {
        few = simp length-append (omega (arith, kinds.owing f.owed));
        owing = λ some. absurd (omega (arith, some, one));
        each = All-push EventsFit d.kinds (d.events ++ e ∷ []) kinds.each whole;
        fit = lengths_push d.kinds d.lengths (d.events ++ e ∷ []) d.clocks kinds.fit (length_in d.version d.clocks events.own) below;
        own = All-push (IsLengthIn d.version) d.lengths d.clocks kinds.own events.own;
      },
      k.schedule.2,
      k.schedule.3,
    ) k.states (λ _. l.fall (inr (inl f.owed))) l.late l.run in
    rw is more
event_more d e k a f false is =
    let events = k.schedule.0 in
    let kinds = k.schedule.1 in
    let l = k.later in
    let owing : 1 ≤ d.owed - 1 = omega (arith, eqb-false (d.owed - 1) 0 is) in
    let have = events.few in
    let next : Draft = record d { read = d.read + 1; owed = d.owed - 1; events = d.events ++ e ∷ []; event_least = e.clock + 1 } in
    let more : Kept next = body_kept d next k a (
      record {
        few = simp length-append (omega (arith, f.owed, have));
        each = All-push EventFits d.events e events.each f.fits;
        below = below_push d.events e d.clocks events.below f.below;
        own = events.own;
        rise = rise_more (λ v. v.clock) d.events e d.event_least events.rise events.least_is f.order;
        least_is = least_more (λ v. v.clock) d.events e;
        present = λ none. absurd (omega (arith, none, owing));
      },
      record { few = kinds.few; owing = λ _. kinds.owing f.owed; each = kinds.each; fit = kinds.fit; own = kinds.own },
      k.schedule.2,
      k.schedule.3,
    ) k.states (λ _. l.fall (inr (inl f.owed))) l.late l.run in
    rw is more

fall_kept : (d : Draft) (clock : ℕ) → Kept d → IsExpected d expected.Fall → 1 ≤ clock → clock < clock_limit → Kept (draft_after d (parsed.Fall clock))
unfolding draft_after
fall_kept d clock k i some low =
    let l = k.later.late in
    body_kept d (draft_after d (parsed.Fall clock)) k i.0 (k.schedule.0, k.schedule.1, low, k.schedule.3) k.states
    (λ h. absurd (past h)) (λ e. absurd (omega (arith, e, some)), l.1, l.2, l.3, l.4) k.later.run
  where
    past : (1 ≤ d.owed) ⊎ (length d.kinds < d.sizes.kinds) → ⊥
    past (inl h) = let none = i.1 in omega (arith, none, h)
    past (inr h) = not_both d.sizes.kinds (length d.kinds) i.2 h

run_kept : (d : Draft) (count kind : ℕ) → Kept d → IsExpected d expected.Run → RunSaid d count kind
    → Kept (draft_after d (parsed.Run (record { count = count; kind = kind })))
unfolding draft_after
run_kept d count kind k i f =
    let l = k.later in
    body_kept d (draft_after d (parsed.Run (record { count = count; kind = kind }))) k i.0 (
      k.schedule.0,
      k.schedule.1,
      k.schedule.2,
      record {
        few = simp (length-append, length-replicate) f.few;
        there = All-append (λ n. n < d.sizes.kinds) d.lines (replicate count kind) k.schedule.3.there
            (All-replicate (λ n. n < d.sizes.kinds) count kind f.there);
      },
    ) k.states (λ h. l.fall (inr h)) (
      λ e. absurd (i.1 e),
      λ h. l.late.1 (fewer h),
      λ h. l.late.2 (elim h [ inl g ↦ inl (fewer g) | inr g ↦ inr g ]),
      l.late.3,
      l.late.4,
    ) (last_more kind d.lines count f.some)
  where
    fewer : length (d.lines ++ replicate count kind) < d.sizes.lines → length d.lines < d.sizes.lines
    fewer h = let more = length-append d.lines (replicate count kind) in omega (arith, h, more)

shorter : {A : Type 0} (xs : List A) (x : A) (n : ℕ) → length (xs ++ x ∷ []) < n → length xs < n
shorter xs x n h = let l = length-append xs (x ∷ []) in omega (arith, h, l)

rest_kept : (d : Draft) (r : Rest) → Kept d → IsExpected d expected.Rest → RestSaid d r → Kept (draft_after d (parsed.Rest r))
unfolding draft_after
rest_kept d r k i f =
    let rests = k.states.0 in
    let l = k.later in
    body_kept d (draft_after d (parsed.Rest r)) k f.after k.schedule (
      record {
        few = simp length-append (omega (arith, f.room));
        each = All-push (RestFits d.head d.sizes.lines d.sizes.points) d.rests r rests.each f.fits;
        rise = rise_more (λ x. x.line) d.rests r d.rest_least rests.rise rests.least_is f.order;
        least_is = least_more (λ x. x.line) d.rests r;
      },
      k.states.1,
      k.states.2,
    ) (λ h. l.fall (inr h)) (
      l.late.0,
      λ h. absurd (not_both d.sizes.lines (length d.lines) i.0.lines h),
      λ h. l.late.2 (elim h [ inl g ↦ inl g | inr g ↦ inr (shorter d.rests r d.sizes.rests g) ]),
      l.late.3,
      l.late.4,
    ) l.run

entry_kept : (d : Draft) (e : Entry) → Kept d → IsExpected d expected.Entry → EntrySaid d e → Kept (draft_after d (parsed.Entry e))
unfolding draft_after
entry_kept d e k i f =
    let l = k.later in
    body_kept d (draft_after d (parsed.Entry e)) k f.after k.schedule (k.states.0, f.fits, k.states.2) (λ h. l.fall (inr h))
    (l.late.0, l.late.1, λ h. absurd (past h), λ g. absurd (cc g), l.late.4) l.run
  where
    past : (length d.lines < d.sizes.lines) ⊎ (length d.rests < d.sizes.rests) → ⊥
    past (inl h) = not_both d.sizes.lines (length d.lines) i.0.lines h
    past (inr h) = not_both d.sizes.rests (length d.rests) i.1 h

point_kept : (d : Draft) (p : Point) → Kept d → IsExpected d expected.Point → PointSaid d p → Kept (draft_after d (parsed.Point p))
unfolding draft_after
point_kept d p k i f =
    let points = k.states.2 in
    let l = k.later in
    body_kept d (draft_after d (parsed.Point p)) k f.after k.schedule (
      k.states.0,
      k.states.1,
      record {
        few = simp length-append (omega (arith, f.room));
        each = All-push (PointFits d.head d.sizes.lines d.sizes.points) d.points p points.each f.fits;
        own = All-push (IsPointIn d.version) d.points p points.own f.own;
        instances = less_left d.left (instances_of p) (sum_by instances_of d.points) (sum_by instances_of (d.points ++ p ∷ []))
            points.instances f.instances (sum_by_push instances_of d.points p);
      },
    ) (λ h. l.fall (inr h)) (
      l.late.0,
      l.late.1,
      l.late.2,
      λ e. absurd (true_not (lacks d.entry) (ap lacks e) i.2),
      λ h. l.late.4 (shorter d.points p d.sizes.points h),
    ) l.run
  where
    less_left : (left n sum more : ℕ) → left + sum ≡ 16777216 → n ≤ left → more ≡ sum + n → left - n + more ≡ 16777216
    less_left left n sum more h few e = omega (arith, h, few, e)

end_kept : (d : Draft) → Kept d → IsExpected d expected.End → Kept (draft_after d parsed.End)
unfolding draft_after
end_kept d k i =
    let l = k.later in
    body_kept d (draft_after d parsed.End) k i.0.after k.schedule k.states (λ h. l.fall (inr h))
    (l.late.0, l.late.1, l.late.2, l.late.3, λ h. absurd (not_both d.sizes.points (length d.points) i.1 h)) l.run

kept_where : (d : Draft) (s : ParsedLine) → Kept d → IsExpected d (expected_as s) → SaidFits d s → Kept (draft_after d s)
unfolding draft_after
kept_where d (parsed.Size s) k i f = opening_kept d s d.head k f.0 f.1 k.stack refl k.rules
kept_where d (parsed.Irq r) k i f =
    let h : Head = record d.head { irq = r } in
    opening_kept d d.sizes h k f k.sizes (same_stack d.head r d.head.cells.items k.stack) refl k.rules
kept_where d (parsed.Stack s) k i f =
    opening_kept d d.sizes (record d.head { lo = s.lo; hi = s.hi; main = s.main; handler = s.handler }) k f.0 k.sizes f.1 refl k.rules
kept_where d (parsed.Cell c) k i f = cell_kept d c k f
kept_where d (parsed.Kind n) k i f = kind_kept d n k i.0 f
kept_where d (parsed.Event e) k i f = event_more d e k i.0 f (eqb (d.owed - 1) 0) refl
kept_where d (parsed.Fall clock) k i f = fall_kept d clock k i f.1 f.2
kept_where d (parsed.Run r) k i f = run_kept d r.count r.kind k i f
kept_where d (parsed.Rest r) k i f = rest_kept d r k i f
kept_where d (parsed.Entry e) k i f = entry_kept d e k i f
kept_where d (parsed.Point p) k i f = point_kept d p k i f
kept_where d parsed.End k i f = end_kept d k i

pub kept_after : (d : Draft) (s : ParsedLine) → Kept d → expected_line d ≡ Some (expected_as s) → SaidFits d s → Kept (draft_after d s)
kept_after d s k is f = kept_where d s k (is_expected d (expected_as s) k.begun is) f

-- the draft after a line, where it is known what the line says
abbrev pub next_of : Draft → ParsedLine → Draft
next_of d s = record (with_said d s) { read = d.read + 1 }

pub kept_next : (d : Draft) (s : ParsedLine) → Kept d → expected_line d ≡ Some (expected_as s) → SaidFits d s → Kept (next_of d s)
unfolding draft_after
kept_next d s k is f = kept_after d s k is f

-- the same of a draft that is this one with what the line says
pub kept_read : (d m : Draft) (s : ParsedLine) → Kept d → expected_line d ≡ Some (expected_as s) → SaidFits d s → m ≡ with_said d s
    → Kept (record m { read = d.read + 1 })
kept_read d m s k is f e = subst (λ x. Kept (record x { read = d.read + 1 })) (sym e) (kept_next d s k is f)

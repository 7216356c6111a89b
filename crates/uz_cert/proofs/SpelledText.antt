-- A text is read as each well formed certificate: section by section, from the last line to the first.
use Rattle.uz_cert.proofs.Common.{◌≡◌, ◌≢◌, ℕ, ◌+◌, ◌-◌, ◌<◌, ◌≤◌, true, false, ◌&&◌, eqb, List, [], ◌∷◌, ◌++◌, length, map, replicate}
use Rattle.uz_cert.proofs.Common.{All, ltb, zero-add, refl, sym, ◌∙◌, ap, subst, append_assoc, append-nil, arith, length-append, Some}
use Rattle.uz_cert.proofs.Common.{None, Ok, ⊤, sum_by, length-replicate, All-head, All-tail, All-weaker, scanline, clock_limit, is_length}
use Rattle.uz_cert.proofs.Common.{clocks_below, lengths_fit, EventFits, EventsFit, CellFits, RestFits, EntryFits, PointFits, instances_of}
use Rattle.uz_cert.proofs.Common.{Cell, Head, Event, Rest, Entry, Point, Cert, line_of, reads, IsLengthIn, IsPointIn, KindLine}
use Rattle.uz_cert.proofs.Common.{ParsedLine, Version, expected_line, form_of, draft_after, Kept, SaidFits, expected_as, said_words}
use Rattle.uz_cert.proofs.Common.{is_more, line_says, or_fault, cert_from, read_by, read_from, Draft, and_true}
use Rattle.uz_cert.proofs.ExpectedLineLaws.{PastCells, PastKinds, PastFall, PastRuns, PastRests, PastEntry, PastPoints, due_cell}
use Rattle.uz_cert.proofs.ExpectedLineLaws.{due_event, due_kind, due_fall, due_run, due_rest, due_entry, due_point, due_end, due_none}
use Rattle.uz_cert.proofs.ExpectedLineLaws.{equal, not_equal}
use Rattle.std.proofs.{lemmas.Bool.Decides.nat_tests, Common.leb, lemmas.Bool.leb-true, lemmas.List.Sums.sum_by-cons}
use Rattle.uz_schedule.specs.Limits.{rises_from}
use Rattle.uz_cert.proofs.{KeptLaws.next_of, KeptLaws.kept_next, KeptLaws.same_cell, Lines.LineSpelling, Lines.line_cut, TextLaws.told}
use Rattle.uz_cert.proofs.{TextLaws.whole_read, TextLaws.line_said}
use Rattle.uz_cert_lines.specs.declared.lines.ParsedLine.TheVariants as parsed

abbrev pub spelled : Version → Head → ParsedLine → List ℕ
spelled v h s = line_of (said_words v h s)

-- there are lines that are read as this certificate after what was read
pub record IsReadAs (d : Draft) (c : Cert) : Type 0 where
  pub lines : List (List ℕ)
  pub some : is_more lines ≡ true
  pub read : read_from d lines ≡ told c

-- one line more

pub step : (l : LineSpelling) (d : Draft) (s : ParsedLine) (c : Cert) → Kept d → expected_line d ≡ Some (expected_as s) → SaidFits d s
    → IsReadAs (next_of d s) c → IsReadAs d c
unfolding draft_after
step l d s c k is fits r = record {
  lines = spelled d.version d.head s ∷ r.lines;
  some = refl;
  read =
      ap (λ o. read_by o d (spelled d.version d.head s) r.lines (λ x. read_from x r.lines)) is
      ∙ ap (λ y. or_fault (d.read + 1) y (λ x. read_from x r.lines))
      (ap (line_says d (expected_as s) (spelled d.version d.head s)) r.some
      ∙ line_said d (expected_as s) (spelled d.version d.head s) true (Ok s)
      (ap (reads (form_of d (expected_as s))) (line_cut d.version d.head s) ∙ l.again d s k is fits))
      ∙ r.read;
}

-- the end

pub end_again : (l : LineSpelling) (d : Draft) (e : Entry) → Kept d → 4 ≤ d.read → PastPoints d e → d.ended ≡ false → IsReadAs d (cert_from d e)
end_again l d e k b p open_end =
    let next = next_of d parsed.End in
    step l d parsed.End (cert_from d e) k (due_end d e b p open_end) b
    (record { lines = [] ∷ []; some = refl; read = whole_read next e (due_none next e (omega (arith, b)) p refl) p.0.1 })

-- points

pub points_again : (l : LineSpelling) (d : Draft) (e : Entry) (ps : List Point) → Kept d → 4 ≤ d.read → PastEntry d e → d.ended ≡ false
    → length d.points + length ps ≡ d.sizes.points → All (PointFits d.head d.sizes.lines d.sizes.points) ps → All (IsPointIn d.version) ps
    → sum_by instances_of ps ≤ d.left → IsReadAs d (cert_from (record d { points = d.points ++ ps }) e)
points_again l d e [] k b p o count fits own sum =
    subst (λ ps. IsReadAs d (cert_from (record d { points = ps }) e)) (sym (append-nil d.points)) (end_again l d e k b (p, omega (arith, count)) o)
points_again l d e (x ∷ xs) k b p o count fits own sum =
    let cells : d.sizes.cells ≡ length d.head.cells.items = p.0.0.0.0.0 in
    let room : length d.points < d.sizes.points = omega (arith, count) in
    let split = sum_by-cons instances_of x xs in
    let first = All-head (PointFits d.head d.sizes.lines d.sizes.points) x xs fits in
    let first_own = All-head (IsPointIn d.version) x xs own in
    let fit : SaidFits d (parsed.Point x) = grind (arith, b, cells, room, sum, split, first, first_own) in
    let is = due_point d e b p room in
    let next = next_of d (parsed.Point x) in
    step l d (parsed.Point x) (cert_from (record d { points = d.points ++ x ∷ xs }) e) k is fit
    (subst (λ ps. IsReadAs next (cert_from (record d { points = ps }) e)) (append_assoc d.points (x ∷ []) xs)
    (points_again l next e xs (kept_next d (parsed.Point x) k is fit) (omega (arith, b)) p o (simp length-append (omega (arith, count)))
    (All-tail (PointFits d.head d.sizes.lines d.sizes.points) x xs fits) (All-tail (IsPointIn d.version) x xs own)
    (less_sum (instances_of x) (sum_by instances_of xs) (sum_by instances_of (x ∷ xs)) d.left split sum)))
  where
    less_sum : (n rest all left : ℕ) → all ≡ n + rest → all ≤ left → rest ≤ left - n
    less_sum n rest all left h g = omega (arith, h, g)

-- rests, and the entry after them

-- what is still to come after the runs, as a certificate has it
abbrev pub LateFit : Draft → Entry → List Point → Type 0
LateFit d e ps =
    (d.entry ≡ None) × (d.points ≡ []) × (d.ended ≡ false) × (length ps ≡ d.sizes.points)
    × EntryFits d.head d.sizes.lines d.sizes.points e × All (PointFits d.head d.sizes.lines d.sizes.points) ps
    × All (IsPointIn d.version) ps × (sum_by instances_of ps ≤ d.left)

abbrev pub StatesFit : Draft → List Rest → Entry → List Point → Type 0
StatesFit d rs e ps =
    ((length d.rests + length rs ≡ d.sizes.rests) × All (RestFits d.head d.sizes.lines d.sizes.points) rs
    × (rises_from d.rest_least (map (λ r. r.line) rs) ≡ true)) × LateFit d e ps

pub rests_again : (l : LineSpelling) (d : Draft) (rs : List Rest) (e : Entry) (ps : List Point) → Kept d → 4 ≤ d.read → PastRuns d
    → StatesFit d rs e ps → IsReadAs d (cert_from (record d { rests = d.rests ++ rs; points = ps }) e)
rests_again l d [] e ps k b p s =
    let count = s.0.0 in
    let cells : d.sizes.cells ≡ length d.head.cells.items = p.0.0.0 in
    let fit : SaidFits d (parsed.Entry e) = record { after = record { body = b; cells = omega (arith, cells) }; fits = s.1.4 } in
    let past : PastRests d = (p, omega (arith, count)) in
    let is = due_entry d b past s.1.0 in
    let next = next_of d (parsed.Entry e) in
    step l d (parsed.Entry e) (cert_from (record d { rests = d.rests ++ []; points = ps }) e) k is fit
    (subst (λ rs. IsReadAs next (cert_from (record d { rests = rs; points = ps }) e)) (sym (append-nil d.rests))
    (subst (λ xs. IsReadAs next (cert_from (record d { points = xs ++ ps }) e)) s.1.1
    (points_again l next e ps (kept_next d (parsed.Entry e) k is fit) (omega (arith, b)) (past, refl) s.1.2
    (ap (λ xs. length xs + length ps) s.1.1 ∙ (zero-add (length ps) ∙ s.1.3)) s.1.5 s.1.6 s.1.7)))
rests_again l d (r ∷ rs) e ps k b p s =
    let count = s.0.0 in
    let cells : d.sizes.cells ≡ length d.head.cells.items = p.0.0.0 in
    let room : length d.rests < d.sizes.rests = omega (arith, count) in
    let order = and_true (leb d.rest_least r.line) (rises_from (r.line + 1) (map (λ x. x.line) rs)) s.0.2 in
    let first = All-head (RestFits d.head d.sizes.lines d.sizes.points) r rs s.0.1 in
    let fit : SaidFits d (parsed.Rest r) = grind (arith, b, cells, room, leb-true d.rest_least r.line order.0, first) in
    let is = due_rest d b p room in
    let next = next_of d (parsed.Rest r) in
    step l d (parsed.Rest r) (cert_from (record d { rests = d.rests ++ r ∷ rs; points = ps }) e) k is fit
    (subst (λ xs. IsReadAs next (cert_from (record d { rests = xs; points = ps }) e)) (append_assoc d.rests (r ∷ []) rs)
    (rests_again l next rs e ps (kept_next d (parsed.Rest r) k is fit) (omega (arith, b)) p
    ((simp length-append (omega (arith, count)), All-tail (RestFits d.head d.sizes.lines d.sizes.points) r rs s.0.1, order.1), s.1)))

-- runs

-- the lines of runs, each of a kind
abbrev pub expand : List (ℕ × ℕ) → List ℕ
expand [] = []
expand (r ∷ rs) = replicate r.0 r.1 ++ expand rs

-- each run has a line, and none is of the kind of the run before
abbrev pub Apart : ℕ → List (ℕ × ℕ) → Type 0
Apart kind [] = ⊤
Apart kind (r ∷ rs) = (1 ≤ r.0) × (r.1 ≢ kind) × Apart r.1 rs

pub runs_again : (l : LineSpelling) (d : Draft) (runs : List (ℕ × ℕ)) (rs : List Rest) (e : Entry) (ps : List Point) → Kept d → 4 ≤ d.read
    → PastFall d
    → Apart d.run_kind runs → All (λ r. r.1 < d.sizes.kinds) runs → length d.lines + length (expand runs) ≡ d.sizes.lines → StatesFit d rs e
    ps → IsReadAs d (cert_from (record d { lines = d.lines ++ expand runs; rests = d.rests ++ rs; points = ps }) e)
runs_again l d [] rs e ps k b p apart kinds count s =
    subst (λ ls. IsReadAs d (cert_from (record d { lines = ls; rests = d.rests ++ rs; points = ps }) e)) (sym (append-nil d.lines))
    (rests_again l d rs e ps k b (p, omega (arith, count)) s)
runs_again l d (r ∷ runs) rs e ps k b p apart kinds count s =
    let size = length-append (replicate r.0 r.1) (expand runs) in
    let same = length-replicate r.0 r.1 in
    let some = apart.0 in
    let room : length d.lines < d.sizes.lines = omega (arith, count, size, same, some) in
    let fit : SaidFits d (parsed.Run (record { count = r.0; kind = r.1 })) =
    grind (arith, b, apart.0, apart.1, count, size, same, All-head (λ x. x.1 < d.sizes.kinds) r runs kinds) in
    let says = parsed.Run (record { count = r.0; kind = r.1 }) in
    let is = due_run d b p room in
    step l d says (cert_from (record d { lines = d.lines ++ expand (r ∷ runs); rests = d.rests ++ rs; points = ps }) e) k is fit
    (subst (λ ls. IsReadAs (next_of d says) (cert_from (record d { lines = ls; rests = d.rests ++ rs; points = ps }) e))
    (append_assoc d.lines (replicate r.0 r.1) (expand runs))
    (runs_again l (next_of d says) runs rs e ps (kept_next d says k is fit) (omega (arith, b)) p apart.2 (All-tail (λ x. x.1 < d.sizes.kinds) r runs kinds)
    (simp (length-append, length-replicate) (omega (arith, count, size, same))) s))

-- the fall

pub fall_again : (l : LineSpelling) (d : Draft) (clock : ℕ) (runs : List (ℕ × ℕ)) (rs : List Rest) (e : Entry) (ps : List Point) → Kept d
    → 4 ≤ d.read
    → PastKinds d → d.fall ≡ 0 → 1 ≤ clock → clock < clock_limit → d.lines ≡ []
    → Apart d.run_kind runs → All (λ r. r.1 < d.sizes.kinds) runs → length (expand runs) ≡ d.sizes.lines → StatesFit d rs e ps
    → IsReadAs d (cert_from (record d { fall = clock; lines = expand runs; rests = d.rests ++ rs; points = ps }) e)
fall_again l d clock runs rs e ps k b p none some low no_lines apart kinds count s =
    let fit : SaidFits d (parsed.Fall clock) = (b, some, low) in
    let is = due_fall d b p none in
    let next = next_of d (parsed.Fall clock) in
    step l d (parsed.Fall clock) (cert_from (record d { fall = clock; lines = expand runs; rests = d.rests ++ rs; points = ps }) e) k is fit
    (subst (λ ls. IsReadAs next (cert_from (record d { fall = clock; lines = ls ++ expand runs; rests = d.rests ++ rs; points = ps }) e)) no_lines
    (runs_again l next runs rs e ps (kept_next d (parsed.Fall clock) k is fit) (omega (arith, b)) (p, some) apart kinds
    (ap (λ ls. length ls + length (expand runs)) no_lines ∙ (zero-add (length (expand runs)) ∙ count)) s))

-- the kinds of line, each with its events

-- one more event, of which more are owed
abbrev pub with_event : Draft → Event → Draft
with_event d e = record d { read = d.read + 1; owed = d.owed - 1; events = d.events ++ e ∷ []; event_least = e.clock + 1 }

-- the last event of a kind
abbrev pub with_last : Draft → Event → Draft
with_last d e = record d {
  read = d.read + 1;
  owed = d.owed - 1;
  kinds = d.kinds ++ (d.events ++ e ∷ []) ∷ [];
  lengths = d.lengths ++ d.clocks ∷ [];
  clocks = scanline;
  events = [];
  event_least = 0;
}

-- these kinds, and none begun
abbrev pub with_kinds : Draft → ℕ → List (List Event) → List ℕ → Draft
with_kinds d read kinds lengths = record d {
  read = read;
  kinds = kinds;
  lengths = lengths;
  owed = 0;
  clocks = scanline;
  events = [];
  event_least = 0;
}

pub event_next : (d : Draft) (e : Event) → eqb (d.owed - 1) 0 ≡ false → next_of d (parsed.Event e) ≡ with_event d e
event_next d e h = rw h refl

pub last_next : (d : Draft) (e : Event) → eqb (d.owed - 1) 0 ≡ true → next_of d (parsed.Event e) ≡ with_last d e
last_next d e h = rw h refl

-- where these kinds are read, the certificate is
abbrev pub Then : Draft → List (List Event) → List ℕ → Cert → Type 0
Then d kinds lengths c = (read : ℕ) → 4 ≤ read → Kept (with_kinds d read kinds lengths) → IsReadAs (with_kinds d read kinds lengths) c

events_again : (l : LineSpelling) (d : Draft) (e : Event) (es : List Event) (c : Cert) → Kept d → 4 ≤ d.read → PastCells d
    → d.owed ≡ length es + 1 → All EventFits (e ∷ es) → rises_from d.event_least (map (λ x. x.clock) (e ∷ es)) ≡ true
    → clocks_below (e ∷ es) d.clocks ≡ true → Then d (d.kinds ++ (d.events ++ e ∷ es) ∷ []) (d.lengths ++ d.clocks ∷ []) c → IsReadAs d c
events_again l d e [] c k b p owed fits rise low later =
    let order = and_true (leb d.event_least e.clock) true rise in
    let below = and_true (ltb e.clock d.clocks) true low in
    let fit : SaidFits d (parsed.Event e) = grind (arith, nat_tests, b, owed, All-head EventFits e [] fits, below.0, order.0) in
    let none : d.owed - 1 ≡ 0 = omega (arith, owed) in
    let last : next_of d (parsed.Event e) ≡ record (with_last d e) { owed = 0 } = last_next d e (equal (d.owed - 1) 0 none)
    ∙ ap (λ n. record (with_last d e) { owed = n }) none in
    let is = due_event d b p (omega (arith, owed)) in
    step l d (parsed.Event e) c k is fit
    (subst (λ y. IsReadAs y c) (sym last) (later (d.read + 1) (omega (arith, b)) (subst Kept last (kept_next d (parsed.Event e) k is fit))))
events_again l d e (x ∷ es) c k b p owed fits rise low later =
    let order = and_true (leb d.event_least e.clock) (rises_from (e.clock + 1) (map (λ y. y.clock) (x ∷ es))) rise in
    let below = and_true (ltb e.clock d.clocks) (clocks_below (x ∷ es) d.clocks) low in
    let fit : SaidFits d (parsed.Event e) = grind (arith, nat_tests, b, owed, All-head EventFits e (x ∷ es) fits, below.0, order.0) in
    let next = event_next d e (not_equal (d.owed - 1) 0 (omega (arith, owed))) in
    let is = due_event d b p (omega (arith, owed)) in
    step l d (parsed.Event e) c k is fit
    (subst (λ y. IsReadAs y c) (sym next)
    (events_again l (with_event d e) x es c (subst Kept next (kept_next d (parsed.Event e) k is fit)) (omega (arith, b)) p (omega (arith, owed))
    (All-tail EventFits e (x ∷ es) fits) order.1 below.1
    (subst (λ ys. Then d (d.kinds ++ ys ∷ []) (d.lengths ++ d.clocks ∷ []) c) (sym (append_assoc d.events (e ∷ []) (x ∷ es))) later)))

-- rising clocks below a length are no more than it
events_few : (es : List Event) (least n : ℕ) → least ≤ n → rises_from least (map (λ e. e.clock) es) ≡ true → clocks_below es n ≡ true
    → length es + least ≤ n
events_few [] least n h r b = omega arith
events_few (e ∷ es) least n h r b =
    grind (arith, nat_tests, events_few es (e.clock + 1) n)

-- no kind of line is begun
abbrev pub BetweenKinds : Draft → Type 0
BetweenKinds d = (d.owed ≡ 0) × (d.clocks ≡ scanline) × (d.events ≡ []) × (d.event_least ≡ 0)

-- a draft between kinds, with no kind more
pub no_kind_more : (d : Draft) → BetweenKinds d → d ≡ with_kinds d d.read (d.kinds ++ []) (d.lengths ++ [])
no_kind_more d between = λ i. record d {
  kinds = sym (append-nil d.kinds) i;
  lengths = sym (append-nil d.lengths) i;
  owed = between.0 i;
  clocks = between.1 i;
  events = between.2 i;
  event_least = between.3 i;
}

pub kinds_again : (l : LineSpelling) (d : Draft) (kinds : List (List Event)) (lengths : List ℕ) (c : Cert) → Kept d → 4 ≤ d.read
    → PastCells d → BetweenKinds d → length d.kinds + length kinds ≡ d.sizes.kinds → All EventsFit kinds → lengths_fit kinds lengths ≡ true
    → All (IsLengthIn d.version) lengths → Then d (d.kinds ++ kinds) (d.lengths ++ lengths) c → IsReadAs d c
kinds_again l d [] [] c k b p between count fits each own later =
    let same = no_kind_more d between in
    subst (λ y. IsReadAs y c) (sym same) (later d.read b (subst Kept same k))
kinds_again l d [] (n ∷ lengths) c k b p between count fits each own later = absurd cc
kinds_again l d (es ∷ kinds) [] c k b p between count fits each own later = absurd cc
kinds_again l d ([] ∷ kinds) (n ∷ lengths) c k b p between count fits each own later =
    let some = (All-head EventsFit [] kinds fits).some in
    absurd (omega (arith, some))
kinds_again l d ((e ∷ es) ∷ kinds) (n ∷ lengths) c k b p between count fits each own later =
    let rest = and_true (is_length n && clocks_below (e ∷ es) n) (lengths_fit kinds lengths) each in
    let this = and_true (is_length n) (clocks_below (e ∷ es) n) rest.0 in
    let first = All-head EventsFit (e ∷ es) kinds fits in
    let few = events_few (e ∷ es) 0 n (omega arith) first.rise this.1 in
    let room : length d.kinds < d.sizes.kinds = omega (arith, count) in
    let says : KindLine = record { events = length (e ∷ es); clocks = n } in
    let fit : SaidFits d (parsed.Kind says) =
    grind (arith, b, between.0, room, first.some, few, All-head (IsLengthIn d.version) n lengths own) in
    let is = due_kind d b p between.0 room in
    let next = next_of d (parsed.Kind says) in
    let rise : rises_from d.event_least (map (λ x. x.clock) (e ∷ es)) ≡ true =
    subst (λ m. rises_from m (map (λ x. x.clock) (e ∷ es)) ≡ true) (sym between.3) first.rise in
    let seam : d.events ++ e ∷ es ≡ e ∷ es = ap (λ ys. ys ++ e ∷ es) between.2 in
    let others : Then d (d.kinds ++ (e ∷ es) ∷ []) (d.lengths ++ n ∷ []) c = λ read body kept.
    kinds_again l (with_kinds d read (d.kinds ++ (e ∷ es) ∷ []) (d.lengths ++ n ∷ [])) kinds lengths c kept body p (refl, refl, refl, refl)
    (simp length-append (omega (arith, count))) (All-tail EventsFit (e ∷ es) kinds fits) rest.1 (All-tail (IsLengthIn d.version) n lengths own)
    (subst (λ ks. Then d ks ((d.lengths ++ n ∷ []) ++ lengths) c) (sym (append_assoc d.kinds ((e ∷ es) ∷ []) kinds))
    (subst (λ ns. Then d (d.kinds ++ (e ∷ es) ∷ kinds) ns c) (sym (append_assoc d.lengths (n ∷ []) lengths)) later)) in
    step l d (parsed.Kind says) c k is fit
    (events_again l next e es c (kept_next d (parsed.Kind says) k is fit) (omega (arith, b)) p (omega arith) first.each rise this.1
    (subst (λ ys. Then d (d.kinds ++ ys ∷ []) (d.lengths ++ n ∷ []) c) (sym seam) others))

-- the cells

abbrev pub with_cells : Draft → ℕ → ℕ → List Cell → Draft
with_cells d read least cs = record d { read = read; head = record d.head { cells = record { items = cs } }; cell_least = least }

-- where these cells are read, the certificate is
abbrev pub ThenOn : Draft → List Cell → Cert → Type 0
ThenOn d cells c = (read least : ℕ) → 4 ≤ read → Kept (with_cells d read least cells) → IsReadAs (with_cells d read least cells) c

pub cells_again : (l : LineSpelling) (d : Draft) (cells : List Cell) (c : Cert) → Kept d → 4 ≤ d.read
    → length d.head.cells.items + length cells ≡ d.sizes.cells → All (CellFits d.head) cells → rises_from d.cell_least
    (map (λ m. m.at) cells) ≡ true
    → ThenOn d (d.head.cells.items ++ cells) c → IsReadAs d c
cells_again l d [] c k b count fits rise later =
    let same : d ≡ with_cells d d.read d.cell_least (d.head.cells.items ++ []) = ap (λ cs. with_cells d d.read d.cell_least cs)
    (sym (append-nil d.head.cells.items)) in
    subst (λ y. IsReadAs y c) (sym same) (later d.read d.cell_least b (subst Kept same k))
cells_again l d (m ∷ cells) c k b count fits rise later =
    let order = and_true (leb d.cell_least m.at) (rises_from (m.at + 1) (map (λ m. m.at) cells)) rise in
    let room : length d.head.cells.items < d.sizes.cells = omega (arith, count) in
    let fit : SaidFits d (parsed.Cell m) =
    grind (arith, b, room, All-head (CellFits d.head) m cells fits, leb-true d.cell_least m.at order.0) in
    let is = due_cell d b room in
    let next = next_of d (parsed.Cell m) in
    let refitted = All-weaker (CellFits d.head) (CellFits next.head) (λ x f. same_cell d.head next.head x refl refl f) cells
    (All-tail (CellFits d.head) m cells fits) in
    step l d (parsed.Cell m) c k is fit
    (cells_again l next cells c (kept_next d (parsed.Cell m) k is fit) (omega (arith, b)) (simp length-append (omega (arith, count))) refitted order.1
    (subst (λ cs. ThenOn d cs c) (sym (append_assoc d.head.cells.items (m ∷ []) cells)) later))

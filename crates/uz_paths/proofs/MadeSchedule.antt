-- The schedule of an ended search's marks is one of a certificate: within its limits, with the events that are marked.
use Rattle.std.proofs.Common.{◌≡◌, ◌≢◌, ◌∙◌, sym, ap, refl, arith, ⊎_elim, ℕ, zero, suc, ◌+◌, ◌<◌, ◌≤◌, true, false}
use Rattle.std.proofs.Common.{List, [], ◌∷◌, ◌++◌, map, All, length, get_or, subst, if◌then◌else◌}
use Rattle.std.specs.Prelude.{Option, Some, None, Result, Ok, Err, IfOk, ◌&&◌, nat_eq, nat_le, nat_lt, slice_get, slice_index}
use Rattle.std.proofs.lemmas.Bool.{cases_eq, eq-eqb}
use Rattle.std.proofs.lemmas.Bool.Decides.{nat_tests}
use Rattle.std.proofs.lemmas.List.Elements.{All-cons, All-nil}
use Rattle.std.proofs.lemmas.Option.{get_or_from_slice_get, slice_get-get_or, slice_get_within}
use Rattle.uz_schedule.specs.Limits.{EventFits, EventsFit, KindFits, ScheduleFits, clock_limit, clocks_below, is_length}
use Rattle.uz_schedule.specs.Limits.{lengths_fit, rises_from}
use Rattle.uz_schedule.specs.Schedule.{event_at, event_in, event_in_kind, events_of, length_of, scanline, start_of}
use Rattle.uz_schedule.specs.declared.lines.Event.{Event}
use Rattle.uz_schedule.specs.declared.lines.EventKind.{EventKind}
use Rattle.uz_schedule.specs.declared.lines.EventKind.TheVariants.{Sync, Pixel, Sound, Leave}
use Rattle.uz_schedule.specs.declared.lines.Schedule.{Schedule}
use Rattle.uz_search.specs.declared.found.Found.{Found}
use Rattle.uz_search.specs.declared.marks.Mark.{Mark}
use Rattle.uz_search.specs.declared.program.Program.{Program}
use Rattle.uz_search.specs.Fitting.{ProgramFits}
use Rattle.uz_search.specs.Following.{Flash, line_start, lines_of}
use Rattle.uz_search.specs.Searching.{IsEnded}
use Rattle.uz_search.specs.Complete.{EndedFallsOnce, EndedLevelsFit}
use Rattle.uz_search.specs.Made.{event_of, marked_at}
use Rattle.uz_search.specs.Made as laws
use Rattle.uz_paths.specs.Kinds.{event_here, events_from, line_events, noted, IsKind, IsScheduleOf}

-- the event at a clock of a line is that of the line's kind
abbrev pub EventByLine : Type 0
EventByLine = (s : Schedule) (l k : ℕ) → l < length s.lines → k < length_of s l → event_at s (start_of s l + k) ≡ event_in_kind
    (events_of s l) k

-- The events of a line

here_else : (k q : ℕ) (o : Option EventKind) (rest : List Event) → k ≢ q → event_in (event_here k o ++ rest) q ≡ event_in rest q
here_else k q None rest other = refl
here_else k q (Some kind) rest other = ap (λ b. if b then Some kind else event_in rest q) (differ k q other)
  where
    differ : (a b : ℕ) → a ≢ b → nat_eq a b ≡ false
    differ a b h = grind (arith, nat_tests)

here_at : (k : ℕ) (o : Option EventKind) (rest : List Event) → event_in rest k ≡ None → event_in (event_here k o ++ rest) k ≡ o
here_at k None rest none = none
here_at k (Some kind) rest none = ap (λ b. if b then Some kind else event_in rest k) (eq-eqb k k refl)

none_before : (marks : List Mark) (start k n q : ℕ) → q < k → event_in (events_from marks start k n) q ≡ None
unfolding events_from
none_before marks start k zero q less = refl
none_before marks start k (suc n) q less =
    here_else k q (noted (slice_get marks (start + k))) (events_from marks start (suc k) n) (λ e. omega arith) ∙ none_before marks start
    (suc k) n q (omega arith)

-- at each clock stands what is noted there
at_clock : (marks : List Mark) (start k n q : ℕ) → k ≤ q → q < k + n → event_in (events_from marks start k n) q ≡ noted
    (slice_get marks (start + q))
unfolding events_from
at_clock marks start k zero q le less = absurd (omega arith)
at_clock marks start k (suc n) q le less = ⊎_elim
    (λ (same : k ≡ q). subst (λ j. event_in (event_here k (noted (slice_get marks (start + k))) ++ events_from marks start (suc k) n)
    j ≡ noted (slice_get marks (start + j))) same
    (here_at k (noted (slice_get marks (start + k))) (events_from marks start (suc k) n)
    (none_before marks start (suc k) n k (omega arith))))
    (λ (other : k ≢ q). here_else k q (noted (slice_get marks (start + k))) (events_from marks start (suc k) n) other ∙ at_clock marks start
    (suc k) n q (omega arith) (omega arith))
    (cases_eq k q)

pub line_at : (marks : List Mark) (l clocks k : ℕ) → k < clocks → event_in (line_events marks l clocks) k ≡ noted
    (slice_get marks (line_start l + k))
unfolding line_events
line_at marks l clocks k less = at_clock marks (line_start l) 0 clocks k (omega arith) (omega arith)

few_here : (k n : ℕ) (o : Option EventKind) (rest : List Event) → length rest ≤ n → length (event_here k o ++ rest) ≤ suc n
few_here k n None rest h = omega arith
few_here k n (Some kind) rest h = omega arith

few_events : (marks : List Mark) (start k n : ℕ) → length (events_from marks start k n) ≤ n
unfolding events_from
few_events marks start k zero = omega arith
few_events marks start k (suc n) = few_here k n (noted (slice_get marks (start + k))) (events_from marks start (suc k) n)
    (few_events marks start (suc k) n)

same_event : (o : Option Mark) → noted o ≡ event_of o
same_event None = refl
same_event (Some m) = refl

-- marked levels are 0 and 1
abbrev LevelsFit : List Mark → Type 0
LevelsFit marks = (y v : ℕ) → marked_at marks y ≡ Some (Sync v) → v ≤ 1

noted_fits : (marks : List Mark) (y : ℕ) (kind : EventKind) → LevelsFit marks → noted (slice_get marks y) ≡ Some kind
    → KindFits kind
noted_fits marks y Pixel levels is = tt
noted_fits marks y Sound levels is = tt
noted_fits marks y Leave levels is = tt
noted_fits marks y (Sync v) levels is = levels y v (sym (same_event (slice_get marks y)) ∙ is)

here_fits : (k : ℕ) (o : Option EventKind) (rest : List Event) → k < clock_limit → ((kind : EventKind) → o ≡ Some kind → KindFits kind)
    → All EventFits rest → All EventFits (event_here k o ++ rest)
here_fits k None rest less fits all = all
here_fits k (Some kind) rest less fits all = All-cons EventFits (record { clock = k; kind = kind }) rest
    (record { clock = less; kind = fits kind refl }) all

all_fit : (marks : List Mark) (start k n : ℕ) → k + n ≤ clock_limit → LevelsFit marks → All EventFits (events_from marks start k n)
unfolding events_from
all_fit marks start k zero le levels = All-nil EventFits
all_fit marks start k (suc n) le levels =
    here_fits k (noted (slice_get marks (start + k))) (events_from marks start (suc k) n) (omega arith)
    (λ kind is. noted_fits marks (start + k) kind levels is) (all_fit marks start (suc k) n (omega arith) levels)

le_true : (a b : ℕ) → a ≤ b → nat_le a b ≡ true
le_true a b h = grind (arith, nat_tests)

here_rises : (least k : ℕ) (o : Option EventKind) (rest : List Event) → least ≤ k
    → ((low : ℕ) → low ≤ suc k → rises_from low (map (λ e. e.clock) rest) ≡ true)
    → rises_from least (map (λ e. e.clock) (event_here k o ++ rest)) ≡ true
here_rises least k None rest le later = later least (omega arith)
here_rises least k (Some kind) rest le later = λ i. le_true least k le i && later (k + 1) (omega arith) i

all_rise : (marks : List Mark) (start k n least : ℕ) → least ≤ k → rises_from least
    (map (λ e. e.clock) (events_from marks start k n)) ≡ true
unfolding events_from
all_rise marks start k zero least le = refl
all_rise marks start k (suc n) least le =
    here_rises least k (noted (slice_get marks (start + k))) (events_from marks start (suc k) n) le
    (λ low few. all_rise marks start (suc k) n low few)

some_event : (events : List Event) (k : ℕ) (e : EventKind) → event_in events k ≡ Some e → 1 ≤ length events
some_event [] k e is = absurd (cc)
some_event (d ∷ ds) k e is = omega arith

line_fits : (marks : List Mark) (l clocks k : ℕ) (e : EventKind) → clocks ≤ scanline → LevelsFit marks
    → event_in (line_events marks l clocks) k ≡ Some e → EventsFit (line_events marks l clocks)
unfolding line_events
line_fits marks l clocks k e short levels is = record {
  some = some_event (line_events marks l clocks) k e is;
  few = (let few = few_events marks (line_start l) 0 clocks in omega arith);
  each = all_fit marks (line_start l) 0 clocks (omega arith) levels;
  rise = all_rise marks (line_start l) 0 clocks 0 (omega arith);
}

-- events stand at clocks of their line
less_true : (a b : ℕ) → a < b → nat_lt a b ≡ true
less_true a b h = grind (arith, nat_tests)

here_below : (limit k : ℕ) (o : Option EventKind) (rest : List Event) → k < limit → clocks_below rest limit ≡ true
    → clocks_below (event_here k o ++ rest) limit ≡ true
here_below limit k None rest less below = below
here_below limit k (Some kind) rest less below = λ i. less_true k limit less i && below i

from_below : (marks : List Mark) (start k n limit : ℕ) → k + n ≤ limit → clocks_below (events_from marks start k n) limit ≡ true
unfolding events_from
from_below marks start k zero limit le = refl
from_below marks start k (suc n) limit le =
    here_below limit k (noted (slice_get marks (start + k))) (events_from marks start (suc k) n) (omega arith)
    (from_below marks start (suc k) n limit (omega arith))

line_below : (marks : List Mark) (l clocks : ℕ) → clocks_below (line_events marks l clocks) clocks ≡ true
unfolding line_events
line_below marks l clocks = from_below marks (line_start l) 0 clocks clocks (omega arith)

-- each kind with its length
kinds_long : (kinds : List (List Event)) (lengths : List ℕ) → length lengths ≡ length kinds
    → ((i : ℕ) (kind : List Event) (n : ℕ) → IsKind kinds lengths i kind n → (is_length n && clocks_below kind n) ≡ true)
    → lengths_fit kinds lengths ≡ true
kinds_long [] [] same each = refl
kinds_long [] (n ∷ lengths) same each = absurd (omega (arith, same))
kinds_long (kind ∷ kinds) [] same each = absurd (omega (arith, same))
kinds_long (kind ∷ kinds) (n ∷ lengths) same each =
    λ i. each 0 kind n (refl, refl) i && kinds_long kinds lengths (omega (arith, same)) (λ j k m at. each (suc j) k m at) i

length_few : (n : ℕ) → is_length n ≡ true → n ≤ scanline
length_few n h = grind (arith, nat_tests)

pub length_short : (p : Program) → ProgramFits p → (l : ℕ) → length_of p.schedule l ≤ scanline
length_short p fits l = length_few (length_of p.schedule l) (fits.lengths l)

-- The schedule

pub is_made : (p : Program) (marks : List Mark) (s : Schedule) → EventByLine → IsScheduleOf marks p.schedule s
    → laws.IsScheduleOf p marks s
is_made p marks s by_line of = record {
  lines = of.count;
  lengths = of.lengths;
  fall = of.falls;
  events = λ l k below in_line.
      by_line s l k (subst (λ n. l < n) (sym of.count) below) in_line
      ∙ (ap (λ o. event_in_kind o k) (of.events l below)
      ∙ (line_at marks l (length_of p.schedule l) k (subst (λ n. k < n) (of.lengths l) in_line) ∙ same_event
      (slice_get marks (line_start l + k))));
}

pub is_fit : (image : Flash) (p : Program) (found : Found) (s : Schedule) → EventByLine → EndedFallsOnce → EndedLevelsFit → ProgramFits p
    → IsEnded image p found → IsScheduleOf found.marks.items p.schedule s → ScheduleFits s
is_fit image p found s by_line falls levels fits ended of = record {
  lengths = kinds_long s.kinds s.lengths of.sizes long_kind;
  kinds = record { some = some_kind; few = (let few = of.few in let lines = fits.few in omega arith); each = each_kind };
  lines = record {
    some = (let count = of.count in let some = fits.some in omega arith);
    few = (let count = of.count in let few = fits.few in omega arith);
    there = λ l d within. kind_there l d within;
  };
  fall_some = subst (λ n. 1 ≤ n) (sym of.falls) fits.fall_some;
  fall_in_line = (let falls = of.falls in let less = fits.fall_in_line 0 in
      let short = length_few (length_of p.schedule 0) (fits.lengths 0) in omega arith);
}
  where
    made : laws.IsScheduleOf p found.marks.items s
    made = is_made p found.marks.items s by_line of

    marked : LevelsFit found.marks.items
    marked y v is = levels image p found y v fits ended is

    long_kind : (i : ℕ) (kind : List Event) (n : ℕ) → IsKind s.kinds s.lengths i kind n → (is_length n && clocks_below kind n) ≡ true
    long_kind i kind n at =
        let l = of.used i kind n at in
        λ j. (ap is_length l.long ∙ fits.lengths l.line) j && (ap (λ es. clocks_below es n) l.is ∙ line_below found.marks.items l.line n) j

    fall_at : (l clocks : ℕ) → l < lines_of p → clocks ≡ length_of p.schedule l
        → event_in (line_events found.marks.items l clocks) p.schedule.fall ≡ Some (Sync 0)
    fall_at l clocks below long =
        let first = (falls image p found s fits ended made).first l below in
        let less : p.schedule.fall < clocks = subst (λ n. p.schedule.fall < n) (sym long) (fits.fall_in_line l) in
        let here : p.schedule.fall < length_of s l = subst (λ n. p.schedule.fall < n) (sym (of.lengths l)) (fits.fall_in_line l) in
        line_at found.marks.items l clocks p.schedule.fall less ∙ (same_event
        (slice_get found.marks.items (line_start l + p.schedule.fall)) ∙ (sym (made.events l p.schedule.fall below here) ∙ first))

    each_kind : All EventsFit s.kinds
    each_kind i d within =
        let clocks = get_or s.lengths i 0 in
        let there : i < length s.lengths = (let same = of.sizes in omega arith) in
        let l = of.used i (get_or s.kinds i d) clocks (slice_get-get_or s.kinds i d within, slice_get-get_or s.lengths i 0 there) in
        let short : clocks ≤ scanline = length_few clocks (ap is_length l.long ∙ fits.lengths l.line) in
        subst EventsFit (sym l.is) (line_fits found.marks.items l.line clocks p.schedule.fall (Sync 0) short marked
        (fall_at l.line clocks l.below l.long))

    kind_of : (l : ℕ) → l < lines_of p → slice_index s.lines l < length s.kinds
    kind_of l below = slice_get_within s.kinds (slice_index s.lines l) (line_events found.marks.items l (length_of p.schedule l))
        (of.events l below)

    some_kind : 1 ≤ length s.kinds
    some_kind = let less = kind_of 0 (let some = fits.some in omega arith) in omega arith

    kind_there : (l d : ℕ) → l < length s.lines → get_or s.lines l d < length s.kinds
    kind_there l d within =
        let same : get_or s.lines l 0 ≡ get_or s.lines l d = get_or_from_slice_get s.lines l (get_or s.lines l d) 0
        (slice_get-get_or s.lines l d within) in
        subst (λ n. n < length s.kinds) same (kind_of l (subst (λ n. l < n) of.count within))

-- what follows from what is promised of Ok
pub if_ok : {A E : Type 0} (r : Result A E) (P Q : A → Type 0) → ((a : A) → P a → Q a) → IfOk r P → IfOk r Q
if_ok (Ok a) P Q f h = f a h
if_ok (Err e) P Q f h = tt

-- A player, edge by edge and page by page.
use Rattle.std.proofs.Common.{◌≡◌, ℕ, ◌+◌, ◌*◌, ◌^◌, ◌<◌, ◌≤◌, List, [], ◌∷◌, ◌++◌, length, drop, Option, Some, None, refl, sym, ap, subst}
use Rattle.std.proofs.Common.{◌∙◌, append_assoc, append-nil, length-append, arith}
use Rattle.std.specs.Prelude.{IsSome}
use Rattle.std.proofs.lemmas.Bool.{false≢true}
use Rattle.std.proofs.lemmas.List.{reverse-append}
use Rattle.uz_hex.specs.Cells.{word_of}
use Rattle.uz_core.specs.declared.machine.Edge.{Edge}
use Rattle.uz_core.specs.PadLine.{PadHistory}
use Rattle.uz_core.specs.Turn.{State}
use Rattle.uz_core.specs.Run.{IsClockRun, IsRunPart, IsStoppedRun}
use Rattle.uz_core.specs.declared.step.Why.{Why}
use Rattle.uz_schedule.specs.WellFormed.{WellFormed}
use Rattle.uz_schedule.specs.Schedule.{frame_of}
use Rattle.uz_console.specs.declared.console.Console.{Console}
use Rattle.uz_console.specs.Consoles.{StandsFor, clock_of}
use Rattle.uz_console.specs.Pages.{HasFewEdges}
use Rattle.uz_console.specs.Runs.{AreTimed, RunIsOver, RunsTo}
use Rattle.uz_console.specs.Turns.{Halts}
use Rattle.uz_console.specs.Approaches.{EntersFirst, NeverEnters, RunsUnentered}
use Rattle.uz_scan.specs.Pictures.{last_row, newest_first, record_of, records, row_bytes, shown_by}
use Rattle.uz_scan.specs.Scanning as scanning
use Rattle.uz_player.specs.declared.recorder.Record.{Record}
use Rattle.uz_player.specs.declared.recorder.Record.TheVariants as record_is
use Rattle.uz_player.specs.declared.recorder.Recorder.{Recorder}
use Rattle.uz_player.specs.declared.player.Player.{Player}
use Rattle.uz_player.specs.declared.ending.Ending.{Ending}
use Rattle.uz_player.specs.declared.ending.Ending.TheVariants as ending
use Rattle.uz_player.specs.Endings.{played_of}
use Rattle.uz_player.specs.declared.player.Played.{Played}
use Rattle.uz_player.specs.declared.player.Played.TheVariants.{Row, End, Over, Stopped}
use Rattle.uz_player.specs.Counting.{EntersAt, IsEntered, IsInLine}
use Rattle.uz_player.specs.Seen.{HasSeen, Takes, record_bytes}
use Rattle.uz_player.specs.Playing.{GoesOn, IsNearer, IsNext, IsPlayed, IsRecordOf, Plays, StartsRecords, ahead_of, left_of}

-- a console that has made no turn
unentered_at_first : (player : Player) (start : State PadHistory) → StandsFor player.console start → RunsUnentered player.cert player.limit
    start [] player.console
unentered_at_first player start stands = record {
  last = start;
  part = record { turns = 0; all_edges = []; run = (refl, refl); in_time = refl };
  stands = stands;
  none_before = λ m edges s none run. absurd (omega arith);
}

pub begins : (player : Player) (start : State PadHistory) → StandsFor player.console start → WellFormed player.cert
    → clock_of player.console ≡ 0 → player.page.items ≡ [] → player.next ≡ 0 →
    player.recorder.counts.entered ≡ None → HasSeen player.recorder [] → scanning.clock_of player.recorder.scanner ≡ 0 → Plays player start
    []
begins player start stands fits at_zero none next entered seen scan =
    let left : left_of player ≡ [] = ap (λ n. drop n player.page.items) next ∙ none in
    record {
      edges = [];
      played = record {
        goes = subst (λ o. GoesOn player o start ([] ++ left_of player)) (sym entered)
            (subst (λ es. RunsUnentered player.cert player.limit start es player.console) (sym left)
            (unentered_at_first player start stands));
        seen = seen;
        timed = subst (AreTimed (scanning.clock_of player.recorder.scanner) (clock_of player.console)) (sym left) (omega arith);
        few = subst (λ (es : List Edge). length es ≤ 4 * clock_of player.console) (sym left) (omega arith);
        bounded = subst (λ (es : List Edge). length es ≤ 4000000000) (sym left) (omega arith);
        fits = fits;
      };
      records = refl;
    }

-- one more edge is taken
pub takes_edge : (old new : Player) (edge : Edge) (given : Option Record) (start : State PadHistory) (handed row : List ℕ) →
    new.console ≡ old.console → new.cert ≡ old.cert → new.limit ≡ old.limit → new.recorder.counts.entered ≡ old.recorder.counts.entered
    → left_of old ≡ edge ∷ left_of new →
    ((seen : List Edge) → Takes old.recorder new.recorder edge given seen) → ((edges : List Edge) → HasSeen new.recorder edges
    → record_bytes given row ≡ record_bytes given (last_row (newest_first edges))) →
    Plays old start handed → Plays new start (handed ++ record_bytes given row)
takes_edge old new edge given start handed row console cert limit entered left takes same plays =
    let played = plays.played in
    let seen = plays.edges in
    let all : seen ++ left_of old ≡ (seen ++ edge ∷ []) ++ left_of new = ap (λ x. seen ++ x) left
    ∙ sym (append_assoc seen (edge ∷ []) (left_of new)) in
    let timed = subst (AreTimed (scanning.clock_of old.recorder.scanner) (clock_of old.console)) left played.timed in
    let size = length-append seen (left_of old) in
    let bound = played.bounded in
    let few : length seen < 2 ^ 63 = omega arith in
    let taken = takes seen played.seen few timed.0 in
    record {
      edges = seen ++ edge ∷ [];
      played = record {
        goes = goes_carried old new start _ console cert limit entered (subst (GoesOn old old.recorder.counts.entered start) all
            played.goes);
        seen = taken.seen_more;
        timed = subst (λ n. AreTimed n (clock_of new.console) (left_of new)) (sym taken.clock)
            (subst (λ (x : Console). AreTimed edge.clock (clock_of x) (left_of new)) (sym console) timed.1);
        few = subst (λ (x : Console). length ((seen ++ edge ∷ []) ++ left_of new) ≤ 4 * clock_of x) (sym console)
            (subst (λ (es : List Edge). length es ≤ 4 * clock_of old.console) all played.few);
        bounded = subst (λ (es : List Edge). length es ≤ 4000000000) all bound;
        fits = subst WellFormed (sym cert) played.fits;
      };
      records = ap (λ x. x ++ record_bytes given row) plays.records
          ∙ (ap (λ x. records (newest_first seen) ++ x) (same (seen ++ edge ∷ []) taken.seen_more) ∙ sym taken.records);
    }
  where
    by_entered : (old new : Player) (start : State PadHistory) (edges : List Edge) (o : Option (ℕ × ℕ)) → new.console ≡ old.console
        → new.cert ≡ old.cert → new.limit ≡ old.limit → GoesOn old o start edges → GoesOn new o start edges
    by_entered old new start edges None console cert limit h =
        subst (λ (x : Console). RunsUnentered new.cert new.limit start edges x) (sym console)
        (subst (λ c. RunsUnentered c new.limit start edges old.console) (sym cert)
        (subst (λ n. RunsUnentered old.cert n start edges old.console) (sym limit) h))
    by_entered old new start edges (Some at) console cert limit h = (
      subst (λ (x : Console). RunsTo new.limit start edges x) (sym console) (subst (λ n. RunsTo n start edges old.console) (sym limit) h.0),
      subst (λ c. IsEntered c new.limit start at.0 at.1) (sym cert) (subst (λ n. IsEntered old.cert n start at.0 at.1) (sym limit) h.1),
    )

    goes_carried : (old new : Player) (start : State PadHistory) (edges : List Edge) → new.console ≡ old.console → new.cert ≡ old.cert
        → new.limit ≡ old.limit → new.recorder.counts.entered ≡ old.recorder.counts.entered →
        GoesOn old old.recorder.counts.entered start edges → GoesOn new new.recorder.counts.entered start edges
    goes_carried old new start edges console cert limit entered h = subst (λ o. GoesOn new o start edges) (sym entered)
        (by_entered old new start edges old.recorder.counts.entered console cert limit h)

-- a record comes with an edge, whose row matters for that of a line alone
pub record_comes : (old new : Player) (given : Record) →
    ((start : State PadHistory) (handed row : List ℕ) → Plays old start handed → ((edges : List Edge) → HasSeen new.recorder edges
    → record_bytes (Some given) row ≡ record_bytes (Some given) (last_row (newest_first edges))) →
    Plays new start (handed ++ record_bytes (Some given) row)) → IsRecordOf old new (Some given)
record_comes old new (record_is.Row line) h = λ start handed row plays is_row. h start handed row plays
    (λ edges seen. ap (row_bytes line) (is_row edges seen))
record_comes old new (record_is.End frame) h = λ start handed plays. h start handed [] plays (λ edges seen. refl)

timed_earlier : (from earlier to : ℕ) (edges : List Edge) → earlier ≤ from → AreTimed from to edges → AreTimed earlier to edges
timed_earlier from earlier to [] h t = omega arith
timed_earlier from earlier to (e ∷ edges) h t = (let first = t.0 in omega arith, t.1)

all_seen : (player : Player) (seen : List Edge) → left_of player ≡ [] → seen ++ left_of player ≡ seen
all_seen player seen none = ap (λ x. seen ++ x) none ∙ append-nil seen

-- more edges come: at most four a turn, each of which begins before the limit and takes a clock or more
pub edges_come : (old new : Player) (more : List Edge) (start : State PadHistory) (handed : List ℕ) → left_of old ≡ [] →
    new.cert ≡ old.cert → new.limit ≡ old.limit → new.recorder ≡ old.recorder → left_of new ≡ more →
    HasFewEdges old.limit old.console new.console more → old.limit ≤ 1000000000 →
    ((seen : List Edge) → GoesOn old old.recorder.counts.entered start seen → GoesOn new old.recorder.counts.entered start (seen ++ more)
    × AreTimed (clock_of old.console) (clock_of new.console) more) →
    Plays old start handed → Plays new start handed
edges_come old new more start handed none cert limit same left few short goes plays =
    let played = plays.played in
    let seen = plays.edges in
    let all = all_seen old seen none in
    let g = goes seen (subst (GoesOn old old.recorder.counts.entered start) all played.goes) in
    let timed = subst (AreTimed (scanning.clock_of old.recorder.scanner) (clock_of old.console)) none played.timed in
    let so_far : length seen ≤ 4 * clock_of old.console = subst (λ (es : List Edge). length es ≤ 4 * clock_of old.console) all played.few in
    let bound : length seen ≤ 4000000000 = subst (λ (es : List Edge). length es ≤ 4000000000) all played.bounded in
    let size : length (seen ++ left_of new) ≡ length seen + length more = ap (λ (es : List Edge). length (seen ++ es)) left ∙ length-append
    seen more in
    let by_clock = few.0 in
    let by_limit = few.1 in
    record {
      edges = seen;
      played = record {
        goes = subst (λ o. GoesOn new o start (seen ++ left_of new)) (ap (λ (r : Recorder). r.counts.entered) (sym same))
            (subst (λ es. GoesOn new old.recorder.counts.entered start (seen ++ es)) (sym left) g.0);
        seen = subst (λ r. HasSeen r seen) (sym same) played.seen;
        timed = subst (λ (r : Recorder). AreTimed (scanning.clock_of r.scanner) (clock_of new.console) (left_of new)) (sym same)
            (subst (AreTimed (scanning.clock_of old.recorder.scanner) (clock_of new.console)) (sym left)
            (timed_earlier (clock_of old.console) _ _ more timed g.1));
        few = omega arith;
        bounded = omega arith;
        fits = subst WellFormed (sym cert) played.fits;
      };
      records = plays.records;
    }

-- a player whose console alone has gone on, with no edge left
pub console_goes_on : (old new : Player) (start : State PadHistory) (handed : List ℕ) → left_of old ≡ [] → left_of new ≡ []
    → new.cert ≡ old.cert → new.recorder.scanner ≡ old.recorder.scanner →
    ((seen : List Edge) → HasSeen old.recorder seen → HasSeen new.recorder seen) → clock_of old.console ≤ clock_of new.console →
    ((seen : List Edge) → GoesOn old old.recorder.counts.entered start seen → GoesOn new new.recorder.counts.entered start seen)
    → Plays old start handed → Plays new start handed
console_goes_on old new start handed none still cert same see on goes plays =
    let played = plays.played in
    let seen = plays.edges in
    let all = all_seen old seen none in
    let timed = subst (AreTimed (scanning.clock_of old.recorder.scanner) (clock_of old.console)) none played.timed in
    let so_far : length seen ≤ 4 * clock_of old.console = subst (λ (es : List Edge). length es ≤ 4 * clock_of old.console) all played.few in
    let bound : length seen ≤ 4000000000 = subst (λ (es : List Edge). length es ≤ 4000000000) all played.bounded in
    let here = all_seen new seen still in
    record {
      edges = seen;
      played = record {
        goes = subst (GoesOn new new.recorder.counts.entered start) (sym here)
            (goes seen (subst (GoesOn old old.recorder.counts.entered start) all played.goes));
        seen = see seen played.seen;
        timed = subst (λ s. AreTimed (scanning.clock_of s) (clock_of new.console) (left_of new)) (sym same)
            (subst (AreTimed (scanning.clock_of old.recorder.scanner) (clock_of new.console)) (sym still) (omega arith));
        few = subst (λ (es : List Edge). length es ≤ 4 * clock_of new.console) (sym here) (omega arith);
        bounded = subst (λ (es : List Edge). length es ≤ 4000000000) (sym here) bound;
        fits = subst WellFormed (sym cert) played.fits;
      };
      records = plays.records;
    }

-- once a state has entered
pub entered_edges : (old new : Player) (o : Option (ℕ × ℕ)) (more : List Edge) (start : State PadHistory) → IsSome o → new.cert ≡ old.cert
    → new.limit ≡ old.limit →
    ((start : State PadHistory) (edges : List Edge) → RunsTo old.limit start edges old.console → RunsTo old.limit start (edges ++ more)
    new.console) →
    ((s : State PadHistory) → StandsFor old.console s → AreTimed (clock_of old.console) (clock_of new.console) more) →
    (seen : List Edge) → GoesOn old o start seen → GoesOn new o start (seen ++ more) × AreTimed (clock_of old.console)
    (clock_of new.console) more
entered_edges old new None more start some cert limit run timed seen h = absurd (false≢true some)
entered_edges old new (Some at) more start some cert limit run timed seen h = (
  (
    subst (λ n. RunsTo n start (seen ++ more) new.console) (sym limit) (run start seen h.0),
    subst (λ c. IsEntered c new.limit start at.0 at.1) (sym cert) (subst (λ n. IsEntered old.cert n start at.0 at.1) (sym limit) h.1),
  ),
  timed (h.0).0 (h.0).2,
)

entered_stays : (old new : Player) (o : Option (ℕ × ℕ)) (start : State PadHistory) → IsSome o → new.cert ≡ old.cert → new.limit ≡ old.limit
    →
    ((edges : List Edge) → RunsTo old.limit start edges old.console → RunsTo old.limit start edges new.console) → (seen : List Edge)
    → GoesOn old o start seen → GoesOn new o start seen
entered_stays old new None start some cert limit run seen h = absurd (false≢true some)
entered_stays old new (Some at) start some cert limit run seen h = (
  subst (λ n. RunsTo n start seen new.console) (sym limit) (run seen h.0),
  subst (λ c. IsEntered c new.limit start at.0 at.1) (sym cert) (subst (λ n. IsEntered old.cert n start at.0 at.1) (sym limit) h.1),
)

-- a last page without edges: the run is over, or it is stopped
without : (limit : ℕ) (old : Console) (page : List Edge) (P : State PadHistory → List Edge → Type 0) → page ≡ []
    → ((start : State PadHistory) (edges : List Edge) → RunsTo limit start edges old → P start (edges ++ page))
    → (start : State PadHistory) (edges : List Edge) → RunsTo limit start edges old → P start edges
without limit old page P none ends start edges run =
    subst (P start) (ap (λ es. edges ++ es) none ∙ append-nil edges) (ends start edges run)

pub page_ends : (limit : ℕ) (old new : Console) (page : List Edge) → page ≡ []
    → ((start : State PadHistory) (edges : List Edge) → RunsTo limit start edges old → RunIsOver limit start (edges ++ page) new)
    → (start : State PadHistory) (edges : List Edge) → RunsTo limit start edges old → (last : State PadHistory)
    × IsClockRun limit start edges last × StandsFor new last
page_ends limit old new page none ends = without limit old page (λ start edges. RunIsOver limit start edges new) none ends

pub page_stops : (limit : ℕ) (old new : Console) (page : List Edge) (why : Why) → page ≡ []
    → ((start : State PadHistory) (edges : List Edge) → RunsTo limit start edges old → (last : State PadHistory)
    × IsStoppedRun limit start (edges ++ page) last × Halts last why × StandsFor new last)
    → (start : State PadHistory) (edges : List Edge) → RunsTo limit start edges old → (last : State PadHistory)
    × IsStoppedRun limit start edges last × Halts last why × StandsFor new last
page_stops limit old new page why none stops = without limit old page
    (λ start edges. (last : State PadHistory) × IsStoppedRun limit start edges last × Halts last why × StandsFor new last) none stops

runs_of : (player : Player) (o : Option (ℕ × ℕ)) (start : State PadHistory) (seen : List Edge) → IsSome o → GoesOn player o start seen
    → RunsTo player.limit start seen player.console
runs_of player None start seen some h = absurd (false≢true some)
runs_of player (Some at) start seen some h = h.0

entry_of : (player : Player) (o : Option (ℕ × ℕ)) (start : State PadHistory) (seen : List Edge) → IsSome o → GoesOn player o start seen
    → EntersAt player.cert player.limit start o
entry_of player None start seen some h = absurd (false≢true some)
entry_of player (Some at) start seen some h = h.1

pub entered_over : (old new : Player) (start : State PadHistory) (handed : List ℕ) → IsSome old.recorder.counts.entered → left_of old ≡ []
    → left_of new ≡ [] → new.cert ≡ old.cert → new.limit ≡ old.limit → new.recorder ≡ old.recorder →
    clock_of old.console ≤ clock_of new.console → ((start : State PadHistory) (edges : List Edge) → RunsTo old.limit start edges old.console
    → (last : State PadHistory) × IsClockRun old.limit start edges last × StandsFor new.console last) →
    Plays old start handed → (edges : List Edge) × (last : State PadHistory) × IsClockRun new.limit start edges last × IsPlayed new start
    handed edges
entered_over old new start handed some none still cert limit same on ends plays =
    let seen = plays.edges in
    let goes = subst (GoesOn old old.recorder.counts.entered start) (all_seen old seen none) (plays.played).goes in
    let end = ends start seen (runs_of old old.recorder.counts.entered start seen some goes) in (
      seen,
      end.0,
      subst (λ n. IsClockRun n start seen end.0) (sym limit) end.1,
      record {
        records = plays.records;
        counts = ((subst (λ r. HasSeen r seen) (sym same) (plays.played).seen)).counts;
        entered = entry_of new new.recorder.counts.entered start seen (subst (λ (r : Recorder). IsSome r.counts.entered) (sym same) some)
            (subst (λ (r : Recorder). GoesOn new r.counts.entered start seen) (sym same) (entered_stays old new old.recorder.counts.entered
            start some cert limit (λ edges run. (let e = ends start edges run in (e.0, (e.1).part, e.2))) seen goes));
        plays = console_goes_on old new start handed none still cert (ap (λ (r : Recorder). r.scanner) same)
            (λ s h. subst (λ r. HasSeen r s) (sym same) h) on
            (λ s g. subst (λ (r : Recorder). GoesOn new r.counts.entered start s) (sym same)
            (entered_stays old new old.recorder.counts.entered start some cert limit
            (λ edges run. (let e = ends start edges run in (e.0, (e.1).part, e.2))) s g)) plays;
      },
    )

pub entered_stopped : (old new : Player) (start : State PadHistory) (handed : List ℕ) (pc word : ℕ) (why : Why)
    → IsSome old.recorder.counts.entered → left_of old ≡ [] → left_of new ≡ [] → new.cert ≡ old.cert → new.limit ≡ old.limit
    → new.recorder ≡ old.recorder →
    clock_of old.console ≤ clock_of new.console → ((s : State PadHistory) → StandsFor new.console s → (pc ≡ s.core.pc)
    × (word ≡ word_of s.image s.core.pc)) →
    ((start : State PadHistory) (edges : List Edge) → RunsTo old.limit start edges old.console → (last : State PadHistory)
    × IsStoppedRun old.limit start edges last × Halts last why × StandsFor new.console last) →
    Plays old start handed → (edges : List Edge) × (last : State PadHistory) × IsStoppedRun new.limit start edges last
    × ((why : Why) × Halts last why) × (pc ≡ last.core.pc) × (word ≡ word_of last.image last.core.pc) × IsPlayed new start handed edges
entered_stopped old new start handed pc word why some none still cert limit same on here ends plays =
    let seen = plays.edges in
    let goes = subst (GoesOn old old.recorder.counts.entered start) (all_seen old seen none) (plays.played).goes in
    let end = ends start seen (runs_of old old.recorder.counts.entered start seen some goes) in
    let at = here end.0 end.3 in (
      seen,
      end.0,
      subst (λ n. IsStoppedRun n start seen end.0) (sym limit) end.1,
      (why, end.2),
      at.0,
      at.1,
      record {
        records = plays.records;
        counts = ((subst (λ r. HasSeen r seen) (sym same) (plays.played).seen)).counts;
        entered = entry_of new new.recorder.counts.entered start seen (subst (λ (r : Recorder). IsSome r.counts.entered) (sym same) some)
            (subst (λ (r : Recorder). GoesOn new r.counts.entered start seen) (sym same) (entered_stays old new old.recorder.counts.entered
            start some cert limit (λ edges run. (let e = ends start edges run in (e.0, (e.1).part, e.3))) seen goes));
        plays = console_goes_on old new start handed none still cert (ap (λ (r : Recorder). r.scanner) same)
            (λ s h. subst (λ r. HasSeen r s) (sym same) h) on
            (λ s g. subst (λ (r : Recorder). GoesOn new r.counts.entered start s) (sym same)
            (entered_stays old new old.recorder.counts.entered start some cert limit
            (λ edges run. (let e = ends start edges run in (e.0, (e.1).part, e.3))) s g)) plays;
      },
    )

-- while no state has entered
unentered_is : (player : Player) (start : State PadHistory) (seen : List Edge) → player.recorder.counts.entered ≡ None → GoesOn player
    player.recorder.counts.entered start seen → RunsUnentered player.cert player.limit start seen player.console
unentered_is player start seen none h = subst (λ o. GoesOn player o start seen) none h

unentered_goes : (old new : Player) (start : State PadHistory) (seen : List Edge) → new.cert ≡ old.cert → new.limit ≡ old.limit
    → RunsUnentered old.cert old.limit start seen new.console → RunsUnentered new.cert new.limit start seen new.console
unentered_goes old new start seen cert limit h = subst (λ c. RunsUnentered c new.limit start seen new.console) (sym cert)
    (subst (λ n. RunsUnentered old.cert n start seen new.console) (sym limit) h)

pub approach_turn : (old new : Player) (more : List Edge) (start : State PadHistory) → old.recorder.counts.entered ≡ None
    → new.cert ≡ old.cert → new.limit ≡ old.limit →
    ((start : State PadHistory) (edges : List Edge) → RunsUnentered old.cert old.limit start edges old.console → RunsUnentered old.cert
    old.limit start (edges ++ more) new.console) →
    ((s : State PadHistory) → StandsFor old.console s → AreTimed (clock_of old.console) (clock_of new.console) more) →
    (seen : List Edge) → GoesOn old old.recorder.counts.entered start seen → GoesOn new old.recorder.counts.entered start (seen ++ more)
    × AreTimed (clock_of old.console) (clock_of new.console) more
approach_turn old new more start none cert limit run timed seen h =
    let u = unentered_is old start seen none h in (
      subst (λ o. GoesOn new o start (seen ++ more)) (sym none) (unentered_goes old new start (seen ++ more) cert limit (run start seen u)),
      timed u.last u.stands,
    )

pub approach_enters : (old new : Player) (start : State PadHistory) (handed : List ℕ) (clock line position : ℕ)
    → old.recorder.counts.entered ≡ None → left_of old ≡ [] → left_of new ≡ [] → new.cert ≡ old.cert → new.limit ≡ old.limit →
    new.recorder.scanner ≡ old.recorder.scanner → ((seen : List Edge) → HasSeen old.recorder seen → HasSeen new.recorder seen)
    → new.recorder.counts.entered ≡ Some (clock, line) → clock_of old.console ≤ clock_of new.console → clock ≡ clock_of new.console →
    ((start : State PadHistory) (edges : List Edge) → RunsUnentered old.cert old.limit start edges old.console → RunsUnentered old.cert
    old.limit start edges new.console × EntersFirst old.cert old.limit start (clock_of new.console) position) →
    (position < frame_of old.cert.schedule → IsInLine old.cert.schedule position line) → position < frame_of old.cert.schedule →
    Plays old start handed → Plays new start handed
approach_enters old new start handed clock line position none empty still cert limit scan see entered on here enters in_line small plays =
    console_goes_on old new start handed empty still cert scan see on goes plays
  where
    goes : (seen : List Edge) → GoesOn old old.recorder.counts.entered start seen → GoesOn new new.recorder.counts.entered start seen
    goes seen h =
        let u = unentered_is old start seen none h in
        let e = enters start seen u in
        let run = e.0 in
        let first : IsEntered old.cert old.limit start clock line =
        record {
          position = position;
          enters = subst (λ n. EntersFirst old.cert old.limit start n position) (sym here) e.1;
          in_line = in_line small;
        } in
        subst (λ o. GoesOn new o start seen) (sym entered) (
          subst (λ n. RunsTo n start seen new.console) (sym limit) (run.last, run.part, run.stands),
          subst (λ c. IsEntered c new.limit start clock line) (sym cert) (subst (λ n. IsEntered old.cert n start clock line) (sym limit)
              first),
        )

pub approach_over : (old new : Player) (start : State PadHistory) (handed : List ℕ) → old.recorder.counts.entered ≡ None → left_of old ≡ []
    → left_of new ≡ [] → new.cert ≡ old.cert → new.limit ≡ old.limit → new.recorder ≡ old.recorder →
    clock_of old.console ≤ clock_of new.console →
    ((start : State PadHistory) (edges : List Edge) → RunsUnentered old.cert old.limit start edges old.console → (last : State PadHistory)
    × IsClockRun old.limit start edges last × StandsFor new.console last × NeverEnters old.cert old.limit start × RunsUnentered old.cert
    old.limit start edges new.console) →
    Plays old start handed → (edges : List Edge) × (last : State PadHistory) × IsClockRun new.limit start edges last × IsPlayed new start
    handed edges
approach_over old new start handed none empty still cert limit same on ends plays =
    let seen = plays.edges in
    let goes = subst (GoesOn old old.recorder.counts.entered start) (all_seen old seen empty) (plays.played).goes in
    let end = ends start seen (unentered_is old start seen none goes) in
    let still_none : new.recorder.counts.entered ≡ None = ap (λ (r : Recorder). r.counts.entered) same ∙ none in (
      seen,
      end.0,
      subst (λ n. IsClockRun n start seen end.0) (sym limit) end.1,
      record {
        records = plays.records;
        counts = (subst (λ r. HasSeen r seen) (sym same) (plays.played).seen).counts;
        entered = subst (EntersAt new.cert new.limit start) (sym still_none) (subst (λ c. NeverEnters c new.limit start) (sym cert)
            (subst (λ n. NeverEnters old.cert n start) (sym limit) end.3));
        plays = console_goes_on old new start handed empty still cert (ap (λ (r : Recorder). r.scanner) same)
            (λ s h. subst (λ r. HasSeen r s) (sym same) h) on
            (λ s g. subst (λ o. GoesOn new o start s) (sym still_none)
            (unentered_goes old new start s cert limit (ends start s (unentered_is old start s none g)).4)) plays;
      },
    )

pub approach_stopped : (old new : Player) (start : State PadHistory) (handed : List ℕ) (pc word : ℕ) (why : Why)
    → old.recorder.counts.entered ≡ None → left_of old ≡ [] → left_of new ≡ [] → new.cert ≡ old.cert → new.limit ≡ old.limit
    → new.recorder ≡ old.recorder →
    clock_of old.console ≤ clock_of new.console → ((s : State PadHistory) → StandsFor new.console s → (pc ≡ s.core.pc)
    × (word ≡ word_of s.image s.core.pc)) →
    ((start : State PadHistory) (edges : List Edge) → RunsUnentered old.cert old.limit start edges old.console → (last : State PadHistory)
    × IsStoppedRun old.limit start edges last × Halts last why × StandsFor new.console last × NeverEnters old.cert old.limit start
    × RunsUnentered old.cert old.limit start edges new.console) →
    Plays old start handed → (edges : List Edge) × (last : State PadHistory) × IsStoppedRun new.limit start edges last
    × ((why : Why) × Halts last why) × (pc ≡ last.core.pc) × (word ≡ word_of last.image last.core.pc) × IsPlayed new start handed edges
approach_stopped old new start handed pc word why none empty still cert limit same on here ends plays =
    let seen = plays.edges in
    let goes = subst (GoesOn old old.recorder.counts.entered start) (all_seen old seen empty) (plays.played).goes in
    let end = ends start seen (unentered_is old start seen none goes) in
    let at = here end.0 end.3 in
    let still_none : new.recorder.counts.entered ≡ None = ap (λ (r : Recorder). r.counts.entered) same ∙ none in (
      seen,
      end.0,
      subst (λ n. IsStoppedRun n start seen end.0) (sym limit) end.1,
      (why, end.2),
      at.0,
      at.1,
      record {
        records = plays.records;
        counts = (subst (λ r. HasSeen r seen) (sym same) (plays.played).seen).counts;
        entered = subst (EntersAt new.cert new.limit start) (sym still_none) (subst (λ c. NeverEnters c new.limit start) (sym cert)
            (subst (λ n. NeverEnters old.cert n start) (sym limit) end.4));
        plays = console_goes_on old new start handed empty still cert (ap (λ (r : Recorder). r.scanner) same)
            (λ s h. subst (λ r. HasSeen r s) (sym same) h) on
            (λ s g. subst (λ o. GoesOn new o start s) (sym still_none)
            (unentered_goes old new start s cert limit (ends start s (unentered_is old start s none g)).5)) plays;
      },
    )

-- the counts of edges don't speak of the entry
pub entered_kept : (recorder : Recorder) (at : Option (ℕ × ℕ)) (seen : List Edge) → HasSeen recorder seen
    → HasSeen (record recorder { counts = record recorder.counts { entered = at } }) seen
entered_kept recorder at seen h = record {
  scanner = h.scanner;
  counts = record {
    frames = (h.counts).frames;
    rows = (h.counts).rows;
    sync = (h.counts).sync;
    pixels = (h.counts).pixels;
    sounds = (h.counts).sounds;
  };
}

pub position_found : (old : Player) (console : Console) (start : State PadHistory) (handed : List ℕ) (position : ℕ)
    → old.recorder.counts.entered ≡ None → left_of old ≡ [] →
    ((start : State PadHistory) (edges : List Edge) → RunsUnentered old.cert old.limit start edges old.console → RunsUnentered old.cert
    old.limit start edges console × EntersFirst old.cert old.limit start (clock_of console) position) →
    Plays old start handed → position < frame_of old.cert.schedule
position_found old console start handed position none empty enters plays =
    let seen = plays.edges in
    let goes = subst (GoesOn old old.recorder.counts.entered start) (all_seen old seen empty) (plays.played).goes in
    let e = enters start seen (unentered_is old start seen none goes) in
    ((e.1).meets).in_frame

-- what comes next of a player that has only taken edges
pub next_from : (a b c : Player) (played : Played) → ((start : State PadHistory) (handed : List ℕ) → Plays a start handed → Plays b start
    handed × (left_of b ≡ [])) → (left_of b ≡ [] → IsNext b c played) → IsNext a c played
next_from a b c (Row bytes) f g = λ start handed plays. (let r = f start handed plays in g r.1 start handed r.0)
next_from a b c (End bytes) f g = λ start handed plays. (let r = f start handed plays in g r.1 start handed r.0)
next_from a b c Over f g = λ start handed plays. (let r = f start handed plays in g r.1 start handed r.0)
next_from a b c (Stopped pc word) f g = λ start handed plays. (let r = f start handed plays in g r.1 start handed r.0)

-- what is ahead

pub edges_are_nearer : (old new : Player) (more : List Edge) → left_of new ≡ more → new.limit ≡ old.limit
    → HasFewEdges old.limit old.console new.console more → ahead_of new ≤ ahead_of old
edges_are_nearer old new more left limit few =
    let size : length (left_of new) ≡ length more = ap (λ (es : List Edge). length es) left in
    let by_clock = few.0 in
    let by_limit = few.1 in
    omega arith

-- a turn's
pub turn_has_few : (limit : ℕ) (old new : Console) (edges : List Edge) → length edges ≤ 4 → clock_of old < clock_of new
    → clock_of old < limit → HasFewEdges limit old new edges
turn_has_few limit old new edges few on within = (omega arith, omega arith)

pub ends_near : (old new : Player) (at : Ending) → IsNearer old new (played_of at)
ends_near old new ending.Over = tt
ends_near old new (ending.Stopped pc word) = tt

-- what is handed out so far

records_more : (later before : List Edge) → (more : List ℕ) × (records (later ++ before) ≡ records before ++ more)
records_more [] before = ([], sym (append-nil (records before)))
records_more (e ∷ later) before =
    let h = records_more later before in
    let piece = record_of (shown_by e (later ++ before)) (last_row (e ∷ later ++ before)) in
    (h.0 ++ piece, ap (λ x. x ++ piece) h.1 ∙ append_assoc (records before) h.0 piece)

part_of : (player : Player) (start : State PadHistory) (o : Option (ℕ × ℕ)) (edges : List Edge) → GoesOn player o start edges
    → (last : State PadHistory) × IsRunPart player.limit start edges last
part_of player start None edges h = (h.last, h.part)
part_of player start (Some at) edges h = ((h.0).0, (h.0).1)

pub starts_records : (player : Player) (start : State PadHistory) (handed : List ℕ) → Plays player start handed → StartsRecords player.limit
    start handed
starts_records player start handed plays =
    let left = left_of player in
    let all = plays.edges ++ left in
    let part = part_of player start player.recorder.counts.entered all (plays.played).goes in
    let more = records_more (newest_first left) (newest_first plays.edges) in
    record {
      edges = all;
      last = part.0;
      part = part.1;
      more = more.0;
      whole = ap records (reverse-append plays.edges left) ∙ (more.1 ∙ ap (λ x. x ++ more.0) (sym plays.records));
    }

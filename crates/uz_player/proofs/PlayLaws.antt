-- A play, edge by edge and turn by turn.
use Rattle.std.proofs.Common.{◌≡◌, ℕ, zero, suc, ◌+◌, ◌-◌, ◌*◌, ◌<◌, ◌≤◌, List, [], ◌∷◌, ◌++◌, length, refl, sym, ◌∙◌, ap, subst, append_assoc}
use Rattle.std.proofs.Common.{append-nil, arith}
use Rattle.std.specs.Prelude.{reverse, Option, None, Some}
use Rattle.std.proofs.lemmas.List.{reverse-append}
use Rattle.uz_core.specs.declared.machine.Edge.{Edge}
use Rattle.uz_core.specs.PadLine.{PadHistory, latches}
use Rattle.uz_core.specs.Turn.{State}
use Rattle.uz_core.specs.Run.{MachineTurn, Run, TurnBefore}
use Rattle.uz_pads.specs.declared.pads.Pad.{Pad}
use Rattle.uz_console.specs.Holding.{holding_state}
use Rattle.uz_core.specs.declared.step.Why.{Why}
use Rattle.uz_console.specs.declared.console.Console.{Console}
use Rattle.uz_console.specs.Advances.{AdvanceTakesTime, Advances, Reaches}
use Rattle.uz_console.specs.Consoles as console
use Rattle.uz_console.specs.Consoles.{StateStandsFor, state_of}
use Rattle.uz_console.specs.Runs.{AreTimed}
use Rattle.uz_console.proofs.EdgeTimes.{timed_earlier}
use Rattle.uz_scan.specs.Pictures.{last_row, record_of, records, shown_by}
use Rattle.uz_scan.specs.declared.scanner.Scan.{Scan}
use Rattle.uz_scan.specs.declared.scanner.Scanner.{Scanner}
use Rattle.uz_scan.specs.Scanning as scanning
use Rattle.uz_player.specs.declared.play.Play.{Play}
use Rattle.uz_player.specs.declared.shown.Shown.{Shown}
use Rattle.uz_player.specs.Frames.{Goes, GoesOn, HasScanned, HasTurned, IsAt, ScansEdge, bytes_of, clock_of, left_of}

-- Runs one after another

run_again : (n k : ℕ) (s mid last : State PadHistory) (edges more : List Edge) → Run MachineTurn n s edges mid
    → Run MachineTurn k mid more last → (m : ℕ) × Run MachineTurn m s (edges ++ more) last
run_again zero k s mid last edges more run next =
    (k, subst (λ x. Run MachineTurn k x (edges ++ more) last) run.1 (subst (λ es. Run MachineTurn k mid (es ++ more) last) (sym run.0) next))
run_again (suc n) k s mid last edges more (first, there, rest, turn, run, cut) next =
    let all = run_again n k there mid last rest more run next in
    (suc all.0, (first, there, rest ++ more, turn, all.1, ap (λ es. es ++ more) cut ∙ append_assoc first rest more))

-- A play that goes on

pub stays : (p : Play) → Goes p p []
stays p = λ s seen at. record {
  turns = 0;
  edges = [];
  last = s;
  run = (refl, refl);
  scanned = [];
  kept = append-nil (left_of p);
  is_at = at;
  records = sym (append-nil (records seen));
}

seen_again : (first more seen : List Edge) → reverse more ++ (reverse first ++ seen) ≡ reverse (first ++ more) ++ seen
seen_again first more seen = sym (append_assoc (reverse more) (reverse first) seen) ∙ ap (λ es. es ++ seen) (sym (reverse-append first more))

pub goes_again : (a b c : Play) (first more : List ℕ) → Goes a b first → Goes b c more → Goes a c (first ++ more)
goes_again a b c first more f g = λ s seen at.
    let x : GoesOn a b s seen first = f s seen at in
    let y : GoesOn b c x.last (reverse x.scanned ++ seen) more = g x.last (reverse x.scanned ++ seen) x.is_at in
    let all = seen_again x.scanned y.scanned seen in
    let run = run_again x.turns y.turns s x.last y.last x.edges y.edges x.run y.run in
    record {
      turns = run.0;
      edges = x.edges ++ y.edges;
      last = y.last;
      run = run.1;
      scanned = x.scanned ++ y.scanned;
      kept = sym (append_assoc (left_of a) x.edges y.edges) ∙
          (ap (λ es. es ++ y.edges) x.kept ∙
          (append_assoc x.scanned (left_of b) y.edges ∙
          (ap (λ es. x.scanned ++ es) y.kept ∙
          sym (append_assoc x.scanned y.scanned (left_of c)))));
      is_at = subst (λ es. IsAt c y.last es) all y.is_at;
      records = ap records (sym all) ∙ (y.records ∙ (ap (λ bytes. bytes ++ more) x.records ∙ append_assoc (records seen) first more));
    }

pub more_quietly : (a b c : Play) (bytes : List ℕ) → Goes a b bytes → Goes b c [] → Goes a c bytes
more_quietly a b c bytes f g = subst (λ all. Goes a c all) (append-nil bytes) (goes_again a b c bytes [] f g)

-- One edge

pub scanned_by : (new : Scanner) (seen : List Edge) (edge : Edge) (given : Scan) (shown : Shown) → scanning.clock_of new ≡ edge.clock
    → scanning.StandsFor new (edge ∷ seen) → given ≡ shown_by edge seen → record_of given (last_row (edge ∷ seen)) ≡ bytes_of shown
    → HasScanned new seen edge shown
scanned_by new seen edge given shown clock stands is bytes = record {
  clock = clock;
  stands = stands;
  records = ap (λ b. records seen ++ b) (ap (λ g. record_of g (last_row (edge ∷ seen))) (sym is) ∙ bytes);
}

-- the next edge is scanned
pub scans_one : (old new : Play) (edge : Edge) (shown : Shown) → new.console ≡ old.console → left_of old ≡ edge ∷ left_of new
    → ScansEdge old.scanner new.scanner edge shown → Goes old new (bytes_of shown)
scans_one old new edge shown same left scans = λ s seen at.
    let timed = subst (λ es. AreTimed (scanning.clock_of old.scanner) (clock_of old) es) left at.timed in
    let h : HasScanned new.scanner seen edge shown = scans seen timed.0 at.picture in
    record {
      turns = 0;
      edges = [];
      last = s;
      run = (refl, refl);
      scanned = edge ∷ [];
      kept = append-nil (left_of old) ∙ left;
      is_at = record {
        stands = subst (λ (c : Console). console.StandsFor c s) (sym same) at.stands;
        picture = h.stands;
        timed = subst (λ n. AreTimed n (clock_of new) (left_of new)) (sym h.clock)
            (subst (λ (c : Console). AreTimed edge.clock (console.clock_of c) (left_of new)) (sym same) timed.1);
      };
      records = h.records;
    }

-- Turns up to one with edges

any_run : (until n : ℕ) (s last : State PadHistory) (edges : List Edge) → Run (TurnBefore until) n s edges last → Run MachineTurn n s edges last
any_run until zero s last edges run = run
any_run until (suc n) s last edges (first, mid, rest, turn, run, cut) = (first, mid, rest, turn.1, any_run until n mid last rest run, cut)

-- they are made where no edge was left
pub goes_by_turns : (until : ℕ) (old new : Play) (edges : List Edge) → new.scanner ≡ old.scanner → left_of new ≡ edges → left_of old ≡ []
    → ((s : State PadHistory) → console.StandsFor old.console s → Reaches until s edges new.console) → Goes old new []
goes_by_turns until old new edges same left none reaches = λ s seen at.
    let there : Reaches until s edges new.console = reaches s at.stands in
    let before : scanning.clock_of old.scanner ≤ clock_of old = subst (λ es. AreTimed (scanning.clock_of old.scanner) (clock_of old) es) none
    at.timed in
    let from : scanning.clock_of old.scanner ≤ s.clock = subst (λ n. scanning.clock_of old.scanner ≤ n) (sym (at.stands).clock) before in
    let timed = timed_earlier s.clock (scanning.clock_of old.scanner) (there.last).clock edges from there.timed in
    record {
      turns = there.turns;
      edges = edges;
      last = there.last;
      run = any_run until there.turns s there.last edges there.run;
      scanned = [];
      kept = ap (λ es. es ++ edges) none ∙ sym left;
      is_at = record {
        stands = there.stands;
        picture = subst (λ scanner. scanning.StandsFor scanner seen) (sym same) at.picture;
        timed = subst (λ es. AreTimed (scanning.clock_of new.scanner) (clock_of new) es) (sym left)
            (subst (λ scanner. AreTimed (scanning.clock_of scanner) (clock_of new) edges) (sym same)
            (subst (λ n. AreTimed (scanning.clock_of old.scanner) n edges) (there.stands).clock timed));
      };
      records = sym (append-nil (records seen));
    }

pub has_turned : (until : ℕ) (old new : Play) (edges : List Edge) (stop : Option Why) → new.scanner ≡ old.scanner → left_of new ≡ edges
    → left_of old ≡ [] → length edges ≤ 4 → Advances until old.console new.console edges stop
    → AdvanceTakesTime until old.console new.console stop → HasTurned until old new stop
has_turned until old new edges None same left none few goes time = (
  goes_by_turns until old new edges same left none goes,
  time,
  subst (λ (es : List Edge). length es ≤ 4) (sym left) few,
)
has_turned until old new edges (Some why) same left none few goes time = (
  goes_by_turns until old new [] same (left ∙ goes.0) none goes.1,
  time.1,
  left ∙ goes.0,
  λ s seen at. (goes.2 s at.stands).no_turn,
)

-- Buttons that are held

pub holds_at : (old new : Play) (pad : Pad) (times : ℕ) → new.scanner ≡ old.scanner → left_of new ≡ left_of old
    → clock_of new ≡ clock_of old → ((s : State PadHistory) → console.StandsFor old.console s
    → latches s.space.pads.levels ≤ length s.space.pads.pairs → console.StandsFor new.console (holding_state pad times s))
    → (s : State PadHistory) (seen : List Edge) → IsAt old s seen → latches s.space.pads.levels ≤ length s.space.pads.pairs
    → IsAt new (holding_state pad times s) seen
holds_at old new pad times scanner left clock holds s seen at few = record {
  stands = holds s at.stands few;
  picture = subst (λ scanner. scanning.StandsFor scanner seen) (sym scanner) at.picture;
  timed = subst (λ es. AreTimed (scanning.clock_of new.scanner) (clock_of new) es) (sym left)
      (subst (λ n. AreTimed (scanning.clock_of new.scanner) n (left_of old)) (sym clock)
      (subst (λ scanner. AreTimed (scanning.clock_of scanner) (clock_of old) (left_of old)) (sym scanner) at.timed));
}

-- How much is ahead

pub nearer_by_edge : (until a b x y : ℕ) → b ≡ a → y < x → 5 * (until - b) + y < 5 * (until - a) + x
nearer_by_edge until a b x y e h = omega arith

pub nearer_by_turn : (until a b x y : ℕ) → a < b → a < until → y ≤ 4 → 5 * (until - b) + y < 5 * (until - a) + x
nearer_by_turn until a b x y h l few = omega arith

-- Records behind a list

pub put_again : (old out new bytes more : List ℕ) → out ≡ old ++ bytes → new ≡ out ++ more → new ≡ old ++ (bytes ++ more)
put_again old out new bytes more first next = next ∙ (ap (λ b. b ++ more) first ∙ append_assoc old bytes more)

-- A run that is listened to, edge by edge and page by page.
use Rattle.std.proofs.Common.{◌≡◌, ℕ, ◌+◌, ◌<◌, ◌≤◌, List, [], ◌∷◌, ◌++◌, length, take, drop, get_or, sym, ap, subst, ◌∙◌, append_assoc, arith}
use Rattle.std.proofs.lemmas.List.{drop_more, reverse-append, take_more}
use Rattle.uz_core.specs.declared.machine.Edge.{Edge}
use Rattle.uz_core.specs.PadLine.{PadHistory}
use Rattle.uz_core.specs.Turn.{State}
use Rattle.uz_core.specs.Run.{IsStoppedRun}
use Rattle.uz_core.specs.declared.step.Why.{Why}
use Rattle.uz_console.specs.declared.console.Console.{Console}
use Rattle.uz_console.specs.Consoles.{StandsFor}
use Rattle.uz_console.specs.Runs.{AreTimed, RunIsOver, RunsTo}
use Rattle.uz_console.specs.Turns.{Halts}
use Rattle.uz_console.proofs.RunLemmas.{begins}
use Rattle.uz_report.specs.declared.sound_file.Wave.{Wave}
use Rattle.uz_report.specs.Waves.{Holds}
use Rattle.uz_scan.specs.Pictures.{NeverFalls, newest_first}
use Rattle.uz_program_commands.specs.WaveValues.{IsHeard, IsHeardSoFar}
use Rattle.uz_program_commands.specs.declared.listening.Heard.TheVariants as heard

-- what is timed never falls
never_falls : (from to : ℕ) (edges : List Edge) → AreTimed from to edges → NeverFalls from edges
never_falls from to [] timed = tt
never_falls from to (e ∷ later) timed = (timed.0, never_falls e.clock to later timed.1)

timed_from : (low from to : ℕ) (edges : List Edge) → low ≤ from → AreTimed from to edges → AreTimed low to edges
timed_from low from to [] below timed = omega (arith, below, timed)
timed_from low from to (e ∷ later) below timed = (omega (arith, below, timed.0), timed.1)

pub page_never_falls : (low from to : ℕ) (edges : List Edge) → low ≤ from → AreTimed from to edges → NeverFalls low edges
page_never_falls low from to edges below timed = never_falls low to edges (timed_from low from to edges below timed)

pub page_comes_before : (low from to after : ℕ) (edges : List Edge) → low ≤ from → AreTimed from to edges
    → ((limit : ℕ) → AreTimed low limit edges → after ≤ limit) → after ≤ to
page_comes_before low from to after edges below timed heard = heard to (timed_from low from to edges below timed)

pub timed_more : (from to : ℕ) (edges : List Edge) (i : ℕ) (d : Edge) → i < length edges → AreTimed from to (drop i edges)
    → AreTimed (get_or edges i d).clock to (drop (i + 1) edges)
timed_more from to edges i d h timed = (subst (λ x. AreTimed from to x) (drop_more edges i d h) timed).1

-- one more edge of a page
pub one_edge_on : (before edges : List Edge) (i : ℕ) (d : Edge) → i < length edges → newest_first (before ++ take (i + 1) edges)
    ≡ get_or edges i d ∷ newest_first (before ++ take i edges)
one_edge_on before edges i d h =
    ap (λ x. newest_first (before ++ x)) (take_more edges i d h)
    ∙ (ap newest_first (sym (append_assoc before (take i edges) (get_or edges i d ∷ [])))
    ∙ reverse-append (before ++ take i edges) (get_or edges i d ∷ []))

-- one more page
pub page_is_heard : (limit : ℕ) (start : State PadHistory) (mid next : Console) (was is : Wave) (page : List Edge)
    → IsHeardSoFar limit start mid was
    → ((s : State PadHistory) (edges : List Edge) → RunsTo limit s edges mid → RunsTo limit s (edges ++ page) next)
    → ((before : List Edge) → Holds was (newest_first before) → Holds is (newest_first (before ++ page)))
    → IsHeardSoFar limit start next is
page_is_heard limit start mid next was is page (edges, run, holds) step hears =
    (edges ++ page, step start edges run, hears edges holds)

-- a console goes on to one that stands for a state too
pub page_stands : (limit : ℕ) (mid next : Console) (page : List Edge)
    → ((start : State PadHistory) (edges : List Edge) → RunsTo limit start edges mid → RunsTo limit start (edges ++ page) next)
    → (s : State PadHistory) × StandsFor mid s → (s : State PadHistory) × StandsFor next s
page_stands limit mid next page step (s, stands) =
    let there = step s [] (begins mid s limit stands) in (there.0, there.2)

-- the last page: the run is over, or it is stopped
pub over_is_heard : (limit : ℕ) (start : State PadHistory) (mid next : Console) (was is : Wave) (page : List Edge)
    → IsHeardSoFar limit start mid was
    → ((s : State PadHistory) (edges : List Edge) → RunsTo limit s edges mid → RunIsOver limit s (edges ++ page) next)
    → ((before : List Edge) → Holds was (newest_first before) → Holds is (newest_first (before ++ page)))
    → IsHeard limit start (heard.Over is)
over_is_heard limit start mid next was is page (edges, run, holds) step hears =
    let over = step start edges run in (edges ++ page, over.0, over.1, hears edges holds)

pub stop_is_heard : (limit : ℕ) (start : State PadHistory) (mid next : Console) (wave : Wave) (page : List Edge) (pc : ℕ) (why : Why)
    → IsHeardSoFar limit start mid wave
    → ((s : State PadHistory) (edges : List Edge) → RunsTo limit s edges mid → (last : State PadHistory)
    × IsStoppedRun limit s (edges ++ page) last × Halts last why × StandsFor next last)
    → ((s : State PadHistory) → StandsFor next s → pc ≡ s.core.pc)
    → IsHeard limit start (heard.Stopped pc why)
stop_is_heard limit start mid next wave page pc why (edges, run, holds) step at =
    let stop = step start edges run in (edges ++ page, stop.0, stop.1, stop.2, at stop.0 stop.3)

-- A run of so many clocks, a page of edges at a time.
use Rattle.std.proofs.Common.{◌≡◌, ℕ, ◌<◌, List, [], ◌++◌, append_assoc, append-nil, refl, sym, subst}
use Rattle.uz_core.specs.declared.machine.Edge.{Edge}
use Rattle.uz_core.specs.PadLine.{PadHistory}
use Rattle.uz_core.specs.Space.{history_wiring}
use Rattle.uz_core.specs.Turn.{State}
use Rattle.uz_core.specs.Turn as machine
use Rattle.uz_core.specs.Run.{edges_until}
use Rattle.uz_console.specs.declared.console.Console.{Console}
use Rattle.uz_console.specs.declared.paging.Paged.{Paged}
use Rattle.uz_console.specs.declared.paging.Paged.TheVariants as paging
use Rattle.uz_console.specs.Consoles.{StandsFor, clock_of}
use Rattle.uz_console.specs.Pages.{IsPage}
use Rattle.uz_console.specs.Runs.{RunsTo}
use Rattle.uz_console.proofs.RunLemmas.{goes_on}

-- no edge yet
pub page_begins : (limit : ℕ) (console : Console) (page : List Edge) → page ≡ [] → (start : State PadHistory) (edges : List Edge)
    → RunsTo limit start edges console → RunsTo limit start (edges ++ page) console
page_begins limit console page empty start edges run =
    subst (λ p. RunsTo limit start (edges ++ p) console) (sym empty)
    (subst (λ es. RunsTo limit start es console) (sym (append-nil edges)) run)

-- one more turn, whose edges in time the page has too
pub page_more : (limit : ℕ) (mid new : Console) (page all more : List Edge) →
    ((s : State PadHistory) → StandsFor mid s → (next : State PadHistory) × machine.Turn history_wiring s all next × StandsFor new next)
    → more ≡ page ++ edges_until limit all → clock_of mid < limit →
    (start : State PadHistory) (edges : List Edge) → RunsTo limit start (edges ++ page) mid → RunsTo limit start (edges ++ more) new
page_more limit mid new page all more turn e h start edges run =
    subst (λ p. RunsTo limit start (edges ++ p) new) (sym e)
    (subst (λ es. RunsTo limit start es new) (append_assoc edges page (edges_until limit all))
    (goes_on mid new limit all (edges_until limit all) turn refl h start (edges ++ page) run))

-- however a page ends, the run has its edges too
pub page_runs : (limit : ℕ) (old new : Console) (page : List Edge) (paged : Paged) → IsPage limit old new page paged
    → (start : State PadHistory) (edges : List Edge) → RunsTo limit start edges old → RunsTo limit start (edges ++ page) new
page_runs limit old new page paging.Full more = more
page_runs limit old new page paging.Over ends = λ start edges run. (let end = ends start edges run in (end.0, (end.1).part, end.2))
page_runs limit old new page (paging.Stopped why) ends = λ start edges run. (let end = ends start edges run in (end.0, (end.1).part, end.3))

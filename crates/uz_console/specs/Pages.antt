-- Runs of so many clocks, a page of edges at a time.
use Rattle.std.specs.Prelude.{ℕ, ◌+◌, ◌-◌, ◌*◌, ◌<◌, ◌≤◌, List, ◌++◌, length}
use Rattle.uz_core.specs.declared.machine.Edge.{Edge}
use Rattle.uz_core.specs.PadLine.{PadHistory}
use Rattle.uz_core.specs.Turn.{State}
use Rattle.uz_core.specs.Run.{IsStoppedRun}
use Rattle.uz_console.specs.declared.console.Console.{Console}
use Rattle.uz_console.specs.declared.paging.Paged.{Paged}
use Rattle.uz_console.specs.declared.paging.Paged.TheVariants.{Full, Over, Stopped}
use Rattle.uz_console.specs.Consoles.{StandsFor, clock_of}
use Rattle.uz_console.specs.Runs.{AreTimed, RunsTo, RunIsOver}
use Rattle.uz_console.specs.Turns.{Halts}

-- Full: more turns of each run of which the console is a part, and the page has their edges. Over, Stopped: with these that run is at
-- its end
abbrev pub IsPage : ℕ → Console → Console → List Edge → Paged → Type 0
IsPage limit old new page Full =
    (start : State PadHistory) (edges : List Edge) → RunsTo limit start edges old → RunsTo limit start (edges ++ page) new
IsPage limit old new page Over =
    (start : State PadHistory) (edges : List Edge) → RunsTo limit start edges old → RunIsOver limit start (edges ++ page) new
IsPage limit old new page (Stopped why) =
    (start : State PadHistory) (edges : List Edge) → RunsTo limit start edges old →
    (last : State PadHistory) × IsStoppedRun limit start (edges ++ page) last × Halts last why × StandsFor new last

-- a page of 64 edges ends where a turn's four may have no room
abbrev pub PageIsFull : List Edge → Paged → Type 0
PageIsFull page Full = 60 < length page
PageIsFull page Over = Unit {0}
PageIsFull page (Stopped why) = Unit {0}

-- a full page brings the clock nearer to the limit, and the clock never goes back
abbrev pub PageMovesOn : ℕ → Console → Console → Paged → Type 0
PageMovesOn limit old new Full = (clock_of old < clock_of new) × (clock_of old < limit)
PageMovesOn limit old new Over = clock_of old ≤ clock_of new
PageMovesOn limit old new (Stopped why) = clock_of old ≤ clock_of new

-- the edges of a page lie between the clocks before it and after it
abbrev pub IsTimedPage : Console → Console → List Edge → Type 0
IsTimedPage old new page = (s : State PadHistory) → StandsFor old s → AreTimed (clock_of old) (clock_of new) page

-- at most four edges a turn, each of which begins before the limit and takes a clock or more
abbrev pub HasFewEdges : ℕ → Console → Console → List Edge → Type 0
HasFewEdges limit old new page = (length page + 4 * clock_of old ≤ 4 * clock_of new) × (length page ≤ 4 * (limit - clock_of old))

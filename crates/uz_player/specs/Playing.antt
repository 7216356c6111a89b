-- What a player stands for: the run of so many clocks from a state, of which some records are handed out.
use Rattle.std.specs.Prelude.{◌≡◌, ℕ, ◌+◌, ◌-◌, ◌*◌, ◌<◌, ◌≤◌, List, [], ◌++◌, drop, length, Option, Some, None}
use Rattle.uz_hex.specs.Cells.{word_of}
use Rattle.uz_core.specs.declared.machine.Edge.{Edge}
use Rattle.uz_core.specs.PadLine.{PadHistory}
use Rattle.uz_core.specs.Turn.{State}
use Rattle.uz_core.specs.Run.{IsClockRun, IsRunPart, IsStoppedRun}
use Rattle.uz_schedule.specs.declared.certificate.Cert.{Cert}
use Rattle.uz_core.specs.declared.step.Why.{Why}
use Rattle.uz_console.specs.Consoles.{clock_of}
use Rattle.uz_console.specs.Runs.{AreTimed, RunsTo}
use Rattle.uz_console.specs.Turns.{Halts}
use Rattle.uz_console.specs.Approaches.{RunsUnentered}
use Rattle.uz_scan.specs.Pictures.{end_bytes, newest_first, records, row_bytes}
use Rattle.uz_scan.specs.Scanning as scanning
use Rattle.uz_player.specs.declared.counts.Counts.{Counts}
use Rattle.uz_player.specs.declared.recorder.Record.{Record}
use Rattle.uz_player.specs.declared.recorder.Record.TheVariants as record_is
use Rattle.uz_player.specs.Seen.{HasSeen, IsRowOf}
use Rattle.uz_schedule.specs.WellFormed.{WellFormed}
use Rattle.uz_player.specs.declared.player.Player.{Player}
use Rattle.uz_player.specs.declared.ending.Ending.{Ending}
use Rattle.uz_player.specs.Endings.{played_of}
use Rattle.uz_player.specs.declared.player.Played.{Played}
use Rattle.uz_player.specs.declared.player.Played.TheVariants.{Row, End, Over, Stopped}
use Rattle.uz_player.specs.Counting.{CountsEdges, EntersAt, IsEntered}

abbrev pub limit_of : Player → ℕ
limit_of player = player.limit

abbrev pub cert_of : Player → Cert
cert_of player = player.cert

abbrev pub counts_of : Player → Counts
counts_of player = player.recorder.counts

-- the edges of the last page that aren't taken yet
abbrev pub left_of : Player → List Edge
left_of player = drop player.next player.page.items

-- before a state has entered, and after
abbrev pub GoesOn : Player → Option (ℕ × ℕ) → State PadHistory → List Edge → Type 0
GoesOn player None start all = RunsUnentered player.cert player.limit start all player.console
GoesOn player (Some at) start all = RunsTo player.limit start all player.console × IsEntered player.cert player.limit start at.0 at.1

-- a player that has seen these edges of the run, and no more
pub record HasPlayed (player : Player) (start : State PadHistory) (edges : List Edge) : Type 0 where
  pub goes : GoesOn player player.recorder.counts.entered start (edges ++ left_of player)
  pub seen : HasSeen player.recorder edges
  pub timed : AreTimed (scanning.clock_of player.recorder.scanner) (clock_of player.console) (left_of player)
  pub few : length (edges ++ left_of player) ≤ 4 * clock_of player.console
  pub bounded : length (edges ++ left_of player) ≤ 4000000000
  pub fits : WellFormed player.cert

-- a player of a run from a state that has handed out these records of it
pub record Plays (player : Player) (start : State PadHistory) (handed : List ℕ) : Type 0 where
  pub edges : List Edge
  pub played : HasPlayed player start edges
  pub records : handed ≡ records (newest_first edges)

-- these are the first records of a part of the run from a state
pub record StartsRecords (limit : ℕ) (start : State PadHistory) (handed : List ℕ) : Type 0 where
  pub edges : List Edge
  pub last : State PadHistory
  pub part : IsRunPart limit start edges last
  pub more : List ℕ
  pub whole : records (newest_first edges) ≡ handed ++ more

-- the whole run is played: all its records are handed out, and its numbers are counted
pub record IsPlayed (player : Player) (start : State PadHistory) (handed : List ℕ) (edges : List Edge) : Type 0 where
  pub records : handed ≡ records (newest_first edges)
  pub counts : CountsEdges (counts_of player) edges
  pub entered : EntersAt (cert_of player) (limit_of player) start (counts_of player).entered
  pub plays : Plays player start handed

-- Row, End: the next record. Over, Stopped: all are handed out, and the run is over, or stopped there
abbrev pub IsNext : Player → Player → Played → Type 0
IsNext old new (Row bytes) = (start : State PadHistory) (handed : List ℕ) → Plays old start handed → Plays new start (handed ++ bytes)
IsNext old new (End bytes) = (start : State PadHistory) (handed : List ℕ) → Plays old start handed → Plays new start (handed ++ bytes)
IsNext old new Over =
    (start : State PadHistory) (handed : List ℕ) → Plays old start handed →
    (edges : List Edge) × (last : State PadHistory) × IsClockRun (limit_of new) start edges last × IsPlayed new start handed edges
IsNext old new (Stopped pc word) =
    (start : State PadHistory) (handed : List ℕ) → Plays old start handed →
    (edges : List Edge) × (last : State PadHistory) × IsStoppedRun (limit_of new) start edges last × ((why : Why) × Halts last why) ×
    (pc ≡ last.core.pc) × (word ≡ word_of last.image last.core.pc) × IsPlayed new start handed edges

-- Row, End: the next record. None: no edge is left
abbrev pub IsRecordOf : Player → Player → Option Record → Type 0
IsRecordOf old new None = (start : State PadHistory) (handed : List ℕ) → Plays old start handed → Plays new start handed
    × (left_of new ≡ [])
IsRecordOf old new (Some (record_is.Row line)) =
    (start : State PadHistory) (handed row : List ℕ) → Plays old start handed → IsRowOf new.recorder row → Plays new start
    (handed ++ row_bytes line row)
IsRecordOf old new (Some (record_is.End frame)) = (start : State PadHistory) (handed : List ℕ) → Plays old start handed → Plays new start
    (handed ++ end_bytes frame)

-- where no edge is left: None, the run goes on; else it is at its end
abbrev pub GoesFurther : Player → Player → Option Ending → Type 0
GoesFurther old new None = (start : State PadHistory) (handed : List ℕ) → left_of old ≡ [] → Plays old start handed → Plays new start handed
GoesFurther old new (Some at) = left_of old ≡ [] → IsNext old new (played_of at)

-- the player with the edges of a turn
abbrev pub HasTurn : List Edge → Player → Player → Type 0
HasTurn edges old new =
    (new.page.items ≡ edges) × (new.next ≡ 0) × (length edges ≤ 4) ×
    (new.console ≡ old.console) × (new.cert ≡ old.cert) × (new.limit ≡ old.limit) × (new.recorder ≡ old.recorder)

-- how far it is to the end of the run
abbrev pub left_to_enter : Option (ℕ × ℕ) → ℕ
left_to_enter None = 1
left_to_enter (Some at) = 0

abbrev pub distance_of : Player → ℕ
distance_of player = 2 * (player.limit - clock_of player.console) + left_to_enter player.recorder.counts.entered

-- how much of the run is ahead: a turn, which has at most four edges, takes a clock and more, and each edge is taken once
abbrev pub ahead_of : Player → ℕ
ahead_of player = 5 * (player.limit - clock_of player.console) + length (left_of player)

-- Row, End: there is less ahead than before, so that records come to an end
abbrev pub IsNearer : Player → Player → Played → Type 0
IsNearer old new (Row bytes) = ahead_of new < ahead_of old
IsNearer old new (End bytes) = ahead_of new < ahead_of old
IsNearer old new Over = Unit {0}
IsNearer old new (Stopped pc word) = Unit {0}

-- Some: an edge was taken. None: there is no more ahead than before
abbrev pub IsNearerBy : Player → Player → Option Record → Type 0
IsNearerBy old new None = (ahead_of new ≤ ahead_of old) × (left_of new ≡ [])
IsNearerBy old new (Some given) = ahead_of new < ahead_of old

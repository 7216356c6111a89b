-- A run that is played: the records of the picture of its edges are written to a file, and two lines tell the first state that meets
-- the certificate's entry condition, and the numbers of the run.
use Rattle.std.specs.Prelude.{◌≡◌, ◌⊎◌, ℕ, ◌<◌, List, [], ◌∷◌, ◌++◌, codes, decimal}
use Rattle.uz_hex.specs.Cells.{word_of}
use Rattle.uz_schedule.specs.declared.certificate.Cert.{Cert}
use Rattle.uz_core.specs.declared.step.Why.{Why}
use Rattle.uz_core.specs.declared.machine.Edge.{Edge}
use Rattle.uz_core.specs.PadLine.{PadHistory}
use Rattle.uz_core.specs.Turn.{State}
use Rattle.uz_core.specs.Run.{IsClockRun, IsRunPart, IsStoppedRun, Run, TurnBefore}
use Rattle.uz_console.specs.Approaches.{EntersFirst, NeverEnters}
use Rattle.uz_console.specs.Entry.{EntryCondition}
use Rattle.uz_console.specs.Turns.{Halts}
use Rattle.uz_scan.specs.Pictures.{end_records, newest_first, records, row_records}
use Rattle.uz_player.specs.Counting.{IsInLine, count_of, is_pixel, is_sound, is_sync}
use Rattle.uz_files.specs.declared.status.Status.{Status}
use Rattle.uz_files.specs.declared.status.Status.TheVariants.{Done, NotEntered, Stopped, Unwritten}
use Rattle.uz_files.specs.Answers.{Answer, Write}
use Rattle.uz_files.specs.StopLines.{stopped_at_line}

-- Lines

-- the clock and the line of the first state that meets the entry condition
abbrev pub entered_line : ℕ → ℕ → List ℕ
entered_line clock line = codes "entered clock " ++ decimal clock ++ codes " line " ++ decimal line ++ codes "\n"

abbrev pub edge_numbers : ℕ → ℕ → ℕ → List ℕ
edge_numbers sync pixels sounds = codes " sync " ++ decimal sync ++ codes " pixels " ++ decimal pixels ++ codes " sounds " ++ decimal sounds
    ++ codes "\n"

abbrev pub numbers_line : ℕ → ℕ → ℕ → ℕ → ℕ → List ℕ
numbers_line frames rows sync pixels sounds =
    codes "frames " ++ decimal frames ++ codes " rows " ++ decimal rows ++ edge_numbers sync pixels sounds

-- how many records of frames' ends and of rows these edges have, and how many of them are sync, pixels and sounds
abbrev pub numbers_of : List Edge → List ℕ
numbers_of edges =
    let history = newest_first edges in
    numbers_line (end_records history) (row_records history) (count_of is_sync history) (count_of is_pixel history)
    (count_of is_sound history)

abbrev pub not_entered_line : List ℕ
not_entered_line = codes "not entered\n"

-- Answers

-- the file of frames has the records of these edges; one text is printed
abbrev pub frames_file : List ℕ → List Edge → Write
frames_file name edges = record { name = name; bytes = records (newest_first edges) }

abbrev pub framed : List ℕ → List Edge → Status → List ℕ → Answer
framed frames edges status line = record { writes = frames_file frames edges ∷ []; printed = []; status = status; line = line }

-- the run of so many clocks is over, and this is the first state of it that meets the entry condition
pub record IsEnteredRun (frames : List ℕ) (certificate : Cert) (clocks : ℕ) (start : State PadHistory) (answer : Answer) : Type 0 where
  pub edges : List Edge
  pub last : State PadHistory
  pub run : IsClockRun clocks start edges last
  pub clock : ℕ
  pub position : ℕ
  pub line : ℕ
  pub enters : EntersFirst certificate clocks start clock position
  pub in_line : IsInLine certificate.schedule position line
  pub told : answer ≡ framed frames edges Done (entered_line clock line ++ numbers_of edges)

-- it is over, and no state meets it
pub record IsUnenteredRun (frames : List ℕ) (certificate : Cert) (clocks : ℕ) (start : State PadHistory) (answer : Answer) : Type 0 where
  pub edges : List Edge
  pub last : State PadHistory
  pub run : IsClockRun clocks start edges last
  pub never : NeverEnters certificate clocks start
  pub told : answer ≡ framed frames edges NotEntered not_entered_line

-- it is stopped
pub record IsHaltedRun (frames : List ℕ) (clocks : ℕ) (start : State PadHistory) (answer : Answer) : Type 0 where
  pub edges : List Edge
  pub last : State PadHistory
  pub run : IsStoppedRun clocks start edges last
  pub halts : (why : Why) × Halts last why
  pub told : answer ≡ framed frames edges Stopped (stopped_at_line last.core.pc (word_of last.image last.core.pc))

abbrev pub IsFramedRun : List ℕ → Cert → ℕ → State PadHistory → Answer → Type 0
IsFramedRun frames certificate clocks start answer =
    IsEnteredRun frames certificate clocks start answer ⊎ (IsUnenteredRun frames certificate clocks start answer ⊎ IsHaltedRun frames clocks
    start answer)

-- a part of the run: the records of its edges; the status of a part is never asked
pub record IsFramedPart (frames : List ℕ) (clocks : ℕ) (start : State PadHistory) (answer : Answer) : Type 0 where
  pub edges : List Edge
  pub last : State PadHistory
  pub run : IsRunPart clocks start edges last
  pub told : answer ≡ framed frames edges Unwritten []

-- a state of a run of so many clocks meets the entry condition
pub record Enters (certificate : Cert) (clocks : ℕ) (start : State PadHistory) : Type 0 where
  pub turns : ℕ
  pub edges : List Edge
  pub state : State PadHistory
  pub run : Run (TurnBefore clocks) turns start edges state
  pub in_run : state.clock < clocks
  pub position : ℕ
  pub meets : EntryCondition certificate state position

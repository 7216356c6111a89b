-- What a run leaves in a file, and what it counts.
use Rattle.std.specs.Prelude.{◌≡◌, ◌⊎◌, ℕ, List, Option, take}
use Rattle.uz_hex.specs.Cells.{word_of}
use Rattle.uz_core.specs.declared.machine.Edge.{Edge}
use Rattle.uz_core.specs.PadLine.{PadHistory}
use Rattle.uz_core.specs.Turn.{State}
use Rattle.uz_core.specs.Run.{IsClockRun, IsRunPart, IsStoppedRun}
use Rattle.uz_core.specs.declared.step.Why.{Why}
use Rattle.uz_schedule.specs.declared.certificate.Cert.{Cert}
use Rattle.uz_console.specs.Turns.{Halts}
use Rattle.uz_scan.specs.Pictures.{newest_first, records}
use Rattle.uz_player.specs.declared.counts.Counts.{Counts}
use Rattle.uz_player.specs.Counting.{CountsEdges, EntersAt}
use Rattle.uz_shelf.specs.Files.{FileMap, WritesFile}
use Rattle.uz_player.specs.declared.recording.Captured.{Captured}
use Rattle.uz_player.specs.declared.recording.RunEnd.{RunEnd}
use Rattle.uz_player.specs.declared.recording.RunEnd.TheVariants.{Over, Stopped}

-- the file holds just the records of a run's edges, and these are the run's numbers
pub record IsWhole (cert : Cert) (limit : ℕ) (start : State PadHistory) (edges : List Edge) (counts : Counts) (old : Option FileMap)
    (name : List ℕ) (new : Option FileMap) : Type 0 where
  pub file : WritesFile old name (records (newest_first edges)) new
  pub counted : CountsEdges counts edges
  pub entered : EntersAt cert limit start counts.entered

-- the run of so many clocks from a state is over, or it is stopped there; and the file and the numbers are the whole run's
abbrev pub IsPlayedInto : Cert → ℕ → State PadHistory → RunEnd → Counts → Option FileMap → List ℕ → Option FileMap → Type 0
IsPlayedInto cert limit start Over counts old name new =
    (edges : List Edge) × (last : State PadHistory) × IsClockRun limit start edges last × IsWhole cert limit start edges counts old name new
IsPlayedInto cert limit start (Stopped pc word) counts old name new =
    (edges : List Edge) × (last : State PadHistory) × IsStoppedRun limit start edges last × ((why : Why) × Halts last why) ×
    (pc ≡ last.core.pc) × (word ≡ word_of last.image last.core.pc) × IsWhole cert limit start edges counts old name new

abbrev pub IsCaptured : Cert → ℕ → State PadHistory → Captured → Option FileMap → List ℕ → Option FileMap → Type 0
IsCaptured cert limit start captured old name new = IsPlayedInto cert limit start captured.end captured.counts old name new

-- the file holds a prefix of the records of a part of the run
pub record HoldsPart (limit : ℕ) (start : State PadHistory) (old : Option FileMap) (name : List ℕ) (new : Option FileMap) : Type 0 where
  pub edges : List Edge
  pub last : State PadHistory
  pub part : IsRunPart limit start edges last
  pub count : ℕ
  pub file : WritesFile old name (take count (records (newest_first edges))) new

-- it was cut short: the file is as it was, or it holds so much
abbrev pub IsCapturePart : ℕ → State PadHistory → Option FileMap → List ℕ → Option FileMap → Type 0
IsCapturePart limit start old name new = (new ≡ old) ⊎ HoldsPart limit start old name new

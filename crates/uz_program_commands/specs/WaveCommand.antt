-- `wave HEX PADS IRQ CLOCKS WAV`: both files are read in their order, and then the machine runs from reset. Once the run of so many
-- clocks is over, its sound is written, one sample a line, and a line tells how many samples there are. A run that is stopped
-- writes no file.
use Rattle.std.specs.Prelude.{◌≡◌, ◌⊎◌, ℕ, List, ◌++◌, codes, decimal, length, Option}
use Rattle.uz_shelf.specs.Files.{FileMap, HoldsFile}
use Rattle.uz_hex.specs.Reading.{Flash}
use Rattle.uz_hex.specs.HexText.{IsHexOf}
use Rattle.uz_schedule.specs.declared.kinds.Response.{Response}
use Rattle.uz_pads.specs.declared.pads.Pad.{Pad}
use Rattle.uz_core.specs.declared.step.Why.{Why}
use Rattle.uz_core.specs.declared.machine.Edge.{Edge}
use Rattle.uz_core.specs.PadLine.{PadHistory}
use Rattle.uz_core.specs.Turn.{State}
use Rattle.uz_core.specs.Run.{IsClockRun, IsStoppedRun}
use Rattle.uz_console.specs.Turns.{Halts}
use Rattle.uz_report.specs.Waves.{samples_of, wave_of}
use Rattle.uz_files.specs.declared.status.Status.TheVariants.{Stopped}
use Rattle.uz_files.specs.Answers.{Answer, Write, one_line}
use Rattle.uz_files.specs.Writing.{written_then}
use Rattle.uz_files.specs.Reading.{Says, text_limit}
use Rattle.uz_files.specs.Formats.{SpellsPads}
use Rattle.uz_files.specs.RunFiles.{RunAnswers, start_of}
use Rattle.uz_files.specs.StopLines.{stopped_line}

-- how many samples there are
abbrev pub count_line : List ℕ → List ℕ
count_line samples = codes "samples " ++ decimal (length samples) ++ codes "\n"

-- the sound of a run's edges, before its first frame too
abbrev pub wave_file : List ℕ → List Edge → Write
wave_file name edges = record { name = name; bytes = wave_of edges }

-- the run from this state is over after so many clocks
pub record IsHeardWhole (clocks : ℕ) (wav : List ℕ) (start : State PadHistory) (answer : Answer) : Type 0 where
  pub edges : List Edge
  pub last : State PadHistory
  pub run : IsClockRun clocks start edges last
  pub told : answer ≡ written_then (wave_file wav edges) (count_line (samples_of edges))

-- it is stopped before
pub record IsHeardStopped (clocks : ℕ) (start : State PadHistory) (answer : Answer) : Type 0 where
  pub edges : List Edge
  pub last : State PadHistory
  pub why : Why
  pub run : IsStoppedRun clocks start edges last
  pub halts : Halts last why
  pub told : answer ≡ one_line Stopped (stopped_line last.core.pc why)

abbrev pub IsHeardRun : ℕ → List ℕ → State PadHistory → Answer → Type 0
IsHeardRun clocks wav start answer = IsHeardWhole clocks wav start answer ⊎ IsHeardStopped clocks start answer

abbrev pub WaveAnswers : Option FileMap → Type 0 → List ℕ → List ℕ → Response → ℕ → List ℕ → Answer → Type 0
WaveAnswers files load_fault hex pads irq clocks wav = RunAnswers (IsHeardRun clocks wav) files load_fault hex pads irq

-- What a `wave` that is done is worth: the file holds the sound of the edges of the run of so many clocks from reset, with the image
-- and the pads that two files spell
pub record FilesHeard (before after : Option FileMap) (hex pads : List ℕ) (irq : Response) (clocks : ℕ) (wav : List ℕ) : Type 0 where
  pub image : Flash
  pub list : List Pad
  pub spelled_image : Says before hex text_limit IsHexOf image
  pub spelled_pads : Says before pads text_limit SpellsPads list
  pub edges : List Edge
  pub last : State PadHistory
  pub run : IsClockRun clocks (start_of image list irq) edges last
  pub holds : HoldsFile after wav (wave_of edges)

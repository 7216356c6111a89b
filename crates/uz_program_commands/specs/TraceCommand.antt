-- `trace HEX PADS IRQ CLOCKS`: both files are read in their order, and then the machine runs from reset. A line is printed
-- for each edge of the run of so many clocks, and one for its end.
use Rattle.std.specs.Prelude.{◌≡◌, ◌⊎◌, ℕ, List, [], ◌∷◌, ◌++◌, codes, decimal, Option}
use Rattle.uz_shelf.specs.Files.{FileMap}
use Rattle.uz_hex.specs.Reading.{Flash}
use Rattle.uz_schedule.specs.declared.kinds.Response.{Response}
use Rattle.uz_pads.specs.declared.pads.Pad.{Pad}
use Rattle.uz_core.specs.declared.step.Why.{Why}
use Rattle.uz_core.specs.declared.machine.Edge.{Edge}
use Rattle.uz_core.specs.declared.machine.EdgeKind.{EdgeKind}
use Rattle.uz_core.specs.declared.machine.EdgeKind.TheVariants.{Sync, Pixel, Sound, Enter, Leave}
use Rattle.uz_core.specs.PadLine.{PadHistory}
use Rattle.uz_core.specs.Turn.{State}
use Rattle.uz_core.specs.Run.{IsClockRun, IsRunPart, IsStoppedRun}
use Rattle.uz_console.specs.Turns.{Halts}
use Rattle.uz_files.specs.declared.status.Status.TheVariants.{Done, Stopped, Unwritten}
use Rattle.uz_files.specs.Answers.{Answer, ended}
use Rattle.uz_files.specs.Reading.{Says, text_limit}
use Rattle.uz_hex.specs.HexText.{IsHexOf}
use Rattle.uz_files.specs.Formats.{SpellsPads}
use Rattle.uz_files.specs.RunFiles.{RunAnswers, start_of}
use Rattle.uz_files.specs.StopLines.{stopped_line}

abbrev pub kind_text : EdgeKind → List ℕ
kind_text (Sync level) = codes "sync " ++ decimal level
kind_text (Pixel value) = codes "pixel " ++ decimal value
kind_text (Sound value) = codes "sound " ++ decimal value
kind_text (Enter phase) = codes "enter " ++ decimal phase
kind_text Leave = codes "leave"

-- an edge's clock, counted from reset, and what it is
abbrev pub edge_line : Edge → List ℕ
edge_line edge = decimal edge.clock ++ codes " " ++ kind_text edge.kind ++ codes "\n"

abbrev pub edge_lines : List Edge → List ℕ
edge_lines [] = []
edge_lines (edge ∷ edges) = edge_line edge ++ edge_lines edges

abbrev pub end_line : ℕ → List ℕ
end_line clocks = codes "end " ++ decimal clocks ++ codes "\n"

-- the run from this state is over after so many clocks
pub record IsTraced (clocks : ℕ) (start : State PadHistory) (answer : Answer) : Type 0 where
  pub edges : List Edge
  pub last : State PadHistory
  pub run : IsClockRun clocks start edges last
  pub printed : answer ≡ ended (edge_lines edges) Done (end_line clocks)

-- it is stopped before
pub record IsStopped (clocks : ℕ) (start : State PadHistory) (answer : Answer) : Type 0 where
  pub edges : List Edge
  pub last : State PadHistory
  pub why : Why
  pub run : IsStoppedRun clocks start edges last
  pub halts : Halts last why
  pub printed : answer ≡ ended (edge_lines edges) Stopped (stopped_line last.core.pc why)

abbrev pub IsTrace : ℕ → State PadHistory → Answer → Type 0
IsTrace clocks start answer = IsTraced clocks start answer ⊎ IsStopped clocks start answer

-- the lines of a part of the run; the status of a part is never asked
pub record IsTracePart (clocks : ℕ) (start : State PadHistory) (answer : Answer) : Type 0 where
  pub edges : List Edge
  pub last : State PadHistory
  pub run : IsRunPart clocks start edges last
  pub printed : answer ≡ ended (edge_lines edges) Unwritten []

abbrev pub TraceAnswers : Option FileMap → Type 0 → List ℕ → List ℕ → Response → ℕ → Answer → Type 0
TraceAnswers files load_fault hex pads irq clocks = RunAnswers (IsTrace clocks) files load_fault hex pads irq

-- where the trace is cut short in the midst of the run: the lines of a part of it
pub record TraceParts (files : Option FileMap) (hex pads : List ℕ) (irq : Response) (clocks : ℕ) (answer : Answer) : Type 0 where
  pub image : Flash
  pub list : List Pad
  pub spelled_image : Says files hex text_limit IsHexOf image
  pub spelled_pads : Says files pads text_limit SpellsPads list
  pub part : IsTracePart clocks (start_of image list irq) answer

-- An image's file and a pad file, read in their order, and the run from reset that they give.
use Rattle.std.specs.Prelude.{◌⊎◌, ℕ, List, [], Option}
use Rattle.uz_shelf.specs.Files.{FileMap, LacksFile}
use Rattle.uz_hex.specs.Reading.{Flash}
use Rattle.uz_hex.specs.HexText.{IsHexOf}
use Rattle.uz_schedule.specs.Schedule.{response_clocks}
use Rattle.uz_schedule.specs.declared.kinds.Response.{Response}
use Rattle.uz_pads.specs.Pads.{pairs_of}
use Rattle.uz_pads.specs.declared.pads.Pad.{Pad}
use Rattle.uz_core.specs.declared.machine.Edge.{Edge}
use Rattle.uz_core.specs.PadLine.{PadHistory}
use Rattle.uz_core.specs.Turn.{State, history_at_reset, state_at_reset}
use Rattle.uz_core.specs.Run.{IsClockRun}
use Rattle.uz_console.specs.declared.console.Console.{Console}
use Rattle.uz_console.specs.Runs.{RunsTo}
use Rattle.uz_files.specs.Answers.{Answer}
use Rattle.uz_files.specs.Reading.{Fails, Reads, Says, text_limit}
use Rattle.uz_files.specs.Formats.{RefusesHex, RefusesPads, SpellsPads}

-- the machine at reset, with these pairs of pad words and this response
abbrev pub start_of : Flash → List Pad → Response → State PadHistory
start_of image pads irq = state_at_reset image (history_at_reset (pairs_of pads)) (response_clocks irq)

-- once the image is read
abbrev pub RunAnswersFor : (State PadHistory → Answer → Type 0) → Option FileMap → Type 0 → List ℕ → Response → Flash → Answer → Type 0
RunAnswersFor runs files load_fault pads irq image = Reads files load_fault pads text_limit SpellsPads RefusesPads
    (λ list. runs (start_of image list irq))

-- both files are read, and the run from reset leads on to the answer; or a file ends the command
abbrev pub RunAnswers : (State PadHistory → Answer → Type 0) → Option FileMap → Type 0 → List ℕ → List ℕ → Response → Answer → Type 0
RunAnswers runs files load_fault hex pads irq =
    Reads files load_fault hex text_limit IsHexOf RefusesHex (RunAnswersFor runs files load_fault pads irq)

-- a file ends the command, and the one before it is read
abbrev pub RunPreface : Option FileMap → Type 0 → List ℕ → List ℕ → Answer → Type 0
RunPreface files load_fault hex pads answer =
    Fails files load_fault hex text_limit RefusesHex answer
    ⊎ ((image : Flash) × Says files hex text_limit IsHexOf image × Fails files load_fault pads text_limit RefusesPads answer)

-- a file that is read isn't there, and the one before it is read
abbrev pub RunLacks : Option FileMap → List ℕ → List ℕ → Type 0
RunLacks files hex pads =
    LacksFile files hex ⊎ ((image : Flash) × Says files hex text_limit IsHexOf image × LacksFile files pads)

-- both files are within their limits and grammars, and the run of so many clocks isn't stopped
pub record RunSucceeds (files : Option FileMap) (hex pads : List ℕ) (irq : Response) (clocks : ℕ) : Type 0 where
  pub image : Flash
  pub list : List Pad
  pub spelled_image : Says files hex text_limit IsHexOf image
  pub spelled_pads : Says files pads text_limit SpellsPads list
  pub edges : List Edge
  pub last : State PadHistory
  pub run : IsClockRun clocks (start_of image list irq) edges last

-- the console is at reset with what the two files say
pub record StartsRun (files : Option FileMap) (hex pads : List ℕ) (irq : Response) (console : Console) : Type 0 where
  pub image : Flash
  pub list : List Pad
  pub spelled_image : Says files hex text_limit IsHexOf image
  pub spelled_pads : Says files pads text_limit SpellsPads list
  pub run : (limit : ℕ) → RunsTo limit (start_of image list irq) [] console

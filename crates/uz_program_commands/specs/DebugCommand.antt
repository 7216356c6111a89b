-- `debug HEX PADS IRQ SCRIPT`: the three files are read in their order, and then the commands of the script are done from reset.
-- Their lines are printed.
use Rattle.std.specs.Prelude.{◌≡◌, ◌⊎◌, ℕ, List, [], Option}
use Rattle.uz_shelf.specs.Files.{FileMap, LacksFile}
use Rattle.uz_hex.specs.Reading.{Flash}
use Rattle.uz_schedule.specs.declared.kinds.Response.{Response}
use Rattle.uz_pads.specs.declared.pads.Pad.{Pad}
use Rattle.uz_core.specs.PadLine.{PadHistory}
use Rattle.uz_core.specs.Turn.{State}
use Rattle.uz_debug.specs.declared.command.Command.{Command}
use Rattle.uz_debug.specs.declared.debugger.Debugger.{Debugger}
use Rattle.uz_debug.specs.Debuggers.{Debugs}
use Rattle.uz_debug.specs.SessionText.{Prints}
use Rattle.uz_debug.specs.Sessions.{Session, session_at_reset}
use Rattle.uz_files.specs.declared.status.Status.TheVariants.{Done}
use Rattle.uz_files.specs.Answers.{Answer, one_line}
use Rattle.uz_files.specs.Reading.{Reads, Says, text_limit}
use Rattle.uz_program_commands.specs.ScriptFile.{RefusesScript, SpellsScript}
use Rattle.uz_files.specs.RunFiles.{start_of}
use Rattle.uz_hex.specs.HexText.{IsHexOf}
use Rattle.uz_files.specs.Formats.{RefusesHex, RefusesPads, SpellsPads}

-- the commands are done from reset, and these are their lines
pub record IsDebugged (start : State PadHistory) (commands : List Command) (answer : Answer) : Type 0 where
  pub text : List ℕ
  pub last : Session
  pub prints : Prints start session_at_reset commands text last
  pub printed : answer ≡ one_line Done text

-- once all files are read
abbrev pub IsDebuggedOf : Response → Flash → List Pad → List Command → Answer → Type 0
IsDebuggedOf irq image pads = IsDebugged (start_of image pads irq)

-- once the pads are read
abbrev pub DebugAnswersWith : Option FileMap → Type 0 → Response → List ℕ → Flash → List Pad → Answer → Type 0
DebugAnswersWith files load_fault irq script image pads = Reads files load_fault script text_limit SpellsScript RefusesScript
    (IsDebuggedOf irq image pads)

-- once the image is read
abbrev pub DebugAnswersFor : Option FileMap → Type 0 → List ℕ → Response → List ℕ → Flash → Answer → Type 0
DebugAnswersFor files load_fault pads irq script image = Reads files load_fault pads text_limit SpellsPads RefusesPads
    (DebugAnswersWith files load_fault irq script image)

abbrev pub DebugAnswers : Option FileMap → Type 0 → List ℕ → List ℕ → Response → List ℕ → Answer → Type 0
DebugAnswers files load_fault hex pads irq script =
    Reads files load_fault hex text_limit IsHexOf RefusesHex (DebugAnswersFor files load_fault pads irq script)

-- a file that is read isn't there, and the ones before it are read
abbrev pub DebugLacks : Option FileMap → List ℕ → List ℕ → List ℕ → Type 0
DebugLacks files hex pads script =
    LacksFile files hex
    ⊎ (((image : Flash) × Says files hex text_limit IsHexOf image × LacksFile files pads)
    ⊎ ((image : Flash) × (list : List Pad) × Says files hex text_limit IsHexOf image × Says files pads text_limit SpellsPads list
    × LacksFile files script))

-- the three files are within their limits and grammars
pub record DebugSucceeds (files : Option FileMap) (hex pads script : List ℕ) : Type 0 where
  pub image : Flash
  pub list : List Pad
  pub commands : List Command
  pub spelled_image : Says files hex text_limit IsHexOf image
  pub spelled_pads : Says files pads text_limit SpellsPads list
  pub spelled_script : Says files script text_limit SpellsScript commands

-- the debugger is at reset with what two files say
pub record StartsDebug (files : Option FileMap) (hex pads : List ℕ) (irq : Response) (debugger : Debugger) : Type 0 where
  pub image : Flash
  pub list : List Pad
  pub spelled_image : Says files hex text_limit IsHexOf image
  pub spelled_pads : Says files pads text_limit SpellsPads list
  pub debugs : Debugs (start_of image list irq) [] debugger

-- The values of the code that listen to a run.
use Rattle.std.specs.Prelude.{◌≡◌, ℕ, List, Option}
use Rattle.uz_shelf.specs.Files.{FileMap}
use Rattle.uz_hex.specs.Reading.{Flash}
use Rattle.uz_hex.specs.HexText.{IsHexOf}
use Rattle.uz_schedule.specs.declared.kinds.Response.{Response}
use Rattle.uz_pads.specs.declared.pads.Pad.{Pad}
use Rattle.uz_core.specs.declared.machine.Edge.{Edge}
use Rattle.uz_core.specs.PadLine.{PadHistory}
use Rattle.uz_core.specs.Turn.{State}
use Rattle.uz_core.specs.Run.{IsClockRun, IsStoppedRun}
use Rattle.uz_console.specs.declared.console.Console.{Console}
use Rattle.uz_console.specs.Runs.{RunsTo}
use Rattle.uz_console.specs.Turns.{Halts}
use Rattle.uz_report.specs.declared.sound_file.Wave.{Wave}
use Rattle.uz_report.specs.Waves.{Holds, samples_of}
use Rattle.uz_scan.specs.Pictures.{newest_first}
use Rattle.uz_files.specs.Endings.{answer_of}
use Rattle.uz_files.specs.Reading.{Says, text_limit}
use Rattle.uz_files.specs.Formats.{SpellsPads}
use Rattle.uz_files.specs.RunFiles.{start_of}
use Rattle.uz_program_commands.specs.declared.listening.Heard.{Heard}
use Rattle.uz_program_commands.specs.declared.listening.Heard.TheVariants.{Over, Stopped}
use Rattle.uz_program_commands.specs.declared.wave_command.Task.{Task}
use Rattle.uz_program_commands.specs.declared.wave_command.Task.TheVariants.{Write, Stop}
use Rattle.uz_program_commands.specs.WaveCommand.{IsHeardStopped, count_line}

-- the console has come so far, and these are the samples of that part
abbrev pub IsHeardSoFar : ℕ → State PadHistory → Console → Wave → Type 0
IsHeardSoFar limit start console wave = (edges : List Edge) × RunsTo limit start edges console × Holds wave (newest_first edges)

-- the whole run from this state is heard, or it is stopped
abbrev pub IsHeard : ℕ → State PadHistory → Heard → Type 0
IsHeard limit start (Over wave) =
    (edges : List Edge) × (last : State PadHistory) × IsClockRun limit start edges last × Holds wave (newest_first edges)
IsHeard limit start (Stopped pc why) =
    (edges : List Edge) × (last : State PadHistory) × IsStoppedRun limit start edges last × Halts last why × (pc ≡ last.core.pc)

-- what it leaves to do
abbrev pub IsTaskOf : ℕ → State PadHistory → Task → Type 0
IsTaskOf clocks start (Write wave line) =
    (edges : List Edge) × (last : State PadHistory) × IsClockRun clocks start edges last × Holds wave (newest_first edges)
    × (line.items ≡ count_line (samples_of edges))
IsTaskOf clocks start (Stop ending) = IsHeardStopped clocks start (answer_of ending)

-- of the run from reset with what these files say
pub record IsTask (files : Option FileMap) (hex pads : List ℕ) (irq : Response) (clocks : ℕ) (task : Task) : Type 0 where
  pub image : Flash
  pub list : List Pad
  pub spelled_image : Says files hex text_limit IsHexOf image
  pub spelled_pads : Says files pads text_limit SpellsPads list
  pub of : IsTaskOf clocks (start_of image list irq) task

-- The values of the code that make a demo.
use Rattle.std.specs.Prelude.{◌≡◌, ℕ, List, [], Ok, Err, Option, Some, None}
use Rattle.uz_hex.specs.Reading.{Flash}
use Rattle.avr_asm.specs.Assembly.{Output}
use Rattle.avr_asm.specs.declared.output.Hint.{Hint as SourceHint}
use Rattle.uz_schedule.specs.declared.certificate.Cert.{Cert}
use Rattle.uz_schedule.specs.declared.kinds.Response.TheVariants.{Four}
use Rattle.uz_core.specs.PadLine.{PadHistory}
use Rattle.uz_core.specs.StateRange.{IsState}
use Rattle.uz_core.specs.Turn.{State}
use Rattle.uz_console.specs.Consoles.{StandsFor}
use Rattle.uz_console.specs.declared.console.Console.{Console}
use Rattle.uz_search.specs.declared.found.NotFound.{NotFound}
use Rattle.uz_certificate_commands.specs.SearchLines.{Allowed, not_found_line}
use Rattle.uz_certificate_commands.specs.VerdictLines.{accepted_line}
use Rattle.uz_certificate_commands.specs.declared.demo_start.Start.{Start}
use Rattle.uz_certificate_commands.specs.declared.demo_start.Start.TheVariants.{Ready, Refusal}
use Rattle.uz_certificate_commands.specs.DemoCommand.{Assembles, demo_clocks, demo_start}
use Rattle.uz_player.specs.Captures.{IsPlayedInto}
use Rattle.uz_player.specs.declared.recording.RunEnd.{RunEnd}
use Rattle.uz_files.specs.Answers.{Answer, ended}
use Rattle.uz_files.specs.declared.status.Status.TheVariants.{Unwritten}
use Rattle.uz_certificate_commands.specs.Runs.{IsFramedRun}
use Rattle.uz_player.specs.declared.counts.Counts.{Counts}
use Rattle.uz_player.specs.declared.player.Player.{Player}
use Rattle.uz_player.specs.Playing.{Plays, cert_of, counts_of, limit_of}

-- a console at reset with the image, and the line of a certificate
pub record IsAtReset (image : Flash) (cert : Cert) (console : Console) (certificate : Cert) (line : List ℕ) : Type 0 where
  pub same : certificate ≡ cert
  pub in_range : IsState (demo_start image)
  pub stands : StandsFor console (demo_start image)
  pub is_line : line ≡ accepted_line cert

abbrev pub IsPrepared : Flash → Cert → Start → Type 0
IsPrepared image cert (Ready console certificate line) = IsAtReset image cert console certificate line.items
IsPrepared image cert (Refusal line) = ⊥

-- of an image and hints: a certificate is found, or a line tells why none is
pub record IsReady (image : Flash) (hints : List SourceHint) (console : Console) (cert : Cert) (line : List ℕ) : Type 0 where
  pub allowed : Allowed image Four hints (Ok cert)
  pub in_range : IsState (demo_start image)
  pub stands : StandsFor console (demo_start image)
  pub is_line : line ≡ accepted_line cert

pub record IsRefusal (image : Flash) (hints : List SourceHint) (line : List ℕ) : Type 0 where
  pub why : NotFound
  pub allowed : Allowed image Four hints (Err why)
  pub is_line : line ≡ not_found_line why

abbrev pub IsSearched : Flash → List SourceHint → Start → Type 0
IsSearched image hints (Ready console cert line) = IsReady image hints console cert line.items
IsSearched image hints (Refusal line) = IsRefusal image hints line.items

-- of a number
pub record IsStart (number : ℕ) (start : Start) : Type 0 where
  pub output : Output
  pub assembles : Assembles number output
  pub searched : IsSearched output.image output.hints start

-- a run is played to its end, and these are its numbers
abbrev pub IsPlayedOut : Cert → ℕ → State PadHistory → RunEnd → Counts → Type 0
IsPlayedOut cert limit start end counts = IsPlayedInto cert limit start end counts None [] None

-- some records of the run are handed out
abbrev pub IsPlaying : Player → State PadHistory → Type 0
IsPlaying player start = (handed : List ℕ) × Plays player start handed

-- None: another record is handed out. Some: the run is played to its end
abbrev pub GoesOn : Player → Player → Option RunEnd → Type 0
GoesOn old new None = (start : State PadHistory) (handed : List ℕ) → Plays old start handed → IsPlaying new start
GoesOn old new (Some end) = (start : State PadHistory) (handed : List ℕ) → Plays old start handed → IsPlayedOut (cert_of new) (limit_of new)
    start end (counts_of new)

-- what `play` answers of the run of three frames, but that no file is written, below what is printed before
pub record IsRunAfter (printed : List ℕ) (cert : Cert) (start : State PadHistory) (answer : Answer) : Type 0 where
  pub played : Answer
  pub run : IsFramedRun [] cert (demo_clocks cert) start played
  pub told : answer ≡ ended printed played.status played.line

abbrev pub IsPutPart : List ℕ → Answer → Type 0
IsPutPart printed answer = answer ≡ ended printed Unwritten []

-- `demo NUMBER`: the source that the number gives is assembled, and a certificate is searched by its hints, for an interrupt response of 4
-- clocks. A line tells the lines and clocks of the frame. Then the machine runs from reset, with no pads, for three frames' clocks, and two
-- lines tell what `play` tells of such a run. No file is read, and none is written.
use Rattle.std.specs.Prelude.{◌≡◌, ℕ, ◌*◌, List, [], Result, Ok, Err}
use Rattle.uz_hex.specs.Reading.{Flash}
use Rattle.avr_asm.specs.Assembly.{Output}
use Rattle.avr_asm.specs.Relation.{IsAssembly}
use Rattle.uz_schedule.specs.declared.certificate.Cert.{Cert}
use Rattle.uz_schedule.specs.declared.kinds.Response.TheVariants.{Four}
use Rattle.uz_schedule.specs.Schedule.{frame_of}
use Rattle.uz_core.specs.declared.machine.Edge.{Edge}
use Rattle.uz_core.specs.PadLine.{PadHistory}
use Rattle.uz_core.specs.Turn.{State}
use Rattle.uz_core.specs.Run.{IsClockRun}
use Rattle.uz_console.specs.Approaches.{EntersFirst}
use Rattle.uz_check.specs.Keeping.{KeepsSchedule}
use Rattle.uz_check.specs.Acceptance.{Accepts}
use Rattle.uz_check.specs.Certified.{Certified}
use Rattle.uz_search.specs.declared.found.NotFound.{NotFound}
use Rattle.uz_paths.specs.Finding.{IsAsked}
use Rattle.uz_demo.specs.Source.{source}
use Rattle.uz_files.specs.declared.status.Status.TheVariants.{Refused, Unwritten}
use Rattle.uz_files.specs.Answers.{Answer, ended, one_line}
use Rattle.uz_certificate_commands.specs.SearchLines.{Allowed, not_found_line}
use Rattle.uz_certificate_commands.specs.VerdictLines.{accepted_line}
use Rattle.uz_files.specs.RunFiles.{start_of}
use Rattle.uz_certificate_commands.specs.Runs.{Enters, IsFramedRun}

-- the demo's source has this assembly
abbrev pub Assembles : ℕ → Output → Type 0
Assembles number output = IsAssembly (source number) output

-- three frames
abbrev pub demo_clocks : Cert → ℕ
demo_clocks cert = 3 * frame_of cert.schedule

-- the machine at reset, with no pads
abbrev pub demo_start : Flash → State PadHistory
demo_start image = start_of image [] Four

-- what `play` answers of the run, but that no file is written, below the line of the frame
pub record IsDemoRun (image : Flash) (cert : Cert) (answer : Answer) : Type 0 where
  pub played : Answer
  pub run : IsFramedRun [] cert (demo_clocks cert) (demo_start image) played
  pub told : answer ≡ ended (accepted_line cert) played.status played.line

-- by what the search answers: the run is played, or a line tells why no certificate is found
abbrev pub IsDemoBy : Result Cert NotFound → Flash → Answer → Type 0
IsDemoBy (Ok cert) image answer = IsDemoRun image cert answer
IsDemoBy (Err e) image answer = answer ≡ one_line Refused (not_found_line e)

-- The answers. What the search answers comes only as its promise allows
pub record DemoAnswers (number : ℕ) (answer : Answer) : Type 0 where
  pub output : Output
  pub assembles : Assembles number output
  pub found : Result Cert NotFound
  pub allowed : Allowed output.image Four output.hints found
  pub answers : IsDemoBy found output.image answer

-- the same with the search's answer as data: the number and what the search answers decide all
pub record DemoAnswersBy (number : ℕ) (found : Result Cert NotFound) (answer : Answer) : Type 0 where
  pub output : Output
  pub assembles : Assembles number output
  pub answers : IsDemoBy found output.image answer

-- this is what the search's promise allows of the number
abbrev pub AllowedOfDemo : ℕ → Result Cert NotFound → Type 0
AllowedOfDemo number found = (output : Output) → Assembles number output → Allowed output.image Four output.hints found

-- where it is cut short at the first line, before the run; the status of a part is never asked
pub record DemoParts (number : ℕ) (answer : Answer) : Type 0 where
  pub output : Output
  pub assembles : Assembles number output
  pub cert : Cert
  pub allowed : Allowed output.image Four output.hints (Ok cert)
  pub told : answer ≡ ended (accepted_line cert) Unwritten []

-- the run isn't stopped, and a state of it meets the entry condition
pub record RunEnters (image : Flash) (cert : Cert) : Type 0 where
  pub edges : List Edge
  pub last : State PadHistory
  pub run : IsClockRun (demo_clocks cert) (demo_start image) edges last
  pub enters : Enters cert (demo_clocks cert) (demo_start image)

-- the source has an assembly, no refusal of the search has a cause, and the run of each certificate that may be found enters
pub record DemoSucceeds (number : ℕ) : Type 0 where
  pub output : Output
  pub assembles : Assembles number output
  pub free : (e : NotFound) → Allowed output.image Four output.hints (Err e) → ⊥
  pub runs : (cert : Cert) → Allowed output.image Four output.hints (Ok cert) → RunEnters output.image cert

-- What a demo that is done is worth: a certificate with what the hints ask for is accepted with the image, so that every run from a state
-- that meets its entry condition keeps to its schedule; and from the first such state on, the edges of this run are the schedule's, and
-- each
-- line of its picture that begins after it is as long as the schedule's
pub record DemoPlayed (number : ℕ) : Type 0 where
  pub output : Output
  pub assembles : Assembles number output
  pub cert : Cert
  pub asked : IsAsked output.image Four output.hints cert
  pub accepted : Accepts output.image cert
  pub certified : Certified output.image cert
  pub edges : List Edge
  pub last : State PadHistory
  pub run : IsClockRun (demo_clocks cert) (demo_start output.image) edges last
  pub clock : ℕ
  pub position : ℕ
  pub enters : EntersFirst cert (demo_clocks cert) (demo_start output.image) clock position
  pub keeps : KeepsSchedule cert (demo_clocks cert) clock position edges

-- and what one that is stopped tells: no state of its run has met the entry condition
pub record DemoHalted (number : ℕ) : Type 0 where
  pub output : Output
  pub assembles : Assembles number output
  pub cert : Cert
  pub accepted : Accepts output.image cert
  pub unentered : (clock position : ℕ) → EntersFirst cert (demo_clocks cert) (demo_start output.image) clock position → ⊥

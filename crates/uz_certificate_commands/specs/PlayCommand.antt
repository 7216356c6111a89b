-- `play HEX CERT PADS CLOCKS FRAMES`: the three files are read in their order, and the pair is checked. Once it is accepted, the
-- file of frames is created, and the machine runs from reset: the records of the picture of its edges are written. Two lines tell
-- the first state that meets the certificate's entry condition, and the numbers of the run.
use Rattle.std.specs.Prelude.{◌≡◌, ◌⊎◌, ℕ, List, Option, Some, None}
use Rattle.uz_shelf.specs.Files.{FileMap, LacksFile}
use Rattle.uz_hex.specs.Reading.{Flash}
use Rattle.uz_schedule.specs.declared.certificate.Cert.{Cert}
use Rattle.uz_pads.specs.declared.pads.Pad.{Pad}
use Rattle.uz_core.specs.declared.machine.Edge.{Edge}
use Rattle.uz_core.specs.PadLine.{PadHistory}
use Rattle.uz_core.specs.Turn.{State}
use Rattle.uz_core.specs.Run.{IsClockRun}
use Rattle.uz_console.specs.Approaches.{EntersFirst}
use Rattle.uz_check.specs.Keeping.{KeepsSchedule}
use Rattle.uz_check.specs.Acceptance.{Accepts}
use Rattle.uz_check.specs.Refusal.{FirstRefusal}
use Rattle.uz_check.specs.declared.refusal.RefusedWhy.{RefusedWhy}
use Rattle.uz_files.specs.declared.status.Status.TheVariants.{Refused}
use Rattle.uz_files.specs.Answers.{Answer, one_line}
use Rattle.uz_files.specs.Reading.{Reads, Says, certificate_limit, text_limit}
use Rattle.uz_certificate_commands.specs.VerdictLines.{refused_line}
use Rattle.uz_files.specs.RunFiles.{start_of}
use Rattle.uz_hex.specs.HexText.{IsHexOf}
use Rattle.uz_files.specs.Formats.{SpellsCertificate}
use Rattle.uz_files.specs.Formats.{RefusesCertificate, RefusesHex, RefusesPads, SpellsPads}
use Rattle.uz_certificate_commands.specs.Runs.{IsFramedRun, IsFramedPart, Enters}

-- Answers

-- once all files are read: the pair is refused, with the first item that refuses it, or it is accepted, and the machine runs
abbrev pub IsPlay : ℕ → List ℕ → Flash → Cert → List Pad → Answer → Type 0
IsPlay clocks frames image certificate pads answer =
    ((why : RefusedWhy) × FirstRefusal image certificate (Some why) × (answer ≡ one_line Refused (refused_line certificate why)))
    ⊎ (FirstRefusal image certificate None × IsFramedRun frames certificate clocks (start_of image pads certificate.head.irq) answer)

-- once the certificate is read
abbrev pub PlayAnswersWith : Option FileMap → Type 0 → List ℕ → ℕ → List ℕ → Flash → Cert → Answer → Type 0
PlayAnswersWith files load_fault pads clocks frames image certificate = Reads files load_fault pads text_limit SpellsPads RefusesPads
    (IsPlay clocks frames image certificate)

-- once the image is read
abbrev pub PlayAnswersFor : Option FileMap → Type 0 → List ℕ → List ℕ → ℕ → List ℕ → Flash → Answer → Type 0
PlayAnswersFor files load_fault cert pads clocks frames image =
    Reads files load_fault cert certificate_limit SpellsCertificate RefusesCertificate
    (PlayAnswersWith files load_fault pads clocks frames image)

abbrev pub PlayAnswers : Option FileMap → Type 0 → List ℕ → List ℕ → List ℕ → ℕ → List ℕ → Answer → Type 0
PlayAnswers files load_fault hex cert pads clocks frames =
    Reads files load_fault hex text_limit IsHexOf RefusesHex (PlayAnswersFor files load_fault cert pads clocks frames)

-- the three files spell this
pub record SpellsPlay (files : Option FileMap) (hex cert pads : List ℕ) (image : Flash) (certificate : Cert) (list : List Pad) : Type
    0 where
  pub spelled_image : Says files hex text_limit IsHexOf image
  pub spelled_certificate : Says files cert certificate_limit SpellsCertificate certificate
  pub spelled_pads : Says files pads text_limit SpellsPads list

-- where it is cut short in the midst of the run
pub record PlayParts (files : Option FileMap) (hex cert pads : List ℕ) (clocks : ℕ) (frames : List ℕ) (answer : Answer) : Type 0 where
  pub image : Flash
  pub certificate : Cert
  pub list : List Pad
  pub spelled : SpellsPlay files hex cert pads image certificate list
  pub accepted : Accepts image certificate
  pub part : IsFramedPart frames clocks (start_of image list certificate.head.irq) answer

-- a file that is read isn't there, and the ones before it are read
abbrev pub PlayLacks : Option FileMap → List ℕ → List ℕ → List ℕ → Type 0
PlayLacks files hex cert pads =
    LacksFile files hex
    ⊎ (((image : Flash) × Says files hex text_limit IsHexOf image × LacksFile files cert)
    ⊎ ((image : Flash) × (certificate : Cert) × Says files hex text_limit IsHexOf image × Says files cert certificate_limit
    SpellsCertificate certificate × LacksFile files pads))

-- the three files are within their limits and grammars, the pair is accepted, the run isn't stopped, and a state of it meets the
-- entry condition
pub record PlaySucceeds (files : Option FileMap) (hex cert pads : List ℕ) (clocks : ℕ) : Type 0 where
  pub image : Flash
  pub certificate : Cert
  pub list : List Pad
  pub spelled : SpellsPlay files hex cert pads image certificate list
  pub accepted : Accepts image certificate
  pub edges : List Edge
  pub last : State PadHistory
  pub run : IsClockRun clocks (start_of image list certificate.head.irq) edges last
  pub enters : Enters certificate clocks (start_of image list certificate.head.irq)

-- What a play that is done is worth: from the first state that meets the entry condition on, the edges of its run are the
-- schedule's, and each line of the picture that begins after it is as long as the schedule's
pub record FilesPlayed (files : Option FileMap) (hex cert pads : List ℕ) (clocks : ℕ) : Type 0 where
  pub image : Flash
  pub certificate : Cert
  pub list : List Pad
  pub spelled : SpellsPlay files hex cert pads image certificate list
  pub edges : List Edge
  pub last : State PadHistory
  pub run : IsClockRun clocks (start_of image list certificate.head.irq) edges last
  pub clock : ℕ
  pub position : ℕ
  pub enters : EntersFirst certificate clocks (start_of image list certificate.head.irq) clock position
  pub keeps : KeepsSchedule certificate clocks clock position edges

-- and what one that is stopped tells: no state of it has met the entry condition
pub record FilesHalted (files : Option FileMap) (hex cert pads : List ℕ) (clocks : ℕ) : Type 0 where
  pub image : Flash
  pub certificate : Cert
  pub list : List Pad
  pub spelled : SpellsPlay files hex cert pads image certificate list
  pub unentered : (clock position : ℕ) → EntersFirst certificate clocks (start_of image list certificate.head.irq) clock position → ⊥

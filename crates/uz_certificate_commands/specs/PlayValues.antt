-- The values of the code that make a play.
use Rattle.std.specs.Prelude.{◌≡◌, ◌⊎◌, ℕ, List, Option}
use Rattle.uz_shelf.specs.Files.{FileMap}
use Rattle.uz_hex.specs.Reading.{Flash}
use Rattle.uz_schedule.specs.declared.certificate.Cert.{Cert}
use Rattle.uz_schedule.specs.WellFormed.{WellFormed}
use Rattle.uz_pads.specs.declared.pads.Pad.{Pad}
use Rattle.uz_console.specs.Consoles.{StandsFor}
use Rattle.uz_console.specs.declared.console.Console.{Console}
use Rattle.uz_core.specs.StateRange.{IsState}
use Rattle.uz_check.specs.Acceptance.{Accepts}
use Rattle.uz_check.specs.Certified.{Certified}
use Rattle.uz_certificate_commands.specs.declared.play_command.Start.{Start}
use Rattle.uz_certificate_commands.specs.declared.play_command.Start.TheVariants.{Ready, Refused as RefusedPair}
use Rattle.uz_files.specs.declared.status.Status.TheVariants.{Refused}
use Rattle.uz_files.specs.Answers.{Answer}
use Rattle.uz_files.specs.Endings.{answer_of}
use Rattle.uz_files.specs.Reading.{Fails, Says, certificate_limit, text_limit}
use Rattle.uz_certificate_commands.specs.PlayCommand.{IsPlay, SpellsPlay}
use Rattle.uz_files.specs.RunFiles.{start_of}
use Rattle.uz_hex.specs.HexText.{IsHexOf}
use Rattle.uz_files.specs.Formats.{SpellsCertificate}
use Rattle.uz_files.specs.Formats.{RefusesCertificate, RefusesHex, RefusesPads}

-- a file ends the command, and the ones before it are read
abbrev pub PlayPreface : Option FileMap → Type 0 → List ℕ → List ℕ → List ℕ → Answer → Type 0
PlayPreface files load_fault hex cert pads answer =
    Fails files load_fault hex text_limit RefusesHex answer
    ⊎ (((image : Flash) × Says files hex text_limit IsHexOf image × Fails files load_fault cert certificate_limit
    RefusesCertificate answer)
    ⊎ ((image : Flash) × (certificate : Cert) × Says files hex text_limit IsHexOf image × Says files cert certificate_limit
    SpellsCertificate certificate × Fails files load_fault pads text_limit RefusesPads answer))

-- the console is at reset with what the three files say, and the pair is accepted
pub record IsReady (files : Option FileMap) (hex cert pads : List ℕ) (console : Console) (certificate : Cert) : Type 0 where
  pub image : Flash
  pub list : List Pad
  pub spelled : SpellsPlay files hex cert pads image certificate list
  pub accepted : Accepts image certificate
  pub certified : Certified image certificate
  pub formed : WellFormed certificate
  pub in_range : IsState (start_of image list certificate.head.irq)
  pub stands : StandsFor console (start_of image list certificate.head.irq)

-- the pair is refused, and this is the answer
pub record IsRefusedPlay (files : Option FileMap) (hex cert pads : List ℕ) (answer : Answer) : Type 0 where
  pub image : Flash
  pub certificate : Cert
  pub list : List Pad
  pub spelled : SpellsPlay files hex cert pads image certificate list
  pub answers : (clocks : ℕ) (frames : List ℕ) → IsPlay clocks frames image certificate list answer
  pub status : answer.status ≡ Refused

-- the same of what the files said

pub record IsAtReset (image : Flash) (cert : Cert) (list : List Pad) (console : Console) (certificate : Cert) : Type 0 where
  pub same : certificate ≡ cert
  pub accepted : Accepts image cert
  pub certified : Certified image cert
  pub in_range : IsState (start_of image list cert.head.irq)
  pub stands : StandsFor console (start_of image list cert.head.irq)

pub record IsRefusedPair (image : Flash) (cert : Cert) (list : List Pad) (answer : Answer) : Type 0 where
  pub answers : (clocks : ℕ) (frames : List ℕ) → IsPlay clocks frames image cert list answer
  pub status : answer.status ≡ Refused

abbrev pub IsChecked : Flash → Cert → List Pad → Start → Type 0
IsChecked image cert list (Ready console certificate) = IsAtReset image cert list console certificate
IsChecked image cert list (RefusedPair ending) = IsRefusedPair image cert list (answer_of ending)

abbrev pub IsStart : Option FileMap → List ℕ → List ℕ → List ℕ → Start → Type 0
IsStart files hex cert pads (Ready console certificate) = IsReady files hex cert pads console certificate
IsStart files hex cert pads (RefusedPair ending) = IsRefusedPlay files hex cert pads (answer_of ending)

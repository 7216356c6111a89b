-- An image's file and a certificate's, read in their order, and the verdict on the pair.
use Rattle.std.specs.Prelude.{◌≡◌, ◌⊎◌, ℕ, List, Option, Some, None}
use Rattle.uz_shelf.specs.Files.{FileMap, LacksFile}
use Rattle.uz_hex.specs.Reading.{Flash}
use Rattle.uz_hex.specs.HexText.{IsHexOf}
use Rattle.uz_schedule.specs.declared.certificate.Cert.{Cert}
use Rattle.uz_check.specs.Refusal.{FirstRefusal}
use Rattle.uz_check.specs.declared.refusal.RefusedWhy.{RefusedWhy}
use Rattle.uz_files.specs.declared.status.Status.TheVariants.{Done, Refused}
use Rattle.uz_files.specs.Answers.{Answer, one_line}
use Rattle.uz_files.specs.Reading.{Fails, Reads, Says, certificate_limit, text_limit}
use Rattle.uz_files.specs.Formats.{RefusesCertificate, RefusesHex, SpellsCertificate}
use Rattle.uz_certificate_commands.specs.VerdictLines.{refused_line}

-- what is printed: a text on the certificate of a pair that is accepted, or the first failing item
abbrev pub verdict_answer : (Cert → List ℕ) → Cert → Option RefusedWhy → Answer
verdict_answer told cert None = one_line Done (told cert)
verdict_answer told cert (Some why) = one_line Refused (refused_line cert why)

-- once both files are read: the pair is accepted, or this is the first item that refuses it
abbrev pub IsVerdict : (Cert → List ℕ) → Flash → Cert → Answer → Type 0
IsVerdict told image certificate answer = (why : Option RefusedWhy) × FirstRefusal image certificate why
    × (answer ≡ verdict_answer told certificate why)

-- once the image is read
abbrev pub PairAnswersFor : (Cert → List ℕ) → Option FileMap → Type 0 → List ℕ → Flash → Answer → Type 0
PairAnswersFor told files load_fault cert image = Reads files load_fault cert certificate_limit SpellsCertificate RefusesCertificate
    (IsVerdict told image)

-- both files are read, and the pair is checked; or a file ends the command
abbrev pub PairAnswers : (Cert → List ℕ) → Option FileMap → Type 0 → List ℕ → List ℕ → Answer → Type 0
PairAnswers told files load_fault hex cert = Reads files load_fault hex text_limit IsHexOf RefusesHex
    (PairAnswersFor told files load_fault cert)

-- the two files spell an image and a certificate of which this holds
pub record SpellPair (files : Option FileMap) (hex cert : List ℕ) (claim : Flash → Cert → Type 0) : Type 0 where
  pub image : Flash
  pub certificate : Cert
  pub spelled_image : Says files hex text_limit IsHexOf image
  pub spelled_certificate : Says files cert certificate_limit SpellsCertificate certificate
  pub holds : claim image certificate

-- a file ends the command, and the one before it is read
abbrev pub PairPreface : Option FileMap → Type 0 → List ℕ → List ℕ → Answer → Type 0
PairPreface files load_fault hex cert answer =
    Fails files load_fault hex text_limit RefusesHex answer
    ⊎ ((image : Flash) × Says files hex text_limit IsHexOf image × Fails files load_fault cert certificate_limit RefusesCertificate answer)

-- a file that is read isn't there, and the one before it is read
abbrev pub PairLacks : Option FileMap → List ℕ → List ℕ → Type 0
PairLacks files hex cert =
    LacksFile files hex ⊎ ((image : Flash) × Says files hex text_limit IsHexOf image × LacksFile files cert)

-- The values of the code that check a pair.
use Rattle.std.specs.Prelude.{◌≡◌, ℕ, List, Option, Some, None}
use Rattle.uz_shelf.specs.Files.{FileMap}
use Rattle.uz_hex.specs.Reading.{Flash}
use Rattle.uz_schedule.specs.declared.certificate.Cert.{Cert}
use Rattle.uz_check.specs.Certified.{Certified}
use Rattle.uz_check.specs.Refusal.{FirstRefusal}
use Rattle.uz_check.specs.declared.refusal.RefusedWhy.{RefusedWhy}
use Rattle.uz_files.specs.declared.status.Status.TheVariants as status
use Rattle.uz_files.specs.Answers.{one_line}
use Rattle.uz_files.specs.Endings.{answer_of}
use Rattle.uz_certificate_commands.specs.declared.pair.Checked.{Checked}
use Rattle.uz_certificate_commands.specs.declared.pair.Checked.TheVariants.{Accepted, Refused}
use Rattle.uz_certificate_commands.specs.PairFiles.{SpellPair}
use Rattle.uz_certificate_commands.specs.VerdictLines.{refused_line}

-- the pair is accepted, or this tells the first item that refuses it
abbrev pub IsChecked : Flash → Cert → Checked → Type 0
IsChecked image cert (Accepted pair) =
    (pair.image ≡ image) × (pair.cert ≡ cert) × FirstRefusal image cert None × Certified image cert
IsChecked image cert (Refused ending) =
    (why : RefusedWhy) × FirstRefusal image cert (Some why) × (answer_of ending ≡ one_line status.Refused (refused_line cert why))

-- of what these two files spell
abbrev pub AreChecked : Option FileMap → List ℕ → List ℕ → Checked → Type 0
AreChecked files hex cert checked = SpellPair files hex cert (λ image certificate. IsChecked image certificate checked)

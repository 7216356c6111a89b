-- `check HEX CERT`: both files are read in their order, and then the pair is checked. What an accepted one prints is how many
-- lines and clocks its frame has.
use Rattle.std.specs.Prelude.{ℕ, List, Option}
use Rattle.uz_shelf.specs.Files.{FileMap}
use Rattle.uz_check.specs.Certified.{Certified}
use Rattle.uz_files.specs.Answers.{Answer}
use Rattle.uz_certificate_commands.specs.PairFiles.{PairAnswers, SpellPair}
use Rattle.uz_certificate_commands.specs.VerdictLines.{accepted_line}

abbrev pub CheckAnswers : Option FileMap → Type 0 → List ℕ → List ℕ → Answer → Type 0
CheckAnswers = PairAnswers accepted_line

-- the two files spell an image and a certificate, and from every state that meets the certificate's entry condition, for
-- every list of pads and every number of clocks, the machine with that image keeps to the certificate's schedule
abbrev pub FilesCertified : Option FileMap → List ℕ → List ℕ → Type 0
FilesCertified files hex cert = SpellPair files hex cert Certified

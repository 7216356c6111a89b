-- `dis HEX`: the file is read, and its listing is printed.
use Rattle.std.specs.Prelude.{◌≡◌, ℕ, List, Option}
use Rattle.uz_shelf.specs.Files.{FileMap}
use Rattle.uz_hex.specs.Reading.{Flash}
use Rattle.avr_dis.specs.Listing.{IsListing}
use Rattle.uz_files.specs.declared.status.Status.TheVariants.{Done}
use Rattle.uz_files.specs.Answers.{Answer, one_line}
use Rattle.uz_files.specs.Reading.{Reads, Says, text_limit}
use Rattle.uz_hex.specs.HexText.{IsHexOf}
use Rattle.uz_files.specs.Formats.{RefusesHex}

-- once the image is read
pub record IsListed (image : Flash) (answer : Answer) : Type 0 where
  pub text : List ℕ
  pub listing : IsListing image text
  pub printed : answer ≡ one_line Done text

abbrev pub DisAnswers : Option FileMap → Type 0 → List ℕ → Answer → Type 0
DisAnswers files load_fault hex = Reads files load_fault hex text_limit IsHexOf RefusesHex IsListed

-- the file is within its limit and grammar
pub record DisSucceeds (files : Option FileMap) (hex : List ℕ) : Type 0 where
  pub image : Flash
  pub spelled : Says files hex text_limit IsHexOf image
  pub text : List ℕ
  pub listing : IsListing image text

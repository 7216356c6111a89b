-- The values of the code that propose hints.
use Rattle.std.specs.Prelude.{◌≡◌, ◌≤◌, ℕ, List, length, Option}
use Rattle.uz_shelf.specs.Files.{FileMap}
use Rattle.uz_hex.specs.HexText.{IsHexOf}
use Rattle.uz_hex.specs.Reading.{Flash}
use Rattle.uz_pads.specs.declared.pads.Pad.{Pad}
use Rattle.uz_proposal.specs.Sources.{PutsOutNothing}
use Rattle.uz_proposal.specs.Text.{source_of}
use Rattle.uz_proposal.specs.declared.remarks.Remarked.{Remarked}
use Rattle.uz_files.specs.declared.work.Work.{Work}
use Rattle.uz_files.specs.declared.ending.Ending.{Ending}
use Rattle.uz_files.specs.declared.status.Status.TheVariants.{Refused}
use Rattle.uz_files.specs.Endings.{answer_of}
use Rattle.uz_files.specs.Formats.{SpellsPads}
use Rattle.uz_files.specs.Reading.{Says, text_limit}
use Rattle.uz_program_commands.specs.declared.hints_command.Proposed.{Proposed}
use Rattle.uz_program_commands.specs.declared.hints_command.Proposed.TheVariants.{Made, Refusal}
use Rattle.uz_program_commands.specs.HintsCommand.{IsProposal, Proposal, hints_answer, hints_line}

-- what is to be written and printed of some hints
pub record IsHintsWork (work : Work) : Type 0 where
  pub hints : List Remarked
  pub text : work.text.items ≡ source_of hints
  pub line : work.line.items ≡ hints_line hints
  pub silent : PutsOutNothing (source_of hints)
  pub short : length (source_of hints) ≤ text_limit

-- what is to be printed where there are none: whatever the file is called
pub record IsNoHints (ending : Ending) : Type 0 where
  pub proposal : Proposal
  pub allowed : IsProposal proposal
  pub status : ending.status ≡ Refused
  pub told : (name : List ℕ) → answer_of ending ≡ hints_answer name proposal

abbrev pub IsTold : Proposed → Type 0
IsTold (Made work) = IsHintsWork work
IsTold (Refusal ending) = IsNoHints ending

-- of both files
pub record IsToldOf (files : Option FileMap) (hex pads : List ℕ) (proposed : Proposed) : Type 0 where
  pub image : Flash
  pub list : List Pad
  pub spelled_image : Says files hex text_limit IsHexOf image
  pub spelled_pads : Says files pads text_limit SpellsPads list
  pub is : IsTold proposed

-- What `find` answers: one file that is written, and a line.
use Rattle.std.proofs.Common.{◌≡◌, ◌⊎◌, ℕ, List, sym, ap, ◌∙◌}
use Rattle.std.specs.Prelude.{Option, Some, Result, Ok, Err, IfOk}
use Rattle.uz_shelf.specs.Files.{FileMap}
use Rattle.uz_hex.specs.Reading.{Flash}
use Rattle.uz_schedule.specs.declared.kinds.Response.{Response}
use Rattle.uz_schedule.specs.declared.certificate.Cert.{Cert}
use Rattle.uz_schedule.specs.WellFormed.{WellFormed}
use Rattle.uz_check.specs.Acceptance.{Accepts}
use Rattle.uz_check.specs.Certified.{Certified}
use Rattle.uz_files.specs.declared.ending.Ending.{Ending}
use Rattle.uz_files.specs.declared.ending.Failure.{Failure}
use Rattle.uz_files.specs.declared.status.Status.{Status}
use Rattle.uz_files.specs.declared.status.Status.TheVariants.{Done, Refused}
use Rattle.uz_files.specs.declared.work.Work.{Work}
use Rattle.uz_files.specs.Answers.{ComesOf, MayCome, NoPart, WritesFile, one_line, outside}
use Rattle.uz_files.specs.Endings.{ComesOfFailure, EndsBy, answer_of}
use Rattle.uz_files.specs.Writing.{answer_of_work, written_then}
use Rattle.uz_files.proofs.EndingLemmas.{run_outcome}
use Rattle.uz_files.proofs.WriteLemmas.{holds_written}
use Rattle.uz_certificate_commands.specs.CertifyCommand.{cert_file}
use Rattle.uz_certificate_commands.specs.FindCommand.{FilesFound, FindAnswers, FindTells}
use Rattle.uz_certificate_commands.specs.FindValues.{IsFoundFor, IsSoughtFor}
use Rattle.uz_certificate_commands.specs.HintedSearch.{HintSource, IsSought, SpellsHinted}
use Rattle.uz_certificate_commands.specs.HintedValues.{HintedFails}
use Rattle.uz_certificate_commands.specs.declared.find_command.Sought.{Sought}
use Rattle.uz_certificate_commands.specs.declared.find_command.Sought.TheVariants.{Made, Refusal}
use Rattle.uz_certificate_commands.proofs.HintedLemmas.{TellsOne, TellsStatus, fails_so, spelled_reads}

pub find_statuses : (name : List ℕ) → TellsStatus (FindTells name)
find_statuses name = record {
  found = λ image source cert answer told. ap (λ a. a.status) told;
  refused = λ image source why answer told. ap (λ a. a.status) told;
}

pub find_tells_one : (name : List ℕ) → TellsOne (FindTells name)
find_tells_one name image source found a b p q = p ∙ sym q

-- both files are read and fit, and this came of the search
pub found_for : (files : Option FileMap) (hex hints : List ℕ) (irq : Response) (image : Flash) (source : HintSource)
    (r : Result Sought Failure) → SpellsHinted files hex hints image source → IfOk r (IsSoughtFor image irq source.output.hints)
    → IfOk r (IsFoundFor files hex hints irq)
found_for files hex hints irq image source (Ok sought) spelled is =
    record { image = image; source = source; spelled = spelled; is = is }
found_for files hex hints irq image source (Err failure) spelled is = tt

-- a refusal isn't done
pub not_done : {C : Type 0} (files : Option FileMap) (hex hints : List ℕ) (irq : Response) (ending : Ending)
    → IsFoundFor files hex hints irq (Refusal ending) → ending.status ≡ Done → C
not_done files hex hints irq ending found done = let no : Refused ≡ Done = sym found.is.status ∙ done in absurd (cc no)

-- a file ends the command
pub find_failed : (files after : Option FileMap) (load_fault narrow wide : Type 0) (hex hints : List ℕ) (irq : Response) (name : List ℕ)
    (failure : Failure) (came : Status) (old new : Option (List ℕ)) → after ≡ files → (narrow → wide)
    → EndsBy (HintedFails files load_fault hex hints) failure
    → ((f : Option FileMap) → ComesOfFailure failure narrow came (outside f old) (outside f new))
    → MayCome (FindAnswers files load_fault hex hints irq name) NoPart wide came (outside files old) (outside after new)
find_failed files after load_fault narrow wide hex hints irq name failure came old new same widen given comes =
    run_outcome (FindAnswers files load_fault hex hints irq name) NoPart (Err failure) came narrow wide files after old new widen same
    (fails_so (FindTells name) irq files load_fault hex hints failure given) comes

module _ (files : Option FileMap) (load_fault : Type 0) (hex hints : List ℕ) (irq : Response) (name : List ℕ) where
  -- no certificate is found
  pub find_refused : (after : Option FileMap) (narrow wide : Type 0) (ending : Ending) (came : Status) (old new : Option (List ℕ))
      → after ≡ files → (narrow → wide) → IsFoundFor files hex hints irq (Refusal ending)
      → ((f : Option FileMap) → ComesOf (answer_of ending) narrow came (outside f old) (outside f new))
      → MayCome (FindAnswers files load_fault hex hints irq name) NoPart wide came (outside files old) (outside after new)
  find_refused after narrow wide ending came old new same widen found comes =
      run_outcome (FindAnswers files load_fault hex hints irq name) NoPart (Ok ending) came narrow wide files after old new widen same
      (spelled_reads files load_fault hex hints (IsSought (FindTells name) irq) found.image found.source (answer_of ending) found.spelled (
        Err found.is.why,
        found.is.allowed,
        ap (λ s. one_line s ending.line.items) found.is.status ∙ ap (one_line Refused) found.is.is_line,
      )) comes

  -- a certificate is found
  pub find_made : (work : Work) → IsFoundFor files hex hints irq (Made work)
      → FindAnswers files load_fault hex hints irq name (answer_of_work name work)
  find_made work found =
      spelled_reads files load_fault hex hints (IsSought (FindTells name) irq) found.image found.source (answer_of_work name work)
      found.spelled (
        Ok found.is.cert,
        found.is.allowed,
        ap (λ t. written_then (record { name = name; bytes = t }) work.line.items) found.is.of.is_text
            ∙ ap (written_then (cert_file name found.is.cert)) found.is.of.is_line,
      )

  pub find_worth : ((image : Flash) (cert : Cert) → WellFormed cert → Accepts image cert → Certified image cert)
      → (mid after : Option FileMap) (work : Work) → IsFoundFor files hex hints irq (Made work) → WritesFile mid name work.text.items after
      → FilesFound files after hex hints irq name
  find_worth sound mid after work found written = record {
    image = found.image;
    source = found.source;
    spelled = found.spelled;
    certificate = found.is.cert;
    asked = found.is.allowed.worth.2;
    certificate_text = work.text.items;
    holds_certificate = holds_written mid after name work.text.items written;
    is_certificate = found.is.of.reads_back;
    accepted = found.is.allowed.worth.1;
    certified = sound found.image found.is.cert found.is.allowed.worth.0 found.is.allowed.worth.1;
  }

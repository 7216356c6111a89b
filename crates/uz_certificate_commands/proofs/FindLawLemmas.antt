-- `find` and `certify` of one source answer the same.
use Rattle.std.proofs.Common.{◌≡◌, inl, inr, ℕ, List, refl, sym, subst}
use Rattle.std.specs.Prelude.{Some, Result, Ok, Err}
use Rattle.uz_shelf.specs.Files.{FileMap}
use Rattle.uz_hex.specs.Reading.{Flash}
use Rattle.avr_asm.specs.Assembly.{Output}
use Rattle.avr_asm.specs.Relation.{IsAssembly}
use Rattle.uz_schedule.specs.declared.kinds.Response.{Response}
use Rattle.uz_schedule.specs.declared.certificate.Cert.{Cert}
use Rattle.uz_search.specs.declared.found.NotFound.{NotFound}
use Rattle.uz_files.specs.Answers.{Answer}
use Rattle.uz_files.specs.Formats.{Readings, RefusesSource}
use Rattle.uz_files.specs.Reading.{text_limit}
use Rattle.uz_files.specs.Writing.{hex_file}
use Rattle.uz_files.proofs.ReadsLemmas.{fails_says, says_same}
use Rattle.uz_certificate_commands.specs.SearchLines.{Allowed}
use Rattle.uz_program_commands.proofs.MacroLemmas.{OneEnd}
use Rattle.uz_certificate_commands.specs.CertifyCommand.{CertifyAnswers, certify_answer}
use Rattle.uz_certificate_commands.specs.FindCommand.{FindAnswers, FindTells, find_answer}
use Rattle.uz_certificate_commands.specs.HintedSearch.{IsSought, SpellsHinted, source_of}
use Rattle.uz_certificate_commands.specs.FindLaw.{AreAlike, IsFlatWith}
use Rattle.uz_certificate_commands.proofs.HintedLemmas.{other_of, reads_goes, spelled_reads}

answers_alike : (other name : List ℕ) (image : Flash) (found : Result Cert NotFound) → AreAlike (hex_file other image)
    (certify_answer other name image found) (find_answer name found)
answers_alike other name image (Ok cert) = (refl, refl, refl, inr refl)
answers_alike other name image (Err why) = (refl, refl, refl, inl (refl, refl))

module _ (files : FileMap) (hex source other name : List ℕ) (irq : Response) (output : Output)
    (flat : IsFlatWith (Some files) hex source output) where
  spelled : SpellsHinted (Some files) hex source output.image (source_of flat.names flat.flat output)
  spelled = record {
    spelled_image = flat.image;
    fits = record {
      expands = flat.expands;
      assembles = flat.assembles;
      within = λ at byte is. is;
    };
  }

  pub certify_found : (readings : Readings) (answer : Answer) → CertifyAnswers (Some files) ⊥ source irq other name answer
      → (found : Answer) × FindAnswers (Some files) ⊥ hex source irq name found × AreAlike (hex_file other output.image) answer found
  certify_found readings answer (inl fails) =
      absurd (fails_says files ⊥ source text_limit IsAssembly RefusesSource readings.source ⊥ answer output fails flat.spelled)
  certify_found readings answer (inr (read, says, (found, allowed, is))) =
      let same : read ≡ output = says_same files ⊥ source text_limit IsAssembly RefusesSource readings.source read output says flat.spelled in
      let told : answer ≡ certify_answer other name output.image found =
      subst (λ (o : Output). answer ≡ certify_answer other name o.image found) same is in (
        find_answer name found,
        spelled_reads (Some files) ⊥ hex source (IsSought (FindTells name) irq) output.image (source_of flat.names flat.flat output)
            (find_answer name found) spelled
            (found, subst (λ (o : Output). Allowed o.image irq o.hints found) same allowed, refl),
        subst (λ a. AreAlike (hex_file other output.image) a (find_answer name found)) (sym told)
            (answers_alike other name output.image found),
      )

  pub find_certified : (one : OneEnd) (readings : Readings) (answer : Answer) → FindAnswers (Some files) ⊥ hex source irq name answer
      → (certified : Answer) × CertifyAnswers (Some files) ⊥ source irq other name certified
      × AreAlike (hex_file other output.image) certified answer
  find_certified one readings answer h = by_case (other_of (reads_goes one readings files ⊥ hex source (IsSought (FindTells name) irq)
      answer output.image (source_of flat.names flat.flat output) spelled h))
    where
      by_case : IsSought (FindTells name) irq output.image (source_of flat.names flat.flat output) answer
          → (certified : Answer) × CertifyAnswers (Some files) ⊥ source irq other name certified
          × AreAlike (hex_file other output.image) certified answer
      by_case (found, allowed, is) = (
        certify_answer other name output.image found,
        inr (output, flat.spelled, (found, allowed, refl)),
        subst (AreAlike (hex_file other output.image) (certify_answer other name output.image found)) (sym is)
            (answers_alike other name output.image found),
      )

-- What `certify` answers: two files that are written one after the other, and a line.
use Rattle.std.proofs.Common.{◌≡◌, ◌≢◌, ◌⊎◌, sym, inl, inr, ℕ, List, [], ◌∷◌, ap, subst, ◌∙◌}
use Rattle.std.specs.Prelude.{Option, Some, IfOk, IsOk, Result, Ok, Err}
use Rattle.uz_shelf.specs.Files.{FileMap, HoldsFile, LacksFile}
use Rattle.uz_files.specs.Formats.{SpellsCertificate}
use Rattle.uz_check.specs.Acceptance.{Accepts}
use Rattle.uz_check.specs.Certified.{Certified}
use Rattle.uz_schedule.specs.WellFormed.{WellFormed}
use Rattle.uz_search.specs.declared.found.NotFound.{NotFound}
use Rattle.uz_search.specs.declared.found.NotFound.TheVariants.{Hint, Memory as NoRoomToSearch}
use Rattle.uz_paths.specs.Finding.{Cause, NoCause}
use Rattle.uz_files.proofs.WriteLemmas.{comes_after_files, files_cut, files_lack, holds_after, holds_written, with_files}
use Rattle.uz_shelf.specs.Text.{TakesAll}
use Rattle.uz_hex.specs.Writing.{hex_text}
use Rattle.uz_hex.specs.Reading.{Flash}
use Rattle.avr_asm.specs.Assembly.{Output, seen_built}
use Rattle.avr_asm.specs.declared.output.Built.{Built}
use Rattle.avr_asm.specs.declared.output.Hint.{Hint as SourceHint}
use Rattle.uz_schedule.specs.declared.kinds.Response.{Response}
use Rattle.uz_schedule.specs.declared.kinds.RuleVersion.TheVariants.{Two}
use Rattle.uz_schedule.specs.declared.certificate.Cert.{Cert}
use Rattle.uz_cert.specs.Texts.{own_text}
use Rattle.uz_certificate_commands.specs.declared.certify_command.Found.{Found}
use Rattle.uz_certificate_commands.specs.declared.certify_command.Found.TheVariants.{Pair, Refusal}
use Rattle.uz_files.specs.declared.ending.Ending.{Ending}
use Rattle.uz_files.specs.declared.ending.Failure.{Failure}
use Rattle.uz_files.specs.declared.status.Status.{Status}
use Rattle.uz_files.specs.declared.status.Status.TheVariants.{Done, Unread, BadInput, Refused, Unwritten, NoMemory}
use Rattle.uz_files.specs.Answers.{Answer, ComesOf, NoPart, MayCome, Write, WritesAll, WritesPart, one_line, outside}
use Rattle.uz_files.specs.Endings.{ComesOfFailure, EndsBy, answer_of}
use Rattle.uz_files.specs.Reading.{Fails, Says, text_limit}
use Rattle.uz_certificate_commands.specs.CertifyCommand.{AllowedOf, CertifyAnswers, CertifyAnswersBy, CertifySucceeds, FilesCertify}
use Rattle.uz_certificate_commands.specs.SearchLines.{Allowed, IsWorth}
use Rattle.uz_certificate_commands.specs.CertifyCommand.{IsCertified, IsCertifiedBy, certify_answer}
use Rattle.uz_certificate_commands.specs.CertifyValues.{IsFound, IsFoundIn, IsPair, IsPairOf, IsRefusal, both_files}
use Rattle.uz_certificate_commands.specs.VerdictLines.{accepted_line}
use Rattle.uz_files.proofs.EndingLemmas.{comes_by, run_outcome}
use Rattle.uz_files.proofs.ReadingLemmas.{ends_by}
use Rattle.uz_files.proofs.ReadsLemmas.{fails_says, fails_status, reads_or_fault, reads_same, says_same}
use Rattle.avr_asm.specs.Relation.{IsAssembly}
use Rattle.uz_files.specs.Formats.{Readings, RefusesSource}

abbrev done_with : List Write → List ℕ → Answer
done_with ws = with_files ws Done

-- What the search gives

-- What the search's promise allows, of its clauses. It was handed these hints and answered so
pub allowed_of : (image : Flash) (irq : Response) (handed hints : List SourceHint) (found result : Result Cert NotFound) → handed ≡ hints
    → result ≡ found → IsWorth image irq hints found → ((index : ℕ) → Cause image irq handed (Hint index)
    → (result ≡ Err (Hint index)) ⊎ (result ≡ Err NoRoomToSearch))
    → (NoCause Two image irq handed → IsOk result ⊎ (result ≡ Err NoRoomToSearch)) → Allowed image irq hints found
allowed_of image irq handed hints found result same is worth hint complete = record {
  worth = worth;
  hint = λ index fault. of_two index (subst (λ r. (r ≡ Err (Hint index)) ⊎ (r ≡ Err NoRoomToSearch)) is
      (hint index (subst (λ h. Cause image irq h (Hint index)) (sym same) fault)));
  complete = λ free. is_found (subst (λ r. IsOk r ⊎ (r ≡ Err NoRoomToSearch)) is
      (complete (subst (NoCause Two image irq) (sym same) free)));
}
  where
    of_two : (index : ℕ) → (found ≡ Err (Hint index)) ⊎ (found ≡ Err NoRoomToSearch) → found ≡ Err (Hint index)
    of_two index (inl told) = told
    of_two index (inr lacks) = absurd (subst (IsWorth image irq hints) lacks worth)

    is_found : IsOk found ⊎ (found ≡ Err NoRoomToSearch) → IsOk found
    is_found (inl ok) = ok
    is_found (inr lacks) = absurd (subst (IsWorth image irq hints) lacks worth)

pub found_pair : (image : Flash) (irq : Response) (hints : List SourceHint) (cert : Cert) (found : Found) → Allowed image irq hints
    (Ok cert) → IsPairOf image cert found → IsFound image irq hints found
found_pair image irq hints cert (Pair hex text line) allowed is = record {
  cert = cert;
  allowed = allowed;
  is_hex = is.0;
  reads_back = is.1;
  is_text = is.2;
  is_line = is.3;
}
found_pair image irq hints cert (Refusal line) allowed is = absurd is

same_pair : (name hex image text line : List ℕ) (flash : Flash) (cert : Cert) → image ≡ hex_text flash → text ≡ own_text cert
    → line ≡ accepted_line cert → done_with (both_files hex image name text) line ≡ certify_answer hex name flash (Ok cert)
same_pair name hex image text line flash cert is_hex is_text is_line =
    ap (λ b. done_with (both_files hex b name text) line) is_hex
    ∙ ap (λ t. done_with (both_files hex (hex_text flash) name t) line) is_text
    ∙ ap (done_with (both_files hex (hex_text flash) name (own_text cert))) is_line

pub found_in : (files : Option FileMap) (source : List ℕ) (irq : Response) (built : Built) (r : Result Found Failure) → Says files source
    text_limit IsAssembly (seen_built built) → IfOk r (IsFound built.image irq built.hints.items)
    → IfOk r (IsFoundIn files source irq)
found_in files source irq built (Ok found) says is = record {
  output = seen_built built;
  spelled = says;
  is = is;
}
found_in files source irq built (Err failure) says is = tt

module _ (files mid after : Option FileMap) (load_fault : Type 0) (source : List ℕ) (irq : Response) (hex name image text line : List ℕ)
    (came : Status) (same : mid ≡ files) (output : Output) (spelled : Says files source text_limit IsAssembly output)
    (pair : IsPair output.image irq output.hints image text line) where
  is_answer : CertifyAnswers files load_fault source irq hex name (done_with (both_files hex image name text) line)
  is_answer = inr (
    output,
    spelled,
    (
      Ok pair.cert,
      pair.allowed,
      same_pair name hex image text line output.image pair.cert pair.is_hex
          pair.is_text pair.is_line,
    ),
  )

  pub certify_done : (narrow wide : Type 0) (old new : Option (List ℕ)) → (narrow → wide) → WritesAll mid (both_files hex image name text)
      after → ((f : Option FileMap) → ComesOf (one_line Done line) narrow came (outside f old) (outside f new))
      → MayCome (CertifyAnswers files load_fault source irq hex name) NoPart wide came (outside files old) (outside after new)
  certify_done narrow wide old new widen written comes =
      inr (inl (
        done_with (both_files hex image name text) line,
        is_answer,
        comes_by (done_with (both_files hex image name text) line) came narrow wide (outside files old) (outside after new) widen
            (comes_after_files (both_files hex image name text) Done line files after
            (subst (λ f. WritesAll f (both_files hex image name text) after) same written) old new narrow came (comes after)),
      ))

  pub certify_worth : ((image : Flash) (cert : Cert) → WellFormed cert → Accepts image cert → Certified image cert)
      → ((cert : Cert) → WellFormed cert → SpellsCertificate (own_text cert) cert)
      → hex ≢ name → WritesAll mid (both_files hex image name text) after → FilesCertify files after source irq hex name
  certify_worth sound texts apart (first, wrote, (last, written, end)) = record {
    output = output;
    spelled = spelled;
    certificate = pair.cert;
    asked = pair.allowed.worth.2;
    image_text = image;
    holds_image = subst (λ f. HoldsFile f hex image) (sym end) (holds_after first last hex image name text apart
        (holds_written mid first hex image wrote) written);
    is_hex = pair.reads_back;
    certificate_text = text;
    holds_certificate = subst (λ f. HoldsFile f name text) (sym end) (holds_written first last name text written);
    is_certificate = subst (λ t. SpellsCertificate t pair.cert) (sym pair.is_text) (texts pair.cert pair.allowed.worth.0);
    accepted = pair.allowed.worth.1;
    certified = sound output.image pair.cert pair.allowed.worth.0 pair.allowed.worth.1;
  }

  pub certify_unwritten : (wide : Type 0) (text_out : Option (List ℕ)) → wide → came ≡ Unwritten → WritesPart mid
      (both_files hex image name text) after → MayCome (CertifyAnswers files load_fault source irq hex name) NoPart wide came
      (outside files text_out) (outside after text_out)
  certify_unwritten wide text_out fault is part =
      inr (inl (
        done_with (both_files hex image name text) line,
        is_answer,
        files_cut (record { name = hex; bytes = image }) (record { name = name; bytes = text } ∷ []) Done came line wide files after
            text_out fault is (subst (λ f. WritesPart f (both_files hex image name text) after) same part),
      ))

  pub certify_lacks : (wide : Type 0) (old new : Option (List ℕ)) → came ≡ NoMemory → TakesAll old [] new → WritesPart mid
      (both_files hex image name text) after → MayCome (CertifyAnswers files load_fault source irq hex name) NoPart wide came
      (outside files old) (outside after new)
  certify_lacks wide old new is said part =
      inr (inl (
        done_with (both_files hex image name text) line,
        is_answer,
        files_lack (both_files hex image name text) Done came line wide files after old new is said
            (subst (λ f. WritesPart f (both_files hex image name text) after) same part),
      ))

-- no certificate is found
pub certify_refused : (files after : Option FileMap) (load_fault narrow wide : Type 0) (source : List ℕ) (irq : Response)
    (hex name : List ℕ) (ending : Ending) (came : Status) (old new : Option (List ℕ)) → after ≡ files → (narrow → wide)
    → (output : Output) → Says files source text_limit IsAssembly output → IsRefusal output.image irq output.hints ending.line.items
    → ending.status ≡ Refused
    → ((f : Option FileMap) → ComesOf (answer_of ending) narrow came (outside f old) (outside f new))
    → MayCome (CertifyAnswers files load_fault source irq hex name) NoPart wide came (outside files old) (outside after new)
certify_refused files after load_fault narrow wide source irq hex name ending came old new same widen output spelled refusal is comes =
    run_outcome (CertifyAnswers files load_fault source irq hex name) NoPart (Ok ending) came narrow wide files after old new widen same
    (inr (
      output,
      spelled,
      (
        Err refusal.why,
        refusal.allowed,
        ap (λ s. one_line s ending.line.items) is ∙ ap (one_line Refused)
            refusal.is_line,
      ),
    )) comes

-- a file ends the command
pub certify_failed : (files after : Option FileMap) (load_fault narrow wide : Type 0) (source : List ℕ) (irq : Response) (hex name : List ℕ)
    (failure : Failure) (came : Status) (old new : Option (List ℕ)) → after ≡ files → (narrow → wide)
    → EndsBy (Fails files load_fault source text_limit RefusesSource) failure
    → ((f : Option FileMap) → ComesOfFailure failure narrow came (outside f old) (outside f new))
    → MayCome (CertifyAnswers files load_fault source irq hex name) NoPart wide came (outside files old) (outside after new)
certify_failed files after load_fault narrow wide source irq hex name failure came old new same widen given comes =
    run_outcome (CertifyAnswers files load_fault source irq hex name) NoPart (Err failure) came narrow wide files after old new widen same
    (ends_by (Fails files load_fault source text_limit RefusesSource) (CertifyAnswers files load_fault source irq hex name) failure
    (λ answer h. inl h) given) comes

-- the statuses of `certify`, and the cause of Unread
pub certify_status : (files : Option FileMap) (load_fault : Type 0) (source : List ℕ) (irq : Response) (hex name : List ℕ) (answer : Answer)
    → CertifyAnswers files load_fault source irq hex name answer → ((answer.status ≡ Unread) × (load_fault ⊎ LacksFile files source))
    ⊎ ((answer.status ≡ BadInput) ⊎ ((answer.status ≡ Refused) ⊎ (answer.status ≡ Done)))
certify_status files load_fault source irq hex name answer (inl fails) =
    elim (fails_status files load_fault source text_limit RefusesSource answer fails) [
      | inl unread ↦ inl unread
      | inr bad ↦ inr (inl bad)
    ]
certify_status files load_fault source irq hex name answer (inr (output, says, (Ok cert, allowed, is))) =
    inr (inr (inr (ap (λ a. a.status) is)))
certify_status files load_fault source irq hex name answer (inr (output, says, (Err why, allowed, is))) =
    inr (inr (inl (ap (λ a. a.status) is)))

-- where all is well each answer is done, unless loading met a fault
pub certify_always : (readings : Readings) (files : FileMap) (load_fault : Type 0) (source : List ℕ) (irq : Response)
    (hex name : List ℕ) → CertifySucceeds
    (Some files) source irq → (load_fault → ⊥) → (answer : Answer) → CertifyAnswers (Some files) load_fault source irq hex name answer
    → answer.status ≡ Done
certify_always readings files load_fault source irq hex name well loads answer (inl fails) =
    absurd (loads (fails_says files load_fault source text_limit IsAssembly RefusesSource readings.source load_fault
    answer well.output fails well.spelled))
certify_always readings files load_fault source irq hex name well loads answer (inr (output, says, (Ok cert, allowed, is))) =
    ap (λ a. a.status) is
certify_always readings files load_fault source irq hex name well loads answer (inr (output, says, (Err why, allowed, is))) =
    let same : output ≡ well.output = says_same files load_fault source text_limit IsAssembly RefusesSource
    readings.source output well.output says well.spelled in
    let allows = subst (λ (o : Output). Allowed o.image irq o.hints (Err why)) same allowed in
    let found = allows.complete well.free in
    absurd (cc found)

-- loading met a fault, or none is needed for the answer
pub certify_or_fault : (files : Option FileMap) (load_fault : Type 0) (source : List ℕ) (irq : Response) (hex name : List ℕ)
    (answer : Answer) → CertifyAnswers files load_fault source irq hex name answer → load_fault ⊎ CertifyAnswers files ⊥ source irq hex name
    answer
certify_or_fault files load_fault source irq hex name answer h =
    reads_or_fault files load_fault source text_limit IsAssembly RefusesSource (IsCertified irq hex name)
    (IsCertified irq hex name) answer (λ output h. inr h) h

-- A shelf that tells its files and what the search answered give one answer

pub record CertifyDecided (files : FileMap) (source : List ℕ) (irq : Response) (hex name : List ℕ) (answer : Answer) : Type 0 where
  pub found : Result Cert NotFound
  pub allowed : AllowedOf (Some files) source irq found
  pub decided : (wanted : Answer) → CertifyAnswersBy (Some files) source hex name found wanted → answer ≡ wanted

one_of : {A : Type 0} → A ⊎ ⊥ → A
one_of (inl a) = a
one_of (inr none) = absurd none

module _ (readings : Readings) (files : FileMap) (source hex name : List ℕ) (answer wanted : Answer) (found : Result Cert NotFound) where
  same_by : CertifyAnswersBy (Some files) source hex name found answer → CertifyAnswersBy (Some files) source hex name found wanted
      → answer ≡ wanted
  same_by p q =
      one_of (reads_same files ⊥ source text_limit IsAssembly RefusesSource readings.source
      (IsCertifiedBy hex name found) (IsCertifiedBy hex name found) answer wanted
      (λ output x y. inl (x ∙ sym y)) p q)

pub certify_decided : (readings : Readings) (files : FileMap) (source : List ℕ) (irq : Response) (hex name : List ℕ) (answer : Answer)
    → CertifyAnswers
    (Some files) ⊥ source irq hex name answer → CertifyDecided files source irq hex name answer
certify_decided readings files source irq hex name answer (inl fails) = record {
  found = Err NoRoomToSearch;
  allowed = λ output says. absurd (fails_says files ⊥ source text_limit IsAssembly RefusesSource readings.source ⊥ answer output
      fails says);
  decided = λ wanted q. same_by readings files source hex name answer wanted (Err NoRoomToSearch) (inl fails) q;
}
certify_decided readings files source irq hex name answer (inr (output, says, (found, allowed, is))) = record {
  found = found;
  allowed = λ other spelled.
      let same : output ≡ other = says_same files ⊥ source text_limit IsAssembly RefusesSource readings.source output
      other says spelled in
      subst (λ (o : Output). Allowed o.image irq o.hints found) same allowed;
  decided = λ wanted q. same_by readings files source hex name answer wanted found (inr (output, says, is)) q;
}

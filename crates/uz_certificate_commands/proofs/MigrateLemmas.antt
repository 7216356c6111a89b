-- What `migrate` answers: a file that is written, and a line.
use Rattle.std.proofs.Common.{◌≡◌, ◌⊎◌, inl, inr, ℕ, List, refl, sym, ap, subst, ◌∙◌}
use Rattle.std.specs.Prelude.{◌↔◌, Option, Some, Result, Ok, Err, IfOk, IfErr}
use Rattle.uz_shelf.specs.Files.{FileMap, LacksFile}
use Rattle.uz_hex.specs.Reading.{Flash}
use Rattle.uz_schedule.specs.WellFormed.{WellFormed}
use Rattle.uz_schedule.specs.declared.certificate.Cert.{Cert}
use Rattle.uz_schedule.specs.declared.kinds.RuleVersion.TheVariants.{Two}
use Rattle.uz_check.specs.Acceptance.{Accepts}
use Rattle.uz_check.specs.OldRules.{AcceptsOld, IsOld}
use Rattle.uz_cert.specs.Texts.{IsOfVersion}
use Rattle.uz_cert_lines.specs.declared.version.Version.TheVariants.{First}
use Rattle.uz_files.specs.declared.work.Work.{Work}
use Rattle.uz_files.specs.declared.ending.Failure.{Failure}
use Rattle.uz_files.specs.declared.status.Status.TheVariants.{Done, Unread, BadInput}
use Rattle.uz_files.specs.Answers.{Answer}
use Rattle.uz_files.specs.Endings.{EndsBy}
use Rattle.uz_files.specs.Reading.{Fails, certificate_limit}
use Rattle.uz_certificate_commands.specs.MigrateCommand.{AcceptsOldText, AcceptsText}
use Rattle.uz_certificate_commands.specs.MigrateCommand.{FilesMigrated, IsMigrated, MigrateAnswers, MigrateSucceeds, migrated_line, new_file}
use Rattle.uz_files.specs.Writing.{Prepares, WritesWork, written_then}
use Rattle.uz_certificate_commands.specs.MigrateValues.{IsWork}
use Rattle.uz_files.proofs.ReadingLemmas.{ends_by}
use Rattle.uz_files.proofs.ReadsLemmas.{fails_status, reads_or_fault, reads_same}
use Rattle.uz_files.proofs.WriteLemmas.{holds_written}
use Rattle.uz_files.specs.Formats.{Readings, RefusesOldCertificate, SpellsCertificate, SpellsOldCertificate}

-- What is said of texts and of their rules

pub record TextLaws : Type 0 where
  pub fits : (older : List ℕ) (cert : Cert) → SpellsOldCertificate older cert → WellFormed cert × IsOfVersion First cert
  pub one_old : (text : List ℕ) (a b : Cert) → SpellsOldCertificate text a → SpellsOldCertificate text b → a ≡ b
  pub one_new : (text : List ℕ) (a b : Cert) → SpellsCertificate text a → SpellsCertificate text b → a ≡ b
  pub same : (image : Flash) (cert : Cert) → WellFormed cert → IsOld cert → AcceptsOld image cert ↔ Accepts image cert

abbrev TextKept : Type 0
TextKept = (image : Flash) (older newer : List ℕ) (cert : Cert) → SpellsOldCertificate older cert → SpellsCertificate newer cert
    → AcceptsOldText image older ↔ AcceptsText image newer

pub text_kept : TextLaws → TextKept
text_kept laws image older newer cert is_old is_new =
    let fits = laws.fits older cert is_old in
    let same = laws.same image cert fits.0 (record { version = fits.1.rules; lengths = fits.1.lengths; points = fits.1.points }) in (
      λ told. record {
        certificate = cert;
        spelled = is_new;
        accepted = same.0 (subst (AcceptsOld image) (laws.one_old older told.certificate cert told.spelled is_old) told.accepted);
      },
      λ told. record {
        certificate = cert;
        spelled = is_old;
        accepted = same.1 (subst (Accepts image) (laws.one_new newer told.certificate cert told.spelled is_new) told.accepted);
      },
    )

-- what is prepared leads to the answer, and a file that ends the command to its own
pub migrate_prepared : (files : Option FileMap) (load_fault : Type 0) (older newer : List ℕ) (prepared : Result Work Failure)
    → IfOk prepared (IsWork files older) → IfErr prepared (EndsBy (Fails files load_fault older certificate_limit RefusesOldCertificate))
    → Prepares (MigrateAnswers files load_fault older newer) newer prepared
migrate_prepared files load_fault older newer (Ok work) given fails = inr (
  given.certificate,
  given.spelled,
  ap (λ t. written_then (record { name = newer; bytes = t }) work.line.items) given.of.text
      ∙ ap (written_then (new_file newer given.certificate)) given.of.line,
)
migrate_prepared files load_fault older newer (Err failure) given fails =
    ends_by (Fails files load_fault older certificate_limit RefusesOldCertificate) (MigrateAnswers files load_fault older newer) failure
    (λ answer h. inl h) fails

-- what is said in a text of version 1 has the rules of version 2
abbrev OldRules : Type 0
OldRules = (older : List ℕ) (cert : Cert) → SpellsOldCertificate older cert → cert.head.version ≡ Two

pub migrate_worth : TextKept → OldRules → (files mid after : Option FileMap) (older newer : List ℕ) (prepared : Result Work Failure)
    → IfOk prepared (IsWork files older) → WritesWork mid newer prepared after → FilesMigrated files after older newer
migrate_worth kept rules files mid after older newer (Ok work) given written = record {
  certificate = given.certificate;
  spelled = given.spelled;
  text = work.text.items;
  holds = holds_written mid after newer work.text.items written;
  is_text = given.of.reads_back;
  rules = rules given.spelled.bytes given.certificate given.spelled.reads;
  kept = λ image. kept image given.spelled.bytes work.text.items given.certificate given.spelled.reads given.of.reads_back;
}
migrate_worth kept rules files mid after older newer (Err failure) given never = absurd never

-- the statuses of `migrate`, and the cause of Unread
pub migrate_status : (files : Option FileMap) (load_fault : Type 0) (older newer : List ℕ) (answer : Answer) → MigrateAnswers files load_fault older
    newer answer → ((answer.status ≡ Unread) × (load_fault ⊎ LacksFile files older)) ⊎ ((answer.status ≡ BadInput) ⊎ (answer.status ≡ Done))
migrate_status files load_fault older newer answer (inl fails) =
    elim (fails_status files load_fault older certificate_limit RefusesOldCertificate answer fails) [
      | inl unread ↦ inl unread
      | inr bad ↦ inr (inl bad)
    ]
migrate_status files load_fault older newer answer (inr (certificate, says, migrated)) = inr (inr (ap (λ a. a.status) migrated))

-- a shelf that tells its files gives one answer, unless loading met a fault
pub migrate_same : (readings : Readings) (files : FileMap) (load_fault : Type 0) (older newer : List ℕ) (a b : Answer)
    → MigrateAnswers (Some files) load_fault older newer
    a → MigrateAnswers (Some files) ⊥ older newer b → (a ≡ b) ⊎ load_fault
migrate_same readings files load_fault older newer a b =
    reads_same files load_fault older certificate_limit SpellsOldCertificate RefusesOldCertificate readings.old_certificate (IsMigrated newer)
    (IsMigrated newer) a b (λ certificate.
    same_migrated a b (written_then (new_file newer certificate) (migrated_line certificate)))
  where
    same_migrated : (x y z : Answer) → x ≡ z → y ≡ z → (x ≡ y) ⊎ load_fault
    same_migrated x y z p q = inl (p ∙ sym q)

-- where all is well the answer is one that is done
pub migrate_done_answer : (files : Option FileMap) (older newer : List ℕ) → MigrateSucceeds files older → (answer : Answer) × MigrateAnswers files ⊥
    older newer answer × (answer.status ≡ Done)
migrate_done_answer files older newer h = (
  written_then (new_file newer h.certificate) (migrated_line h.certificate),
  inr (h.certificate, h.spelled, refl),
  refl,
)

-- loading met a fault, or none is needed for the answer
pub migrate_or_fault : (files : Option FileMap) (load_fault : Type 0) (older newer : List ℕ) (answer : Answer) → MigrateAnswers files load_fault
    older newer answer → load_fault ⊎ MigrateAnswers files ⊥ older newer answer
migrate_or_fault files load_fault older newer answer h =
    reads_or_fault files load_fault older certificate_limit SpellsOldCertificate RefusesOldCertificate (IsMigrated newer) (IsMigrated newer) answer
    (λ certificate h. inr h) h

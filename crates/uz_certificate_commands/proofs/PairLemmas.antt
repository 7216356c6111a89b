-- A command that checks what two files say.
use Rattle.std.proofs.Common.{◌≡◌, ◌⊎◌, ◌≤◌, inl, inr, ℕ, List, refl, sym, ap, ◌∙◌, subst}
use Rattle.std.specs.Prelude.{Option, Some, None}
use Rattle.uz_shelf.specs.Faults.{Rose}
use Rattle.uz_shelf.specs.Files.{FileMap}
use Rattle.uz_hex.specs.Reading.{Flash}
use Rattle.uz_hex.specs.HexText.{IsHexOf}
use Rattle.uz_schedule.specs.declared.certificate.Cert.{Cert}
use Rattle.uz_check.specs.Acceptance.{Accepts}
use Rattle.uz_check.proofs.OneVerdict.{verdict_is_one, accepted_none}
use Rattle.uz_check.specs.declared.refusal.RefusedWhy.{RefusedWhy}
use Rattle.uz_files.specs.declared.ending.Ending.{Ending}
use Rattle.uz_files.specs.declared.ending.Failure.{Failure}
use Rattle.uz_files.specs.declared.status.Status.TheVariants.{Done, Unread, BadInput, Refused}
use Rattle.uz_files.specs.Answers.{Answer}
use Rattle.uz_files.specs.Endings.{EndsBy, answer_of}
use Rattle.uz_files.specs.Reading.{Fails, Says, certificate_limit, text_limit}
use Rattle.uz_files.specs.Formats.{Readings, RefusesCertificate, RefusesHex, SpellsCertificate}
use Rattle.uz_files.proofs.FaultLemmas.{rose_later}
use Rattle.uz_files.proofs.ReadingLemmas.{ends_by, fails_by}
use Rattle.uz_files.proofs.ReadsLemmas.{fails_status, reads_or_fault, reads_same}
use Rattle.uz_certificate_commands.specs.declared.pair.Checked.{Checked}
use Rattle.uz_certificate_commands.specs.declared.pair.Checked.TheVariants as pair_is
use Rattle.uz_certificate_commands.specs.CheckedValues.{AreChecked, IsChecked}
use Rattle.uz_certificate_commands.specs.PairFiles.{IsVerdict, PairAnswers, PairAnswersFor, PairLacks, PairPreface, SpellPair, verdict_answer}

-- the image is read, and the certificate's file ends the command
pub preface_without_certificate : (files after : Option FileMap) (old mid new : ℕ) (hex cert : List ℕ) (image : Flash) (failure : Failure)
    → after ≡ files → old ≤ mid → Says files hex text_limit IsHexOf image
    → EndsBy (Fails after (Rose mid new) cert certificate_limit RefusesCertificate) failure
    → EndsBy (PairPreface files (Rose old new) hex cert) failure
preface_without_certificate files after old mid new hex cert image failure same up says fails =
    ends_by (Fails after (Rose mid new) cert certificate_limit RefusesCertificate) (PairPreface files (Rose old new) hex cert) failure
    (λ answer h. inr (
      image,
      says,
      fails_by files (Rose mid new) (Rose old new) cert certificate_limit RefusesCertificate answer (rose_later old mid new up)
          (subst (λ f. Fails f (Rose mid new) cert certificate_limit RefusesCertificate answer) same h),
    )) fails

-- both files are read, and the pair is checked
pub are_checked : (files after : Option FileMap) (hex cert : List ℕ) (image : Flash) (certificate : Cert) (checked : Checked)
    → after ≡ files → Says files hex text_limit IsHexOf image → Says after cert certificate_limit SpellsCertificate certificate
    → IsChecked image certificate checked → AreChecked files hex cert checked
are_checked files after hex cert image certificate checked same says spelled is = record {
  image = image;
  certificate = certificate;
  spelled_image = says;
  spelled_certificate = subst (λ f. Says f cert certificate_limit SpellsCertificate certificate) same spelled;
  holds = is;
}

-- what is known of a pair that is checked
pub checked_pair : (files : Option FileMap) (hex cert : List ℕ) (checked : Checked) (claim : Flash → Cert → Type 0)
    → AreChecked files hex cert checked → ((image : Flash) (certificate : Cert) → IsChecked image certificate checked
    → claim image certificate) → SpellPair files hex cert claim
checked_pair files hex cert checked claim pair known = record {
  image = pair.image;
  certificate = pair.certificate;
  spelled_image = pair.spelled_image;
  spelled_certificate = pair.spelled_certificate;
  holds = known pair.image pair.certificate pair.holds;
}

module _ (told : Cert → List ℕ) where
  -- a file ends the command
  pub preface_answers : (files : Option FileMap) (load_fault : Type 0) (hex cert : List ℕ) (failure : Failure)
      → EndsBy (PairPreface files load_fault hex cert) failure → EndsBy (PairAnswers told files load_fault hex cert) failure
  preface_answers files load_fault hex cert failure =
      ends_by (PairPreface files load_fault hex cert) (PairAnswers told files load_fault hex cert) failure answers
    where
      answers : (answer : Answer) → PairPreface files load_fault hex cert answer → PairAnswers told files load_fault hex cert answer
      answers answer (inl fails) = inl fails
      answers answer (inr (image, says, fails)) = inr (image, says, inl fails)

  -- a pair that is refused, with its line
  pub refused_verdict : (image : Flash) (certificate : Cert) (checked : Checked) (ending : Ending) → checked ≡ pair_is.Refused ending
      → IsChecked image certificate checked → IsVerdict told image certificate (answer_of ending)
  refused_verdict image certificate checked ending is known =
      let refused : IsChecked image certificate (pair_is.Refused ending) = subst (λ k. IsChecked image certificate k) is known in
      (Some refused.0, refused.1, refused.2)

  -- the pair is checked, and this is the verdict
  pub checked_answers : (files : Option FileMap) (load_fault : Type 0) (hex cert : List ℕ) (checked : Checked) (ending : Ending)
      → AreChecked files hex cert checked
      → ((image : Flash) (certificate : Cert) → IsChecked image certificate checked → IsVerdict told image certificate (answer_of ending))
      → PairAnswers told files load_fault hex cert (answer_of ending)
  checked_answers files load_fault hex cert checked ending pair known =
      inr (pair.image, pair.spelled_image, inr (pair.certificate, pair.spelled_certificate, known pair.image pair.certificate pair.holds))

  verdict_status : (cert : Cert) (why : Option RefusedWhy) (answer : Answer) → answer ≡ verdict_answer told cert why
      → (answer.status ≡ Done) ⊎ (answer.status ≡ Refused)
  verdict_status cert None answer same = inl (ap (λ a. a.status) same)
  verdict_status cert (Some why) answer same = inr (ap (λ a. a.status) same)

  -- the statuses, and the cause of Unread
  pub pair_status : (files : Option FileMap) (load_fault : Type 0) (hex cert : List ℕ) (answer : Answer)
      → PairAnswers told files load_fault hex cert answer → ((answer.status ≡ Unread) × (load_fault ⊎ PairLacks files hex cert))
      ⊎ ((answer.status ≡ BadInput) ⊎ ((answer.status ≡ Done) ⊎ (answer.status ≡ Refused)))
  pair_status files load_fault hex cert answer (inl fails) =
      elim (fails_status files load_fault hex text_limit RefusesHex answer fails) [
        | inl (is, inl fault) ↦ inl (is, inl fault)
        | inl (is, inr lacks) ↦ inl (is, inr (inl lacks))
        | inr bad ↦ inr (inl bad)
      ]
  pair_status files load_fault hex cert answer (inr (image, says, inl fails)) =
      elim (fails_status files load_fault cert certificate_limit RefusesCertificate answer fails) [
        | inl (is, inl fault) ↦ inl (is, inl fault)
        | inl (is, inr lacks) ↦ inl (is, inr (inr (image, says, lacks)))
        | inr bad ↦ inr (inl bad)
      ]
  pair_status files load_fault hex cert answer (inr (image, says, inr (certificate, spelled, (why, refuses, same)))) =
      inr (inr (verdict_status certificate why answer same))

  -- a shelf that tells its files gives one answer, unless loading met a fault
  pub pair_same : (readings : Readings) (files : FileMap) (load_fault : Type 0) (hex cert : List ℕ) (a b : Answer)
      → PairAnswers told (Some files) load_fault hex cert a → PairAnswers told (Some files) ⊥ hex cert b → (a ≡ b) ⊎ load_fault
  pair_same readings files load_fault hex cert a b =
      reads_same files load_fault hex text_limit IsHexOf RefusesHex readings.image
      (PairAnswersFor told (Some files) load_fault cert) (PairAnswersFor told (Some files) ⊥ cert) a b (λ image.
      reads_same files load_fault cert certificate_limit SpellsCertificate RefusesCertificate readings.certificate
      (IsVerdict told image) (IsVerdict told image) a b (λ certificate.
      same_verdict image certificate))
    where
      same_verdict : (image : Flash) (certificate : Cert) → IsVerdict told image certificate a → IsVerdict told image certificate b
          → (a ≡ b) ⊎ load_fault
      same_verdict image certificate (why, refuses, is) (other, refused, same) =
          inl (is ∙ (ap (verdict_answer told certificate) (verdict_is_one image certificate why other refuses refused) ∙ sym same))

  -- where all is well the answer is one that is done
  pub pair_done : (files : Option FileMap) (hex cert : List ℕ) → SpellPair files hex cert Accepts → (answer : Answer)
      × PairAnswers told files ⊥ hex cert answer × (answer.status ≡ Done)
  pair_done files hex cert h = (
    verdict_answer told h.certificate None,
    inr (h.image, h.spelled_image, inr (h.certificate, h.spelled_certificate, (None, accepted_none h.image h.certificate h.holds, refl))),
    refl,
  )

  -- loading met a fault, or none is needed for the answer
  pub pair_or_fault : (files : Option FileMap) (load_fault : Type 0) (hex cert : List ℕ) (answer : Answer)
      → PairAnswers told files load_fault hex cert answer → load_fault ⊎ PairAnswers told files ⊥ hex cert answer
  pair_or_fault files load_fault hex cert answer h =
      reads_or_fault files load_fault hex text_limit IsHexOf RefusesHex (PairAnswersFor told files load_fault cert)
      (PairAnswersFor told files ⊥ cert) answer (λ image.
      reads_or_fault files load_fault cert certificate_limit SpellsCertificate RefusesCertificate (IsVerdict told image)
      (IsVerdict told image) answer (λ certificate h. inr h)) h

-- A shelf that tells its files gives one play, unless loading met a fault.
use Rattle.std.proofs.Common.{◌≡◌, ◌⊎◌, inl, inr, ℕ, List, sym, ap, ◌∙◌, subst}
use Rattle.std.specs.Prelude.{Option, Some, None}
use Rattle.uz_shelf.specs.Files.{FileMap}
use Rattle.uz_hex.specs.Reading.{Flash}
use Rattle.uz_schedule.specs.declared.certificate.Cert.{Cert}
use Rattle.uz_pads.specs.declared.pads.Pad.{Pad}
use Rattle.uz_console.proofs.RunLaws.{over_or_stopped}
use Rattle.uz_check.proofs.OneVerdict.{verdict_is_one, accepted_none}
use Rattle.uz_check.specs.declared.refusal.RefusedWhy.{RefusedWhy}
use Rattle.uz_files.specs.declared.status.Status.TheVariants.{Done, Refused}
use Rattle.uz_files.specs.Answers.{Answer, one_line}
use Rattle.uz_files.specs.Reading.{certificate_limit, text_limit}
use Rattle.uz_certificate_commands.specs.VerdictLines.{refused_line}
use Rattle.uz_certificate_commands.specs.PlayCommand.{IsPlay, PlayAnswers, PlayAnswersFor, PlayAnswersWith, PlaySucceeds}
use Rattle.uz_files.specs.RunFiles.{start_of}
use Rattle.uz_files.proofs.ReadsLemmas.{fails_says, reads_or_fault, reads_same, says_same}
use Rattle.uz_hex.specs.HexText.{IsHexOf}
use Rattle.uz_files.specs.Formats.{SpellsCertificate}
use Rattle.uz_files.specs.Formats.{Readings, RefusesCertificate, RefusesHex, RefusesPads, SpellsPads}
use Rattle.uz_certificate_commands.proofs.SameRunLemmas.{same_run}

same_play : (load_fault : Type 0) (clocks : ℕ) (frames : List ℕ) (image : Flash) (cert : Cert) (list : List Pad) (a b : Answer)
    → IsPlay clocks frames image cert list a → IsPlay clocks frames image cert list b → (a ≡ b) ⊎ load_fault
same_play load_fault clocks frames image cert list a b (inl (why, first, told)) (inl (other, firsts, tells)) =
    inl (told ∙ (one_refused (verdict_is_one image cert (Some why) (Some other) first firsts) ∙ sym tells))
  where
    one_refused : Some why ≡ Some other → one_line Refused (refused_line cert why) ≡ one_line Refused (refused_line cert other)
    one_refused e = ap (λ w. one_line Refused (refused_line cert w)) (some_same why other e)
      where
        some_same : (x y : RefusedWhy) → Some x ≡ Some y → x ≡ y
        some_same x y e = cc
same_play load_fault clocks frames image cert list a b (inl (why, first, told)) (inr (none, run)) =
    absurd (cc (verdict_is_one image cert (Some why) None first none))
same_play load_fault clocks frames image cert list a b (inr (none, run)) (inl (why, first, told)) =
    absurd (cc (verdict_is_one image cert (Some why) None first none))
same_play load_fault clocks frames image cert list a b (inr (none, run)) (inr (other, runs)) =
    inl (same_run frames cert clocks (start_of image list cert.head.irq) a b run runs)

-- a shelf that tells its files gives one answer, unless loading met a fault
pub play_same : (readings : Readings) (files : FileMap) (load_fault : Type 0) (hex cert pads : List ℕ) (clocks : ℕ) (frames : List ℕ)
    (a b : Answer)
    → PlayAnswers (Some files) load_fault hex cert pads clocks frames a → PlayAnswers (Some files) ⊥ hex cert pads clocks frames b → (a ≡ b)
    ⊎ load_fault
play_same readings files load_fault hex cert pads clocks frames a b =
    reads_same files load_fault hex text_limit IsHexOf RefusesHex readings.image
    (PlayAnswersFor (Some files) load_fault cert pads clocks frames) (PlayAnswersFor (Some files) ⊥ cert pads clocks frames) a b
    (λ image.
    reads_same files load_fault cert certificate_limit SpellsCertificate RefusesCertificate readings.certificate
    (PlayAnswersWith (Some files) load_fault pads clocks frames image) (PlayAnswersWith (Some files) ⊥ pads clocks frames image) a b
    (λ certificate.
    reads_same files load_fault pads text_limit SpellsPads RefusesPads readings.pads (IsPlay clocks frames image certificate)
    (IsPlay clocks frames image certificate) a b (λ list.
    same_play load_fault clocks frames image certificate list a b)))

-- where all is well each answer is done, unless loading met a fault

play_is_done : (clocks : ℕ) (frames : List ℕ) (files : FileMap) (hex cert pads : List ℕ) (well : PlaySucceeds (Some files) hex cert pads
    clocks) (answer : Answer) → IsPlay clocks frames well.image well.certificate well.list answer → answer.status ≡ Done
play_is_done clocks frames files hex cert pads well answer (inl (why, first, told)) =
    absurd (cc (verdict_is_one well.image well.certificate (Some why) None first (accepted_none well.image well.certificate well.accepted)))
play_is_done clocks frames files hex cert pads well answer (inr (none, inl entered)) = ap (λ (a : Answer). a.status) entered.told
play_is_done clocks frames files hex cert pads well answer (inr (none, inr (inl unentered))) =
    let enters = well.enters in
    absurd (unentered.never enters.turns enters.edges enters.state enters.run enters.in_run enters.position enters.meets)
play_is_done clocks frames files hex cert pads well answer (inr (none, inr (inr halted))) =
    absurd (over_or_stopped clocks (start_of well.image well.list well.certificate.head.irq) well.last halted.last well.edges halted.edges
    well.run halted.run)

pub play_done : (readings : Readings) (files : FileMap) (load_fault : Type 0) (hex cert pads : List ℕ) (clocks : ℕ) (frames : List ℕ)
    → PlaySucceeds (Some files)
    hex cert pads clocks → (load_fault → ⊥) → (answer : Answer) → PlayAnswers (Some files) load_fault hex cert pads clocks frames answer
    → answer.status ≡ Done
play_done readings files load_fault hex cert pads clocks frames well loads answer (inl fails) =
    absurd (loads (fails_says files load_fault hex text_limit IsHexOf RefusesHex readings.image load_fault answer
    well.image fails (well.spelled).spelled_image))
play_done readings files load_fault hex cert pads clocks frames well loads answer (inr (image, says, inl fails)) =
    absurd (loads (fails_says files load_fault cert certificate_limit SpellsCertificate RefusesCertificate
    readings.certificate load_fault answer well.certificate fails (well.spelled).spelled_certificate))
play_done readings files load_fault hex cert pads clocks frames well loads answer
    (inr (image, says, inr (certificate, spelled, inl fails))) =
    absurd (loads (fails_says files load_fault pads text_limit SpellsPads RefusesPads readings.pads load_fault answer well.list fails
    (well.spelled).spelled_pads))
play_done readings files load_fault hex cert pads clocks frames well loads answer
    (inr (image, says, inr (certificate, spelled, inr (list, read, play)))) =
    let one = says_same files load_fault hex text_limit IsHexOf RefusesHex readings.image image well.image says
    (well.spelled).spelled_image in
    let two = says_same files load_fault cert certificate_limit SpellsCertificate RefusesCertificate readings.certificate
    certificate well.certificate spelled (well.spelled).spelled_certificate in
    let three = says_same files load_fault pads text_limit SpellsPads RefusesPads readings.pads list well.list read
    (well.spelled).spelled_pads in
    play_is_done clocks frames files hex cert pads well answer
    (subst (λ i. IsPlay clocks frames i well.certificate well.list answer) one
    (subst (λ c. IsPlay clocks frames image c well.list answer) two
    (subst (λ l. IsPlay clocks frames image certificate l answer) three play)))

-- loading met a fault, or none is needed for the answer
pub play_or_fault : (files : Option FileMap) (load_fault : Type 0) (hex cert pads : List ℕ) (clocks : ℕ) (frames : List ℕ) (answer : Answer)
    → PlayAnswers files load_fault hex cert pads clocks frames answer → load_fault ⊎ PlayAnswers files ⊥ hex cert pads clocks frames answer
play_or_fault files load_fault hex cert pads clocks frames answer h =
    reads_or_fault files load_fault hex text_limit IsHexOf RefusesHex (PlayAnswersFor files load_fault cert pads clocks
    frames) (PlayAnswersFor files ⊥ cert pads clocks frames) answer (λ image.
    reads_or_fault files load_fault cert certificate_limit SpellsCertificate RefusesCertificate
    (PlayAnswersWith files load_fault pads clocks frames image) (PlayAnswersWith files ⊥ pads clocks frames image) answer
    (λ certificate.
    reads_or_fault files load_fault pads text_limit SpellsPads RefusesPads (IsPlay clocks frames image certificate)
    (IsPlay clocks frames image certificate) answer (λ list h. inr h))) h

-- What `play` answers.
use Rattle.std.proofs.Common.{◌≡◌, ◌⊎◌, ◌≤◌, inl, inr, ℕ, List, sym, ap, subst, ◌∙◌}
use Rattle.std.specs.Prelude.{Option, Err}
use Rattle.uz_shelf.specs.Faults.{Rose}
use Rattle.uz_shelf.specs.Files.{FileMap}
use Rattle.uz_hex.specs.Reading.{Flash}
use Rattle.uz_schedule.specs.declared.certificate.Cert.{Cert}
use Rattle.uz_schedule.specs.WellFormed.{WellFormed}
use Rattle.uz_pads.specs.declared.pads.Pad.{Pad}
use Rattle.uz_console.specs.declared.console.Console.{Console}
use Rattle.uz_core.specs.PadLine.{PadHistory}
use Rattle.uz_core.specs.Turn.{State}
use Rattle.uz_check.proofs.OneVerdict.{accepted_none}
use Rattle.uz_files.specs.declared.ending.Ending.{Ending}
use Rattle.uz_files.specs.declared.ending.Failure.{Failure}
use Rattle.uz_certificate_commands.specs.declared.play_command.Start.{Start}
use Rattle.uz_certificate_commands.specs.declared.play_command.Start.TheVariants.{Ready, Refused as RefusedPair}
use Rattle.uz_files.specs.declared.status.Status.{Status}
use Rattle.uz_files.specs.declared.status.Status.TheVariants.{Unread, BadInput, Refused, Done, Stopped, NotEntered}
use Rattle.uz_files.specs.Answers.{Answer, ComesOf, MayCome, Outside, outside}
use Rattle.uz_files.specs.Endings.{ComesOfFailure, EndsBy, answer_of}
use Rattle.uz_files.specs.Reading.{Fails, Says, certificate_limit, text_limit}
use Rattle.uz_certificate_commands.specs.PlayCommand.{IsPlay, PlayAnswers, PlayLacks, PlayParts, SpellsPlay}
use Rattle.uz_certificate_commands.specs.Runs.{IsFramedPart, IsFramedRun}
use Rattle.uz_certificate_commands.specs.PlayValues.{IsChecked, IsReady, IsRefusedPlay, IsStart, PlayPreface}
use Rattle.uz_files.specs.RunFiles.{start_of}
use Rattle.uz_files.proofs.FaultLemmas.{rose_later}
use Rattle.uz_files.proofs.ReadingLemmas.{ends_by, fails_by}
use Rattle.uz_files.proofs.ReadsLemmas.{fails_status}
use Rattle.uz_files.proofs.EndingLemmas.{comes_by, run_outcome}
use Rattle.uz_hex.specs.HexText.{IsHexOf}
use Rattle.uz_files.specs.Formats.{SpellsCertificate}
use Rattle.uz_files.specs.Formats.{RefusesCertificate, RefusesHex, RefusesPads, SpellsPads}

-- Files that end the command

pub preface_of_certificate : (files after : Option FileMap) (old mid new : ℕ) (hex cert pads : List ℕ) (image : Flash) (failure : Failure)
    → after ≡ files → old ≤ mid → Says files hex text_limit IsHexOf image
    → EndsBy (Fails after (Rose mid new) cert certificate_limit RefusesCertificate) failure
    → EndsBy (PlayPreface files (Rose old new) hex cert pads) failure
preface_of_certificate files after old mid new hex cert pads image failure same up says =
    ends_by (Fails after (Rose mid new) cert certificate_limit RefusesCertificate) (PlayPreface files (Rose old new) hex cert pads)
    failure
    (λ answer h. inr (inl (
      image,
      says,
      fails_by files (Rose mid new) (Rose old new) cert certificate_limit RefusesCertificate answer (rose_later old mid new up)
          (subst (λ f. Fails f (Rose mid new) cert certificate_limit RefusesCertificate answer) same h),
    )))

pub preface_of_pads : (files mid_files after : Option FileMap) (old one mid new : ℕ) (hex cert pads : List ℕ) (image : Flash)
    (certificate : Cert) (failure : Failure) → mid_files ≡ files → after ≡ mid_files → old ≤ one → one ≤ mid → Says files hex text_limit
    IsHexOf image → Says mid_files cert certificate_limit SpellsCertificate certificate →
    EndsBy (Fails after (Rose mid new) pads text_limit RefusesPads) failure → EndsBy (PlayPreface files (Rose old new) hex cert pads)
    failure
preface_of_pads files mid_files after old one mid new hex cert pads image certificate failure first second up further says spelled =
    ends_by (Fails after (Rose mid new) pads text_limit RefusesPads) (PlayPreface files (Rose old new) hex cert pads) failure
    (λ answer h. inr (inr (
      image,
      certificate,
      says,
      subst (λ f. Says f cert certificate_limit SpellsCertificate certificate) first spelled,
      fails_by files (Rose mid new) (Rose old new) pads text_limit RefusesPads answer
          (λ rose. rose_later old one new up (rose_later one mid new further rose))
          (subst (λ f. Fails f (Rose mid new) pads text_limit RefusesPads answer) (second ∙ first) h),
    )))

-- all are read
pub play_starts : (files mid_files after : Option FileMap) (hex cert pads : List ℕ) (image : Flash) (certificate : Cert) (list : List Pad)
    (start : Start) → mid_files ≡ files → after ≡ mid_files → WellFormed certificate → Says files hex text_limit IsHexOf image
    → Says mid_files cert certificate_limit SpellsCertificate certificate → Says after pads text_limit SpellsPads list →
    IsChecked image certificate list start → IsStart files hex cert pads start
play_starts files mid_files after hex cert pads image certificate list start first second formed says spelled read checked =
    by_start start checked
  where
    all : SpellsPlay files hex cert pads image certificate list
    all = record {
      spelled_image = says;
      spelled_certificate = subst (λ f. Says f cert certificate_limit SpellsCertificate certificate) first spelled;
      spelled_pads = subst (λ f. Says f pads text_limit SpellsPads list) (second ∙ first) read;
    }

    by_start : (s : Start) → IsChecked image certificate list s → IsStart files hex cert pads s
    by_start (Ready console same) h =
        subst (λ c. IsReady files hex cert pads console c) (sym h.same)
        (record {
          image = image;
          list = list;
          spelled = all;
          accepted = h.accepted;
          certified = h.certified;
          formed = formed;
          in_range = h.in_range;
          stands = h.stands;
        })
    by_start (RefusedPair ending) h = record {
      image = image;
      certificate = certificate;
      list = list;
      spelled = all;
      answers = h.answers;
      status = h.status;
    }

preface_answers : (files : Option FileMap) (load_fault : Type 0) (hex cert pads : List ℕ) (clocks : ℕ) (frames : List ℕ) (answer : Answer)
    → PlayPreface files load_fault hex cert pads answer → PlayAnswers files load_fault hex cert pads clocks frames answer
preface_answers files load_fault hex cert pads clocks frames answer (inl fails) = inl fails
preface_answers files load_fault hex cert pads clocks frames answer (inr (inl (image, says, fails))) = inr (image, says, inl fails)
preface_answers files load_fault hex cert pads clocks frames answer (inr (inr (image, certificate, says, spelled, fails))) =
    inr (image, says, inr (certificate, spelled, inl fails))

pub play_failed : (files after : Option FileMap) (load_fault narrow wide : Type 0) (hex cert pads : List ℕ) (clocks : ℕ) (frames : List ℕ)
    (failure : Failure) (came : Status) (old new : Option (List ℕ)) → after ≡ files → (narrow → wide)
    → EndsBy (PlayPreface files load_fault hex cert pads) failure
    → ((f : Option FileMap) → ComesOfFailure failure narrow came (outside f old) (outside f new)) →
    MayCome (PlayAnswers files load_fault hex cert pads clocks frames) (PlayParts files hex cert pads clocks frames) wide came
    (outside files old) (outside after new)
play_failed files after load_fault narrow wide hex cert pads clocks frames failure came old new same widen given comes =
    run_outcome (PlayAnswers files load_fault hex cert pads clocks frames) (PlayParts files hex cert pads clocks frames) (Err failure) came
    narrow wide files after old new widen same
    (ends_by (PlayPreface files load_fault hex cert pads) (PlayAnswers files load_fault hex cert pads clocks frames) failure
    (preface_answers files load_fault hex cert pads clocks frames) given) comes

-- Once the files are read

answers_with : (files : Option FileMap) (load_fault : Type 0) (hex cert pads : List ℕ) (clocks : ℕ) (frames : List ℕ) (image : Flash)
    (certificate : Cert) (list : List Pad) (answer : Answer) → SpellsPlay files hex cert pads image certificate list → IsPlay clocks frames
    image certificate list answer → PlayAnswers files load_fault hex cert pads clocks frames answer
answers_with files load_fault hex cert pads clocks frames image certificate list answer all play =
    inr (image, all.spelled_image, inr (certificate, all.spelled_certificate, inr (list, all.spelled_pads, play)))

pub play_refused : (files after : Option FileMap) (load_fault narrow wide : Type 0) (hex cert pads : List ℕ) (clocks : ℕ) (frames : List ℕ)
    (ending : Ending) (came : Status) (old new : Option (List ℕ)) → after ≡ files → (narrow → wide) → IsRefusedPlay files hex cert pads
    (answer_of ending) → ((f : Option FileMap) → ComesOf (answer_of ending) narrow came (outside f old) (outside f new)) →
    MayCome (PlayAnswers files load_fault hex cert pads clocks frames) (PlayParts files hex cert pads clocks frames) wide came
    (outside files old) (outside after new)
play_refused files after load_fault narrow wide hex cert pads clocks frames ending came old new same widen refused comes =
    subst (λ f. MayCome (PlayAnswers files load_fault hex cert pads clocks frames) (PlayParts files hex cert pads clocks frames) wide came
    (outside files old) (outside f new)) (sym same)
    (inr (inl (
      answer_of ending,
      answers_with files load_fault hex cert pads clocks frames refused.image refused.certificate refused.list (answer_of ending)
          refused.spelled (refused.answers clocks frames),
      comes_by (answer_of ending) came narrow wide (outside files old) (outside files new) widen (comes files),
    )))

lifted : (Whole Part P Q : Answer → Type 0) (narrow wide : Type 0) (came : Status) (old new : Outside)
    → ((answer : Answer) → Whole answer → P answer) → ((answer : Answer) → Part answer → Q answer) → (narrow → wide) → MayCome Whole Part
    narrow came old new → MayCome P Q wide came old new
lifted Whole Part P Q narrow wide came old new whole part widen (inl starts) = inl starts
lifted Whole Part P Q narrow wide came old new whole part widen (inr (inl (answer, given, comes))) =
    inr (inl (answer, whole answer given, comes_by answer came narrow wide old new widen comes))
lifted Whole Part P Q narrow wide came old new whole part widen (inr (inr (answer, given, inl cut))) =
    inr (inr (answer, part answer given, inl (cut.0, widen cut.1, cut.2)))
lifted Whole Part P Q narrow wide came old new whole part widen (inr (inr (answer, given, inr lacks))) =
    inr (inr (answer, part answer given, inr lacks))

pub play_runs : (files mid after : Option FileMap) (load_fault narrow wide : Type 0) (hex cert pads : List ℕ) (clocks : ℕ) (frames : List ℕ)
    (console : Console) (certificate : Cert) (came : Status) (old new : Option (List ℕ)) → mid ≡ files → (narrow → wide)
    → (ready : IsReady files hex cert pads console certificate) →
    MayCome (IsFramedRun frames certificate clocks (start_of ready.image ready.list certificate.head.irq))
    (IsFramedPart frames clocks (start_of ready.image ready.list certificate.head.irq)) narrow came (outside mid old)
    (outside after new) →
    MayCome (PlayAnswers files load_fault hex cert pads clocks frames) (PlayParts files hex cert pads clocks frames) wide came
    (outside files old) (outside after new)
play_runs files mid after load_fault narrow wide hex cert pads clocks frames console certificate came old new same widen ready outcome =
    subst (λ f. MayCome (PlayAnswers files load_fault hex cert pads clocks frames) (PlayParts files hex cert pads clocks frames) wide came
    (outside f old) (outside after new)) same
    (lifted (IsFramedRun frames certificate clocks (start_of ready.image ready.list certificate.head.irq))
    (IsFramedPart frames clocks (start_of ready.image ready.list certificate.head.irq))
    (PlayAnswers files load_fault hex cert pads clocks frames) (PlayParts files hex cert pads clocks frames) narrow wide came
    (outside mid old) (outside after new)
    (λ answer run. answers_with files load_fault hex cert pads clocks frames ready.image certificate ready.list answer ready.spelled
    (inr (accepted_none ready.image certificate ready.accepted, run)))
    (λ answer part. record {
      image = ready.image;
      certificate = certificate;
      list = ready.list;
      spelled = ready.spelled;
      accepted = ready.accepted;
      part = part;
    }) widen outcome)

-- Statuses

abbrev pub IsPlayStatus : Status → Type 0
IsPlayStatus s = (s ≡ BadInput) ⊎ ((s ≡ Refused) ⊎ ((s ≡ Done) ⊎ ((s ≡ NotEntered) ⊎ (s ≡ Stopped))))

run_status : (frames : List ℕ) (certificate : Cert) (clocks : ℕ) (start : State PadHistory) (answer : Answer) → IsFramedRun frames
    certificate clocks start answer → IsPlayStatus answer.status
run_status frames certificate clocks start answer (inl entered) = inr (inr (inl (ap (λ (a : Answer). a.status) entered.told)))
run_status frames certificate clocks start answer (inr (inl unentered)) =
    inr (inr (inr (inl (ap (λ (a : Answer). a.status) unentered.told))))
run_status frames certificate clocks start answer (inr (inr halted)) = inr (inr (inr (inr (ap (λ (a : Answer). a.status) halted.told))))

-- the statuses of `play`, and the cause of Unread
pub play_status : (files : Option FileMap) (load_fault : Type 0) (hex cert pads : List ℕ) (clocks : ℕ) (frames : List ℕ) (answer : Answer)
    → PlayAnswers files load_fault hex cert pads clocks frames answer
    → ((answer.status ≡ Unread) × (load_fault ⊎ PlayLacks files hex cert pads)) ⊎ IsPlayStatus answer.status
play_status files load_fault hex cert pads clocks frames answer (inl fails) =
    elim (fails_status files load_fault hex text_limit RefusesHex answer fails) [
      | inl (is, inl fault) ↦ inl (is, inl fault)
      | inl (is, inr lacks) ↦ inl (is, inr (inl lacks))
      | inr bad ↦ inr (inl bad)
    ]
play_status files load_fault hex cert pads clocks frames answer (inr (image, says, inl fails)) =
    elim (fails_status files load_fault cert certificate_limit RefusesCertificate answer fails) [
      | inl (is, inl fault) ↦ inl (is, inl fault)
      | inl (is, inr lacks) ↦ inl (is, inr (inr (inl (image, says, lacks))))
      | inr bad ↦ inr (inl bad)
    ]
play_status files load_fault hex cert pads clocks frames answer (inr (image, says, inr (certificate, spelled, inl fails))) =
    elim (fails_status files load_fault pads text_limit RefusesPads answer fails) [
      | inl (is, inl fault) ↦ inl (is, inl fault)
      | inl (is, inr lacks) ↦ inl (is, inr (inr (inr (image, certificate, says, spelled, lacks))))
      | inr bad ↦ inr (inl bad)
    ]
play_status files load_fault hex cert pads clocks frames answer
    (inr (image, says, inr (certificate, spelled, inr (list, read, inl (why, first, told))))) =
    inr (inr (inl (ap (λ (a : Answer). a.status) told)))
play_status files load_fault hex cert pads clocks frames answer
    (inr (image, says, inr (certificate, spelled, inr (list, read, inr (none, run))))) =
    inr (run_status frames certificate clocks (start_of image list certificate.head.irq) answer run)

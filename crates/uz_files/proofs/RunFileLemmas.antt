-- A command that runs what two files say.
use Rattle.std.proofs.Common.{◌≡◌, ◌⊎◌, ◌≤◌, inl, inr, ℕ, List, [], refl, ap, ◌∙◌, sym, subst}
use Rattle.std.specs.Prelude.{Option, Some}
use Rattle.uz_shelf.specs.Faults.{Rose}
use Rattle.uz_shelf.specs.Files.{FileMap}
use Rattle.uz_hex.specs.Reading.{Flash}
use Rattle.uz_hex.specs.HexText.{IsHexOf}
use Rattle.uz_schedule.specs.declared.kinds.Response.{Response}
use Rattle.uz_pads.specs.declared.pads.Pad.{Pad}
use Rattle.uz_core.specs.declared.step.Why.{Why}
use Rattle.uz_core.specs.declared.step.Why.TheVariants.{Opcode, Spm}
use Rattle.uz_core.specs.PadLine.{PadHistory}
use Rattle.uz_core.specs.Turn.{State}
use Rattle.uz_console.specs.declared.console.Console.{Console}
use Rattle.uz_console.specs.Runs.{RunsTo}
use Rattle.uz_console.specs.Turns.{Halts}
use Rattle.uz_files.specs.declared.ending.Failure.{Failure}
use Rattle.uz_files.specs.declared.status.Status.TheVariants.{Unread, BadInput}
use Rattle.uz_files.specs.Answers.{Answer}
use Rattle.uz_files.specs.Endings.{EndsBy}
use Rattle.uz_files.specs.Reading.{Fails, Says, text_limit}
use Rattle.uz_files.specs.Formats.{Readings, RefusesHex, RefusesPads, SpellsPads}
use Rattle.uz_files.proofs.FaultLemmas.{rose_later}
use Rattle.uz_files.proofs.ReadingLemmas.{ends_by, fails_by}
use Rattle.uz_files.proofs.ReadsLemmas.{fails_status, reads_or_fault, reads_same}
use Rattle.uz_files.specs.RunFiles.{RunAnswers, RunAnswersFor, RunLacks, RunPreface, StartsRun, start_of}

-- a state that halts does so for one reason
pub same_why : (s : State PadHistory) (v w : Why) → Halts s v → Halts s w → v ≡ w
same_why s (Opcode v) (Opcode w) a b = ap Opcode (a.stops.0 ∙ sym b.stops.0)
same_why s (Opcode v) Spm a b = absurd (a.stops.1 b.stops.0 b.stops.1.reads)
same_why s Spm (Opcode w) a b = absurd (b.stops.1 a.stops.0 a.stops.1.reads)
same_why s Spm Spm a b = refl

-- the image is read, and the pad file ends the command
pub preface_without_pads : (files after : Option FileMap) (old mid new : ℕ) (hex pads : List ℕ) (image : Flash) (failure : Failure)
    → after ≡ files → old ≤ mid → Says files hex text_limit IsHexOf image
    → EndsBy (Fails after (Rose mid new) pads text_limit RefusesPads) failure → EndsBy (RunPreface files (Rose old new) hex pads) failure
preface_without_pads files after old mid new hex pads image failure same up says fails =
    ends_by (Fails after (Rose mid new) pads text_limit RefusesPads) (RunPreface files (Rose old new) hex pads) failure
    (λ answer h. inr (
      image,
      says,
      fails_by files (Rose mid new) (Rose old new) pads text_limit RefusesPads answer (rose_later old mid new up)
          (subst (λ f. Fails f (Rose mid new) pads text_limit RefusesPads answer) same h),
    )) fails

-- both files are read
pub starts : (files after : Option FileMap) (hex pads : List ℕ) (irq : Response) (image : Flash) (list : List Pad) (console : Console)
    → after ≡ files → Says files hex text_limit IsHexOf image → Says after pads text_limit SpellsPads list
    → ((limit : ℕ) → RunsTo limit (start_of image list irq) [] console) → StartsRun files hex pads irq console
starts files after hex pads irq image list console same says spelled run = record {
  image = image;
  list = list;
  spelled_image = says;
  spelled_pads = subst (λ f. Says f pads text_limit SpellsPads list) same spelled;
  run = run;
}

module _ (runs : State PadHistory → Answer → Type 0) where
  -- a file ends the command
  pub preface_answers : (files : Option FileMap) (load_fault : Type 0) (hex pads : List ℕ) (irq : Response) (answer : Answer)
      → RunPreface files load_fault hex pads answer → RunAnswers runs files load_fault hex pads irq answer
  preface_answers files load_fault hex pads irq answer (inl fails) = inl fails
  preface_answers files load_fault hex pads irq answer (inr (image, says, fails)) = inr (image, says, inl fails)

  -- both files are read
  pub run_answers : (files : Option FileMap) (load_fault : Type 0) (hex pads : List ℕ) (irq : Response) (image : Flash) (list : List Pad)
      (answer : Answer) → Says files hex text_limit IsHexOf image → Says files pads text_limit SpellsPads list
      → runs (start_of image list irq) answer → RunAnswers runs files load_fault hex pads irq answer
  run_answers files load_fault hex pads irq image list answer says spelled run = inr (image, says, inr (list, spelled, run))

  -- the statuses of a file that ends the command, with the cause of Unread; or both files are read
  pub run_status : (files : Option FileMap) (load_fault : Type 0) (hex pads : List ℕ) (irq : Response) (answer : Answer)
      → RunAnswers runs files load_fault hex pads irq answer → ((answer.status ≡ Unread) × (load_fault ⊎ RunLacks files hex pads))
      ⊎ ((answer.status ≡ BadInput) ⊎ ((start : State PadHistory) × runs start answer))
  run_status files load_fault hex pads irq answer (inl fails) =
      elim (fails_status files load_fault hex text_limit RefusesHex answer fails) [
        | inl (is, inl fault) ↦ inl (is, inl fault)
        | inl (is, inr lacks) ↦ inl (is, inr (inl lacks))
        | inr bad ↦ inr (inl bad)
      ]
  run_status files load_fault hex pads irq answer (inr (image, says, inl fails)) =
      elim (fails_status files load_fault pads text_limit RefusesPads answer fails) [
        | inl (is, inl fault) ↦ inl (is, inl fault)
        | inl (is, inr lacks) ↦ inl (is, inr (inr (image, says, lacks)))
        | inr bad ↦ inr (inl bad)
      ]
  run_status files load_fault hex pads irq answer (inr (image, says, inr (list, spelled, run))) =
      inr (inr (start_of image list irq, run))

  -- a shelf that tells its files gives one answer where a run does, unless loading met a fault
  pub run_same : (readings : Readings) (files : FileMap) (load_fault : Type 0) (hex pads : List ℕ) (irq : Response) (a b : Answer)
      → ((start : State PadHistory) → runs start a → runs start b → a ≡ b)
      → RunAnswers runs (Some files) load_fault hex pads irq a → RunAnswers runs (Some files) ⊥ hex pads irq b → (a ≡ b) ⊎ load_fault
  run_same readings files load_fault hex pads irq a b one =
      reads_same files load_fault hex text_limit IsHexOf RefusesHex readings.image
      (RunAnswersFor runs (Some files) load_fault pads irq) (RunAnswersFor runs (Some files) ⊥ pads irq) a b (λ image.
      reads_same files load_fault pads text_limit SpellsPads RefusesPads readings.pads (λ list. runs (start_of image list irq))
      (λ list. runs (start_of image list irq)) a b (λ list p q. inl (one (start_of image list irq) p q)))

  -- loading met a fault, or none is needed for the answer
  pub run_or_fault : (files : Option FileMap) (load_fault : Type 0) (hex pads : List ℕ) (irq : Response) (answer : Answer)
      → RunAnswers runs files load_fault hex pads irq answer → load_fault ⊎ RunAnswers runs files ⊥ hex pads irq answer
  run_or_fault files load_fault hex pads irq answer h =
      reads_or_fault files load_fault hex text_limit IsHexOf RefusesHex (RunAnswersFor runs files load_fault pads irq)
      (RunAnswersFor runs files ⊥ pads irq) answer (λ image.
      reads_or_fault files load_fault pads text_limit SpellsPads RefusesPads (λ list. runs (start_of image list irq))
      (λ list. runs (start_of image list irq)) answer (λ list run. inr run)) h

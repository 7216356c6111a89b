-- What `hints` answers: a file that is written, and a line, or lines that say why there is none.
use Rattle.std.proofs.Common.{◌≡◌, ◌≢◌, ◌⊎◌, inl, inr, ℕ, List, Vec, Global, refl, sym, ap, ◌∙◌, subst}
use Rattle.std.specs.Prelude.{Option, Some, Result, Ok, Err, IfErr, IfOk}
use Rattle.uz_shelf.specs.Files.{FileMap, HoldsFile}
use Rattle.uz_schedule.specs.declared.kinds.Response.{Response}
use Rattle.uz_core.specs.PadLine.{PadHistory}
use Rattle.uz_core.specs.Turn.{State}
use Rattle.uz_console.specs.declared.console.Console.{Console}
use Rattle.uz_proposal.specs.declared.no_hints.NoHints.{NoHints}
use Rattle.uz_proposal.specs.declared.no_hints.NoHints.TheVariants as none
use Rattle.uz_files.specs.declared.ending.Ending.{Ending}
use Rattle.uz_files.specs.declared.ending.Failure.{Failure}
use Rattle.uz_files.specs.declared.ending.Failure.TheVariants.{Memory as NoRoom}
use Rattle.uz_files.specs.declared.status.Status.{Status}
use Rattle.uz_files.specs.declared.status.Status.TheVariants.{Done, Unread, BadInput, Refused}
use Rattle.uz_files.specs.declared.work.Work.{Work}
use Rattle.uz_files.specs.Answers.{Answer, ComesOf, Ends, MayCome, NoPart, WritesAll, WritesFile, one_line, outside}
use Rattle.uz_files.specs.Endings.{ComesOfFailure, EndsBy, answer_of}
use Rattle.uz_files.specs.Formats.{Readings, RefusesHex, RefusesPads}
use Rattle.uz_files.specs.Reading.{text_limit}
use Rattle.uz_files.specs.Writing.{answer_of_work, written_then}
use Rattle.uz_files.proofs.EndingLemmas.{run_outcome}
use Rattle.uz_files.proofs.OutcomeLemmas.{came_from}
use Rattle.uz_files.proofs.ReadingLemmas.{ends_by}
use Rattle.uz_files.proofs.ReadsLemmas.{fails_status}
use Rattle.uz_files.proofs.WriteLemmas.{holds_written}
use Rattle.uz_files.specs.RunFiles.{RunLacks, RunPreface, StartsRun}
use Rattle.uz_files.proofs.RunFileLemmas.{preface_answers, run_answers, run_or_fault, run_same, run_status}
use Rattle.uz_program_commands.specs.declared.hints_command.Proposed.{Proposed}
use Rattle.uz_program_commands.specs.declared.hints_command.Proposed.TheVariants.{Made, Refusal}
use Rattle.uz_program_commands.specs.HintsCommand.{BadSource, FilesHinted, Hints, HintsAnswers, HintsAnswersBy, IsProposal, IsProposed}
use Rattle.uz_program_commands.specs.HintsCommand.{IsProposedBy, Nothing, Proposal, hints_file, why_lines}
use Rattle.uz_program_commands.specs.HintsValues.{IsTold, IsToldOf}

-- What the steps give

-- nothing but memory was lacking
pub only_room : (P : Answer → Type 0) (r : Result Proposed Failure) → IfErr r (λ failure. failure ≡ NoRoom) → IfErr r (EndsBy P)
only_room P (Ok proposed) h = tt
only_room P (Err failure) h = subst (EndsBy P) (sym h) tt

-- both files are read, and this is told
pub told_of : (files : Option FileMap) (hex pads : List ℕ) (irq : Response) (console : Console) (r : Result Proposed Failure)
    → StartsRun files hex pads irq console → IfOk r IsTold → IfOk r (IsToldOf files hex pads)
told_of files hex pads irq console (Ok proposed) starts h = record {
  image = starts.image;
  list = starts.list;
  spelled_image = starts.spelled_image;
  spelled_pads = starts.spelled_pads;
  is = h;
}
told_of files hex pads irq console (Err failure) starts h = tt

-- why there are none
pub none_told : (why : NoHints) (line : Vec ℕ Global) → why ≢ none.Memory → line.items ≡ why_lines why
    → IsTold (Refusal (record { status = Refused; line = line }))
none_told why line apart is = record {
  proposal = Nothing why;
  allowed = apart;
  status = refl;
  told = λ name. ap (one_line Refused) is;
}

module _ (files : Option FileMap) (load_fault : Type 0) (hex pads : List ℕ) (irq : Response) (name : List ℕ) where
  -- a file ends the command
  pub hints_failed : (after : Option FileMap) (narrow wide : Type 0) (failure : Failure) (came : Status) (old new : Option (List ℕ))
      → after ≡ files → (narrow → wide) → EndsBy (RunPreface files load_fault hex pads) failure
      → ((f : Option FileMap) → ComesOfFailure failure narrow came (outside f old) (outside f new))
      → MayCome (HintsAnswers files load_fault hex pads irq name) NoPart wide came (outside files old) (outside after new)
  hints_failed after narrow wide failure came old new same widen given comes =
      run_outcome (HintsAnswers files load_fault hex pads irq name) NoPart (Err failure) came narrow wide files after old new widen same
      (ends_by (RunPreface files load_fault hex pads) (HintsAnswers files load_fault hex pads irq name) failure
      (preface_answers (IsProposed name) files load_fault hex pads irq) given) comes

  -- there are none
  pub hints_refused : (after : Option FileMap) (narrow wide : Type 0) (ending : Ending) (came : Status) (old new : Option (List ℕ))
      → after ≡ files → (narrow → wide) → IsToldOf files hex pads (Refusal ending)
      → ((f : Option FileMap) → ComesOf (answer_of ending) narrow came (outside f old) (outside f new))
      → MayCome (HintsAnswers files load_fault hex pads irq name) NoPart wide came (outside files old) (outside after new)
  hints_refused after narrow wide ending came old new same widen told comes =
      run_outcome (HintsAnswers files load_fault hex pads irq name) NoPart (Ok ending) came narrow wide files after old new widen same
      (run_answers (IsProposed name) files load_fault hex pads irq told.image told.list (answer_of ending) told.spelled_image
      told.spelled_pads (told.is.proposal, told.is.allowed, told.is.told name)) comes

  -- they are made
  pub hints_made : (work : Work) → IsToldOf files hex pads (Made work)
      → HintsAnswers files load_fault hex pads irq name (answer_of_work name work)
  hints_made work told =
      run_answers (IsProposed name) files load_fault hex pads irq told.image told.list (answer_of_work name work) told.spelled_image
      told.spelled_pads (
        Hints told.is.hints,
        (told.is.silent, told.is.short),
        ap (λ t. written_then (record { name = name; bytes = t }) work.line.items) told.is.text
            ∙ ap (written_then (hints_file name told.is.hints)) told.is.line,
      )

-- a refusal isn't done
pub not_done : {C : Type 0} (files : Option FileMap) (hex pads : List ℕ) (ending : Ending) → IsToldOf files hex pads (Refusal ending)
    → ending.status ≡ Done → C
not_done files hex pads ending told done = let no : Refused ≡ Done = sym told.is.status ∙ done in absurd (cc no)

-- what is written is worth this
pub hints_worth : (files mid after : Option FileMap) (hex pads name : List ℕ) (work : Work) → IsToldOf files hex pads (Made work)
    → WritesFile mid name work.text.items after → FilesHinted files after hex pads name
hints_worth files mid after hex pads name work told written = record {
  image = told.image;
  list = told.list;
  spelled_image = told.spelled_image;
  spelled_pads = told.spelled_pads;
  hints = told.is.hints;
  holds = subst (HoldsFile after name) told.is.text (holds_written mid after name work.text.items written);
  silent = told.is.silent;
  short = told.is.short;
}

-- What a status tells

module _ (files after : Option FileMap) (load_fault write_fault : Type 0) (hex pads : List ℕ) (irq : Response) (name : List ℕ)
    (came : Status) (old new : Option (List ℕ)) (outcome : MayCome (HintsAnswers files load_fault hex pads irq name) NoPart write_fault
    came (outside files old) (outside after new)) where
  left_alone : (answer : Answer) → HintsAnswers files load_fault hex pads irq name answer
      → Ends answer write_fault came (outside files old) (outside after new) → answer.status ≡ Refused → after ≡ files
  left_alone answer (inl fails) ends is =
      elim (fails_status files load_fault hex text_limit RefusesHex answer fails) [
        | inl unread ↦ absurd (cc (unread.0, is))
        | inr bad ↦ absurd (cc (bad, is))
      ]
  left_alone answer (inr (image, says, inl fails)) ends is =
      elim (fails_status files load_fault pads text_limit RefusesPads answer fails) [
        | inl unread ↦ absurd (cc (unread.0, is))
        | inr bad ↦ absurd (cc (bad, is))
      ]
  left_alone answer (inr (image, says, inr (list, spelled, (Hints hints, allowed, told)))) ends is =
      absurd (cc (ap (λ a. a.status) told, is))
  left_alone answer (inr (image, says, inr (list, spelled, (BadSource, allowed, told)))) ends is =
      subst (λ (a : Answer). WritesAll files a.writes after) told ends.files
  left_alone answer (inr (image, says, inr (list, spelled, (Nothing why, allowed, told)))) ends is =
      subst (λ (a : Answer). WritesAll files a.writes after) told ends.files

  -- nothing is written where there are no hints
  pub hints_leave : came ≡ Refused → after ≡ files
  hints_leave is =
      elim (came_from (HintsAnswers files load_fault hex pads irq name) NoPart write_fault came (outside files old) (outside after new)
      outcome) [
        | inl none ↦ absurd (cc (none, is))
        | inr (inl cut) ↦ absurd (cc (cut.0, is))
        | inr (inr given) ↦ left_alone given.0 given.1 given.2 (sym given.2.status ∙ is)
      ]

-- What a shelf that tells its files gives

proposed_status : (name : List ℕ) (start : State PadHistory) (answer : Answer) → IsProposed name start answer
    → (answer.status ≡ Refused) ⊎ (answer.status ≡ Done)
proposed_status name start answer (Hints hints, allowed, told) = inr (ap (λ a. a.status) told)
proposed_status name start answer (BadSource, allowed, told) = inl (ap (λ a. a.status) told)
proposed_status name start answer (Nothing why, allowed, told) = inl (ap (λ a. a.status) told)

-- the statuses of `hints`, and the cause of Unread
pub hints_status : (files : Option FileMap) (load_fault : Type 0) (hex pads : List ℕ) (irq : Response) (name : List ℕ) (answer : Answer)
    → HintsAnswers files load_fault hex pads irq name answer
    → ((answer.status ≡ Unread) × (load_fault ⊎ RunLacks files hex pads))
    ⊎ ((answer.status ≡ BadInput) ⊎ ((answer.status ≡ Refused) ⊎ (answer.status ≡ Done)))
hints_status files load_fault hex pads irq name answer h =
    elim (run_status (IsProposed name) files load_fault hex pads irq answer h) [
      | inl unread ↦ inl unread
      | inr (inl bad) ↦ inr (inl bad)
      | inr (inr (start, proposed)) ↦ inr (inr (proposed_status name start answer proposed))
    ]

-- loading met a fault, or none is needed for the answer
pub hints_or_fault : (files : Option FileMap) (load_fault : Type 0) (hex pads : List ℕ) (irq : Response) (name : List ℕ) (answer : Answer)
    → HintsAnswers files load_fault hex pads irq name answer → load_fault ⊎ HintsAnswers files ⊥ hex pads irq name answer
hints_or_fault files load_fault hex pads irq name = run_or_fault (IsProposed name) files load_fault hex pads irq

-- it and what is proposed give one answer
pub record HintsDecided (files : FileMap) (hex pads : List ℕ) (irq : Response) (name : List ℕ) (answer : Answer) : Type 0 where
  pub proposal : Proposal
  pub allowed : IsProposal proposal
  pub decided : (wanted : Answer) → HintsAnswersBy (Some files) hex pads irq name proposal wanted → answer ≡ wanted

one_of : {A : Type 0} → A ⊎ ⊥ → A
one_of (inl a) = a
one_of (inr none) = absurd none

module _ (readings : Readings) (files : FileMap) (hex pads : List ℕ) (irq : Response) (name : List ℕ) (answer : Answer) where
  same_by : (proposal : Proposal) → HintsAnswersBy (Some files) hex pads irq name proposal answer → (wanted : Answer)
      → HintsAnswersBy (Some files) hex pads irq name proposal wanted → answer ≡ wanted
  same_by proposal p wanted q =
      one_of (run_same (IsProposedBy name proposal) readings files ⊥ hex pads irq answer wanted (λ start x y. x ∙ sym y) p q)

  pub hints_decided : HintsAnswers (Some files) ⊥ hex pads irq name answer → HintsDecided files hex pads irq name answer
  hints_decided (inl fails) = record { proposal = BadSource; allowed = tt; decided = same_by BadSource (inl fails) }
  hints_decided (inr (image, says, inl fails)) =
      record { proposal = BadSource; allowed = tt; decided = same_by BadSource (inr (image, says, inl fails)) }
  hints_decided (inr (image, says, inr (list, spelled, (proposal, allowed, told)))) =
      record { proposal = proposal; allowed = allowed; decided = same_by proposal (inr (image, says, inr (list, spelled, told))) }

-- What `debug` answers.
use Rattle.std.proofs.Common.{◌≡◌, ◌⊎◌, ◌≤◌, inl, inr, ℕ, List, [], refl, sym, ap, ◌∙◌, subst}
use Rattle.std.specs.Prelude.{Option, Some}
use Rattle.uz_shelf.specs.Faults.{Rose}
use Rattle.uz_shelf.specs.Files.{FileMap}
use Rattle.uz_hex.specs.Reading.{Flash}
use Rattle.uz_schedule.specs.declared.kinds.Response.{Response}
use Rattle.uz_hex.specs.Lines.{lines_of}
use Rattle.uz_pads.specs.declared.pads.Pad.{Pad}
use Rattle.uz_core.specs.PadLine.{PadHistory}
use Rattle.uz_core.specs.Turn.{State}
use Rattle.uz_debug.specs.Debuggers.{Debugs, session_of}
use Rattle.uz_debug.specs.SessionText.{Prints}
use Rattle.uz_debug.specs.Sessions.{session_at_reset}
use Rattle.uz_debug.specs.declared.command.Command.{Command}
use Rattle.uz_debug.specs.declared.command.Reply.{Reply}
use Rattle.uz_debug.specs.declared.debugger.Debugger.{Debugger}
use Rattle.uz_debug.proofs.ScriptLaws.{one_fault, one_list, read_or_faulty}
use Rattle.uz_debug.proofs.SessionLaws.{prints_same}
use Rattle.uz_files.specs.declared.ending.Failure.{Failure}
use Rattle.uz_files.specs.declared.status.Status.TheVariants.{Done, Unread, BadInput}
use Rattle.uz_files.specs.Answers.{Answer, one_line}
use Rattle.uz_files.specs.Endings.{EndsBy}
use Rattle.uz_files.specs.Reading.{Fails, IsReader, Says, text_limit}
use Rattle.uz_debug.specs.WhyNames.{script_why_name}
use Rattle.uz_program_commands.specs.ScriptFile.{HasScriptFault, RefusesScript, SpellsScript}
use Rattle.uz_files.specs.RunFiles.{RunPreface, start_of}
use Rattle.uz_program_commands.specs.DebugCommand.{DebugAnswers, DebugAnswersFor, DebugAnswersWith, DebugLacks, DebugSucceeds, IsDebugged}
use Rattle.uz_program_commands.specs.DebugCommand.{IsDebuggedOf, StartsDebug}
use Rattle.uz_files.proofs.FaultLemmas.{rose_later}
use Rattle.uz_files.proofs.ReadingLemmas.{ends_by, fails_by, one_refusal}
use Rattle.uz_files.proofs.ReadsLemmas.{fails_says, fails_status, reads_or_fault, reads_same}
use Rattle.uz_hex.specs.HexText.{IsHexOf}
use Rattle.uz_files.specs.Formats.{Readings, RefusesHex, RefusesPads, SpellsPads}

-- The script's file

script_reader : IsReader SpellsScript RefusesScript
script_reader = record {
  one = λ text. one_list (lines_of text);
  first = one_refusal HasScriptFault script_why_name (λ text. one_fault (lines_of text));
  apart = λ text commands fault spells refuses. read_or_faulty (lines_of text) commands fault.0 refuses.0 spells refuses.1;
}

-- What the command's steps give

-- both files are read
pub starts_debug : (files after : Option FileMap) (hex pads : List ℕ) (irq : Response) (image : Flash) (list : List Pad)
    (debugger : Debugger) → after ≡ files → Says files hex text_limit IsHexOf image → Says after pads text_limit SpellsPads list
    → Debugs (start_of image list irq) [] debugger → StartsDebug files hex pads irq debugger
starts_debug files after hex pads irq image list debugger same says spelled debugs = record {
  image = image;
  list = list;
  spelled_image = says;
  spelled_pads = subst (λ f. Says f pads text_limit SpellsPads list) same spelled;
  debugs = debugs;
}

preface_debug : (files : Option FileMap) (load_fault : Type 0) (hex pads : List ℕ) (irq : Response) (script : List ℕ) (answer : Answer)
    → RunPreface files load_fault hex pads answer → DebugAnswers files load_fault hex pads irq script answer
preface_debug files load_fault hex pads irq script answer (inl fails) = inl fails
preface_debug files load_fault hex pads irq script answer (inr (image, says, fails)) = inr (image, says, inl fails)

-- one of the first two files ends the command
pub debug_without_pads : (files : Option FileMap) (load_fault : Type 0) (hex pads : List ℕ) (irq : Response) (script : List ℕ)
    (failure : Failure) → EndsBy (RunPreface files load_fault hex pads) failure
    → EndsBy (DebugAnswers files load_fault hex pads irq script) failure
debug_without_pads files load_fault hex pads irq script failure = ends_by (RunPreface files load_fault hex pads)
    (DebugAnswers files load_fault hex pads irq script) failure (preface_debug files load_fault hex pads irq script)

-- the script's file does
pub debug_without_script : (files after : Option FileMap) (old mid new : ℕ) (hex pads : List ℕ) (irq : Response) (script : List ℕ)
    (debugger : Debugger) (failure : Failure) → after ≡ files → old ≤ mid → StartsDebug files hex pads irq debugger
    → EndsBy (Fails after (Rose mid new) script text_limit RefusesScript) failure
    → EndsBy (DebugAnswers files (Rose old new) hex pads irq script) failure
debug_without_script files after old mid new hex pads irq script debugger failure same up starts fails =
    ends_by (Fails after (Rose mid new) script text_limit RefusesScript) (DebugAnswers files (Rose old new) hex pads irq script) failure
    (λ answer h. inr (
      starts.image,
      starts.spelled_image,
      inr (
        starts.list,
        starts.spelled_pads,
        inl (fails_by files (Rose mid new) (Rose old new) script text_limit RefusesScript answer (rose_later old mid new up)
            (subst (λ f. Fails f (Rose mid new) script text_limit RefusesScript answer) same h)),
      ),
    )) fails

-- all files are read, and the commands are done
pub debug_read : (files after : Option FileMap) (load_fault : Type 0) (hex pads : List ℕ) (irq : Response) (script : List ℕ)
    (debugger last : Debugger) (commands : List Command) (text : List ℕ) → after ≡ files → StartsDebug files hex pads irq debugger
    → Says after script text_limit SpellsScript commands →
    ((start : State PadHistory) (done : List (Command × Reply)) → Debugs start done debugger → Prints start (session_of debugger) commands
    text (session_of last)) → DebugAnswers files load_fault hex pads irq script (one_line Done text)
debug_read files after load_fault hex pads irq script debugger last commands text same starts says prints =
    let start = start_of starts.image starts.list irq in
    inr (
      starts.image,
      starts.spelled_image,
      inr (
        starts.list,
        starts.spelled_pads,
        inr (
          commands,
          subst (λ f. Says f script text_limit SpellsScript commands) same says,
          record {
            text = text;
            last = session_of last;
            prints = subst (λ s. Prints start s commands text (session_of last)) starts.debugs.session (prints start [] starts.debugs);
            printed = refl;
          },
        ),
      ),
    )

-- The statuses of `debug`, and the cause of Unread

pub debug_status : (files : Option FileMap) (load_fault : Type 0) (hex pads : List ℕ) (irq : Response) (script : List ℕ) (answer : Answer)
    → DebugAnswers files load_fault hex pads irq script answer
    → ((answer.status ≡ Unread) × (load_fault ⊎ DebugLacks files hex pads script)) ⊎ ((answer.status ≡ BadInput) ⊎ (answer.status ≡ Done))
debug_status files load_fault hex pads irq script answer (inl fails) =
    elim (fails_status files load_fault hex text_limit RefusesHex answer fails) [
      | inl (is, inl fault) ↦ inl (is, inl fault)
      | inl (is, inr lacks) ↦ inl (is, inr (inl lacks))
      | inr bad ↦ inr (inl bad)
    ]
debug_status files load_fault hex pads irq script answer (inr (image, says, inl fails)) =
    elim (fails_status files load_fault pads text_limit RefusesPads answer fails) [
      | inl (is, inl fault) ↦ inl (is, inl fault)
      | inl (is, inr lacks) ↦ inl (is, inr (inr (inl (image, says, lacks))))
      | inr bad ↦ inr (inl bad)
    ]
debug_status files load_fault hex pads irq script answer (inr (image, says, inr (list, spelled, inl fails))) =
    elim (fails_status files load_fault script text_limit RefusesScript answer fails) [
      | inl (is, inl fault) ↦ inl (is, inl fault)
      | inl (is, inr lacks) ↦ inl (is, inr (inr (inr (image, list, says, spelled, lacks))))
      | inr bad ↦ inr (inl bad)
    ]
debug_status files load_fault hex pads irq script answer (inr (image, says, inr (list, spelled, inr (commands, read, debugged)))) =
    inr (inr (ap (λ a. a.status) debugged.printed))

same_session : (load_fault : Type 0) (start : State PadHistory) (commands : List Command) (a b : Answer) → IsDebugged start commands a
    → IsDebugged start commands b → (a ≡ b) ⊎ load_fault
same_session load_fault start commands a b p q =
    inl (p.printed ∙ (ap (one_line Done) (prints_same start session_at_reset commands p.text q.text p.last q.last p.prints q.prints).0
    ∙ sym q.printed))

-- a shelf that tells its files gives one answer, unless loading met a fault
pub debug_same : (readings : Readings) (files : FileMap) (load_fault : Type 0) (hex pads : List ℕ) (irq : Response) (script : List ℕ)
    (a b : Answer)
    → DebugAnswers (Some files) load_fault hex pads irq script a → DebugAnswers (Some files) ⊥ hex pads irq script b → (a ≡ b) ⊎ load_fault
debug_same readings files load_fault hex pads irq script a b =
    reads_same files load_fault hex text_limit IsHexOf RefusesHex readings.image
    (DebugAnswersFor (Some files) load_fault pads irq script) (DebugAnswersFor (Some files) ⊥ pads irq script) a b (λ image.
    reads_same files load_fault pads text_limit SpellsPads RefusesPads readings.pads (DebugAnswersWith (Some files) load_fault irq script
    image) (DebugAnswersWith (Some files) ⊥ irq script image) a b (λ list.
    reads_same files load_fault script text_limit SpellsScript RefusesScript script_reader (IsDebuggedOf irq image list)
    (IsDebuggedOf irq image list) a b (λ commands.
    same_session load_fault (start_of image list irq) commands a b)))

-- where the three files are well each answer is done, unless loading met a fault
pub debug_done : (readings : Readings) (files : FileMap) (load_fault : Type 0) (hex pads : List ℕ) (irq : Response) (script : List ℕ)
    → DebugSucceeds (Some files)
    hex pads script → (load_fault → ⊥) → (answer : Answer) → DebugAnswers (Some files) load_fault hex pads irq script answer
    → answer.status ≡ Done
debug_done readings files load_fault hex pads irq script well loads answer (inl fails) =
    absurd (loads (fails_says files load_fault hex text_limit IsHexOf RefusesHex readings.image load_fault answer
    well.image fails well.spelled_image))
debug_done readings files load_fault hex pads irq script well loads answer (inr (image, says, inl fails)) =
    absurd (loads (fails_says files load_fault pads text_limit SpellsPads RefusesPads readings.pads load_fault answer well.list fails
    well.spelled_pads))
debug_done readings files load_fault hex pads irq script well loads answer (inr (image, says, inr (list, spelled, inl fails))) =
    absurd (loads (fails_says files load_fault script text_limit SpellsScript RefusesScript script_reader load_fault answer well.commands
    fails well.spelled_script))
debug_done readings files load_fault hex pads irq script well loads answer
    (inr (image, says, inr (list, spelled, inr (commands, read, debugged)))) =
    ap (λ a. a.status) debugged.printed

-- loading met a fault, or none is needed for the answer
pub debug_or_fault : (files : Option FileMap) (load_fault : Type 0) (hex pads : List ℕ) (irq : Response) (script : List ℕ) (answer : Answer)
    → DebugAnswers files load_fault hex pads irq script answer → load_fault ⊎ DebugAnswers files ⊥ hex pads irq script answer
debug_or_fault files load_fault hex pads irq script answer h =
    reads_or_fault files load_fault hex text_limit IsHexOf RefusesHex (DebugAnswersFor files load_fault pads irq script)
    (DebugAnswersFor files ⊥ pads irq script) answer (λ image.
    reads_or_fault files load_fault pads text_limit SpellsPads RefusesPads (DebugAnswersWith files load_fault irq script image)
    (DebugAnswersWith files ⊥ irq script image) answer (λ list.
    reads_or_fault files load_fault script text_limit SpellsScript RefusesScript (IsDebuggedOf irq image list) (IsDebuggedOf irq image list)
    answer (λ commands h. inr h))) h

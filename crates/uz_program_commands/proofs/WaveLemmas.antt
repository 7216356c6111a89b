-- What `wave` answers: a file that is written, and a line.
use Rattle.std.proofs.Common.{◌≡◌, ◌⊎◌, inl, inr, ℕ, List, [], Vec, Global, refl, sym, ap, ◌∙◌, subst}
use Rattle.std.specs.Prelude.{Option, Some, Result, Ok, Err, IfErr, IfOk}
use Rattle.uz_shelf.specs.Files.{FileMap, HoldsFile}
use Rattle.uz_schedule.specs.declared.kinds.Response.{Response}
use Rattle.uz_core.specs.declared.step.Why.{Why}
use Rattle.uz_core.specs.declared.machine.Edge.{Edge}
use Rattle.uz_core.specs.PadLine.{PadHistory}
use Rattle.uz_core.specs.Turn.{State}
use Rattle.uz_console.proofs.RunLaws.{one_run, one_stopped_run, over_or_stopped}
use Rattle.uz_console.specs.declared.console.Console.{Console}
use Rattle.uz_console.specs.Runs.{RunsTo}
use Rattle.uz_console.specs.Turns.{Halts}
use Rattle.uz_report.specs.declared.sound_file.Wave.{Wave}
use Rattle.uz_report.specs.Waves.{Holds, samples, samples_of, wave_of}
use Rattle.uz_scan.specs.Pictures.{newest_first}
use Rattle.uz_files.specs.declared.ending.Ending.{Ending}
use Rattle.uz_files.specs.declared.ending.Failure.{Failure}
use Rattle.uz_files.specs.declared.ending.Failure.TheVariants.{Memory as NoRoom}
use Rattle.uz_files.specs.declared.status.Status.{Status}
use Rattle.uz_files.specs.declared.status.Status.TheVariants.{Done, Unread, BadInput, Stopped}
use Rattle.uz_files.specs.Answers.{Answer, ComesOf, Ends, MayCome, NoPart, WritesAll, one_line, outside}
use Rattle.uz_files.specs.Endings.{ComesOfFailure, EndsBy, answer_of}
use Rattle.uz_files.specs.Formats.{Readings, RefusesHex, RefusesPads}
use Rattle.uz_files.specs.Reading.{text_limit}
use Rattle.uz_files.specs.Writing.{written_then}
use Rattle.uz_files.proofs.EndingLemmas.{comes_by, run_outcome}
use Rattle.uz_files.proofs.OutcomeLemmas.{came_from}
use Rattle.uz_files.proofs.ReadingLemmas.{ends_by}
use Rattle.uz_files.proofs.ReadsLemmas.{fails_status}
use Rattle.uz_files.proofs.WriteLemmas.{holds_written}
use Rattle.uz_files.specs.RunFiles.{RunLacks, RunPreface, RunSucceeds, StartsRun, start_of}
use Rattle.uz_files.specs.StopLines.{stopped_line}
use Rattle.uz_files.proofs.RunFileLemmas.{preface_answers, run_answers, run_or_fault, run_same, run_status, same_why}
use Rattle.uz_program_commands.specs.declared.listening.Heard.{Heard}
use Rattle.uz_program_commands.specs.declared.listening.Heard.TheVariants.{Over, Stopped as StoppedAt}
use Rattle.uz_program_commands.specs.declared.wave_command.Task.{Task}
use Rattle.uz_program_commands.specs.declared.wave_command.Task.TheVariants.{Write, Stop}
use Rattle.uz_program_commands.specs.WaveCommand.{FilesHeard, IsHeardRun, IsHeardStopped, WaveAnswers, count_line, wave_file}
use Rattle.uz_program_commands.specs.WaveValues.{IsHeard, IsTask, IsTaskOf}

-- What the steps give

-- nothing but memory was lacking
pub only_room : (P : Answer → Type 0) (r : Result Task Failure) → IfErr r (λ failure. failure ≡ NoRoom) → IfErr r (EndsBy P)
only_room P (Ok task) h = tt
only_room P (Err failure) h = subst (EndsBy P) (sym h) tt

-- the run from reset is heard
pub task_heard : (files : Option FileMap) (hex pads : List ℕ) (irq : Response) (clocks : ℕ) (console : Console) (r : Result Task Failure)
    → StartsRun files hex pads irq console
    → IfOk r (λ task. (start : State PadHistory) → RunsTo clocks start [] console → IsTaskOf clocks start task)
    → IfOk r (IsTask files hex pads irq clocks)
task_heard files hex pads irq clocks console (Ok task) starts h = record {
  image = starts.image;
  list = starts.list;
  spelled_image = starts.spelled_image;
  spelled_pads = starts.spelled_pads;
  of = h (start_of starts.image starts.list irq) (starts.run clocks);
}
task_heard files hex pads irq clocks console (Err failure) starts h = tt

-- the run is over: the file is written, and the line tells its samples
pub task_over : (clocks : ℕ) (start : State PadHistory) (heard : Heard) (wave : Wave) (line : Vec ℕ Global) → heard ≡ Over wave
    → ((edges : List Edge) → Holds wave edges → line.items ≡ count_line (samples edges)) → IsHeard clocks start heard
    → IsTaskOf clocks start (Write wave line)
task_over clocks start heard wave line is tells h =
    let run = subst (IsHeard clocks start) is h in (run.0, run.1, run.2, run.3, tells (newest_first run.0) run.3)

-- it is stopped
pub task_stopped : (clocks : ℕ) (start : State PadHistory) (heard : Heard) (pc : ℕ) (why : Why) (line : List ℕ)
    → heard ≡ StoppedAt pc why → line ≡ stopped_line pc why → IsHeard clocks start heard
    → IsHeardStopped clocks start (one_line Stopped line)
task_stopped clocks start heard pc why line is tells h =
    let run = subst (IsHeard clocks start) is h in
    record {
      edges = run.0;
      last = run.1;
      why = why;
      run = run.2;
      halts = run.3;
      told = ap (one_line Stopped) (tells ∙ ap (λ at. stopped_line at why) run.4);
    }

-- a file ends the command
pub wave_failed : (files after : Option FileMap) (load_fault narrow wide : Type 0) (hex pads : List ℕ) (irq : Response) (clocks : ℕ)
    (wav : List ℕ) (failure : Failure) (came : Status) (old new : Option (List ℕ)) → after ≡ files → (narrow → wide)
    → EndsBy (RunPreface files load_fault hex pads) failure
    → ((f : Option FileMap) → ComesOfFailure failure narrow came (outside f old) (outside f new))
    → MayCome (WaveAnswers files load_fault hex pads irq clocks wav) NoPart wide came (outside files old) (outside after new)
wave_failed files after load_fault narrow wide hex pads irq clocks wav failure came old new same widen given comes =
    run_outcome (WaveAnswers files load_fault hex pads irq clocks wav) NoPart (Err failure) came narrow wide files after old new widen same
    (ends_by (RunPreface files load_fault hex pads) (WaveAnswers files load_fault hex pads irq clocks wav) failure
    (preface_answers (IsHeardRun clocks wav) files load_fault hex pads irq) given) comes

-- the run is stopped
pub wave_stopped : (files after : Option FileMap) (load_fault narrow wide : Type 0) (hex pads : List ℕ) (irq : Response) (clocks : ℕ)
    (wav : List ℕ) (ending : Ending) (came : Status) (old new : Option (List ℕ)) → after ≡ files → (narrow → wide)
    → IsTask files hex pads irq clocks (Stop ending)
    → ((f : Option FileMap) → ComesOf (answer_of ending) narrow came (outside f old) (outside f new))
    → MayCome (WaveAnswers files load_fault hex pads irq clocks wav) NoPart wide came (outside files old) (outside after new)
wave_stopped files after load_fault narrow wide hex pads irq clocks wav ending came old new same widen task comes =
    run_outcome (WaveAnswers files load_fault hex pads irq clocks wav) NoPart (Ok ending) came narrow wide files after old new widen same
    (run_answers (IsHeardRun clocks wav) files load_fault hex pads irq task.image task.list (answer_of ending) task.spelled_image
    task.spelled_pads (inr task.of)) comes

-- the file is written
pub wave_written : (files mid after : Option FileMap) (load_fault narrow wide : Type 0) (hex pads : List ℕ) (irq : Response) (clocks : ℕ)
    (wav : List ℕ) (wave : Wave) (line : Vec ℕ Global) (came : Status) (old new : Option (List ℕ)) → mid ≡ files → (narrow → wide)
    → (task : IsTask files hex pads irq clocks (Write wave line))
    → ((edges : List Edge) → Holds wave (newest_first edges) → ComesOf (written_then (wave_file wav edges) line.items) narrow came (outside mid old)
    (outside after new))
    → MayCome (WaveAnswers files load_fault hex pads irq clocks wav) NoPart wide came (outside files old) (outside after new)
wave_written files mid after load_fault narrow wide hex pads irq clocks wav wave line came old new same widen task comes =
    let edges = task.of.0 in
    let answer = written_then (wave_file wav edges) (count_line (samples_of edges)) in
    let from = subst (λ l. ComesOf (written_then (wave_file wav edges) l) narrow came (outside mid old) (outside after new)) task.of.4
    (comes edges task.of.3) in
    inr (inl (
      answer,
      run_answers (IsHeardRun clocks wav) files load_fault hex pads irq task.image task.list answer task.spelled_image task.spelled_pads
          (inl (record { edges = edges; last = task.of.1; run = task.of.2; told = refl })),
      comes_by answer came narrow wide (outside files old) (outside after new) widen
          (subst (λ f. ComesOf answer narrow came (outside f old) (outside after new)) same from),
    ))

-- What a status tells

module _ (files after : Option FileMap) (load_fault write_fault : Type 0) (hex pads : List ℕ) (irq : Response) (clocks : ℕ) (wav : List ℕ)
    (came : Status) (old new : Option (List ℕ)) (outcome : MayCome (WaveAnswers files load_fault hex pads irq clocks wav) NoPart write_fault
    came (outside files old) (outside after new)) where
  heard_whole : (answer : Answer) → WaveAnswers files load_fault hex pads irq clocks wav answer
      → Ends answer write_fault came (outside files old) (outside after new) → answer.status ≡ Done
      → FilesHeard files after hex pads irq clocks wav
  heard_whole answer (inl fails) ends is =
      elim (fails_status files load_fault hex text_limit RefusesHex answer fails) [
        | inl unread ↦ absurd (cc (unread.0, is))
        | inr bad ↦ absurd (cc (bad, is))
      ]
  heard_whole answer (inr (image, says, inl fails)) ends is =
      elim (fails_status files load_fault pads text_limit RefusesPads answer fails) [
        | inl unread ↦ absurd (cc (unread.0, is))
        | inr bad ↦ absurd (cc (bad, is))
      ]
  heard_whole answer (inr (image, says, inr (list, spelled, inr stopped))) ends is = absurd (cc (ap (λ a. a.status) stopped.told, is))
  heard_whole answer (inr (image, says, inr (list, spelled, inl whole))) ends is =
      let written = subst (λ (a : Answer). WritesAll files a.writes after) whole.told ends.files in
      record {
        image = image;
        list = list;
        spelled_image = says;
        spelled_pads = spelled;
        edges = whole.edges;
        last = whole.last;
        run = whole.run;
        holds = subst (λ f. HoldsFile f wav (wave_of whole.edges)) (sym written.2)
            (holds_written files written.0 wav (wave_of whole.edges) written.1);
      }

  left_alone : (answer : Answer) → WaveAnswers files load_fault hex pads irq clocks wav answer
      → Ends answer write_fault came (outside files old) (outside after new) → answer.status ≡ Stopped → after ≡ files
  left_alone answer (inl fails) ends is =
      elim (fails_status files load_fault hex text_limit RefusesHex answer fails) [
        | inl unread ↦ absurd (cc (unread.0, is))
        | inr bad ↦ absurd (cc (bad, is))
      ]
  left_alone answer (inr (image, says, inl fails)) ends is =
      elim (fails_status files load_fault pads text_limit RefusesPads answer fails) [
        | inl unread ↦ absurd (cc (unread.0, is))
        | inr bad ↦ absurd (cc (bad, is))
      ]
  left_alone answer (inr (image, says, inr (list, spelled, inl whole))) ends is = absurd (cc (ap (λ a. a.status) whole.told, is))
  left_alone answer (inr (image, says, inr (list, spelled, inr stopped))) ends is =
      subst (λ (a : Answer). WritesAll files a.writes after) stopped.told ends.files

  -- a `wave` that is done
  pub wave_worth : came ≡ Done → FilesHeard files after hex pads irq clocks wav
  wave_worth is =
      elim (came_from (WaveAnswers files load_fault hex pads irq clocks wav) NoPart write_fault came (outside files old) (outside after new)
      outcome) [
        | inl none ↦ absurd (cc (none, is))
        | inr (inl cut) ↦ absurd (cc (cut.0, is))
        | inr (inr given) ↦ heard_whole given.0 given.1 given.2 (sym given.2.status ∙ is)
      ]

  -- one that is stopped
  pub wave_leaves : came ≡ Stopped → after ≡ files
  wave_leaves is =
      elim (came_from (WaveAnswers files load_fault hex pads irq clocks wav) NoPart write_fault came (outside files old) (outside after new)
      outcome) [
        | inl none ↦ absurd (cc (none, is))
        | inr (inl cut) ↦ absurd (cc (cut.0, is))
        | inr (inr given) ↦ left_alone given.0 given.1 given.2 (sym given.2.status ∙ is)
      ]

-- What a shelf that tells its files gives

is_heard_status : (clocks : ℕ) (wav : List ℕ) (start : State PadHistory) (answer : Answer) → IsHeardRun clocks wav start answer
    → (answer.status ≡ Done) ⊎ (answer.status ≡ Stopped)
is_heard_status clocks wav start answer (inl whole) = inl (ap (λ a. a.status) whole.told)
is_heard_status clocks wav start answer (inr stopped) = inr (ap (λ a. a.status) stopped.told)

-- the statuses of `wave`, and the cause of Unread
pub wave_status : (files : Option FileMap) (load_fault : Type 0) (hex pads : List ℕ) (irq : Response) (clocks : ℕ) (wav : List ℕ)
    (answer : Answer) → WaveAnswers files load_fault hex pads irq clocks wav answer
    → ((answer.status ≡ Unread) × (load_fault ⊎ RunLacks files hex pads))
    ⊎ ((answer.status ≡ BadInput) ⊎ ((answer.status ≡ Done) ⊎ (answer.status ≡ Stopped)))
wave_status files load_fault hex pads irq clocks wav answer h =
    elim (run_status (IsHeardRun clocks wav) files load_fault hex pads irq answer h) [
      | inl unread ↦ inl unread
      | inr (inl bad) ↦ inr (inl bad)
      | inr (inr (start, heard)) ↦ inr (inr (is_heard_status clocks wav start answer heard))
    ]

one_hearing : (clocks : ℕ) (wav : List ℕ) (a b : Answer) (start : State PadHistory) → IsHeardRun clocks wav start a
    → IsHeardRun clocks wav start b → a ≡ b
one_hearing clocks wav a b start (inl p) (inl q) =
    let same = one_run clocks start p.last q.last p.edges q.edges p.run q.run in
    p.told ∙ (ap (λ e. written_then (wave_file wav e) (count_line (samples_of e))) same.0 ∙ sym q.told)
one_hearing clocks wav a b start (inl p) (inr q) = absurd (over_or_stopped clocks start p.last q.last p.edges q.edges p.run q.run)
one_hearing clocks wav a b start (inr p) (inl q) = absurd (over_or_stopped clocks start q.last p.last q.edges p.edges q.run p.run)
one_hearing clocks wav a b start (inr p) (inr q) =
    let same = one_stopped_run clocks start p.last q.last p.edges q.edges p.run q.run in
    let why : p.why ≡ q.why = same_why q.last p.why q.why (subst (λ s. Halts s p.why) same.1 p.halts) q.halts in
    p.told
    ∙ (ap (λ (s : State PadHistory). one_line Stopped (stopped_line s.core.pc p.why)) same.1
    ∙ (ap (λ w. one_line Stopped (stopped_line q.last.core.pc w)) why ∙ sym q.told))

-- one answer, unless loading met a fault
pub wave_same : (readings : Readings) (files : FileMap) (load_fault : Type 0) (hex pads : List ℕ) (irq : Response) (clocks : ℕ)
    (wav : List ℕ) (a b : Answer) → WaveAnswers (Some files) load_fault hex pads irq clocks wav a
    → WaveAnswers (Some files) ⊥ hex pads irq clocks wav b → (a ≡ b) ⊎ load_fault
wave_same readings files load_fault hex pads irq clocks wav a b =
    run_same (IsHeardRun clocks wav) readings files load_fault hex pads irq a b (one_hearing clocks wav a b)

-- where all is well the answer is one that is done
pub wave_done : (files : Option FileMap) (hex pads : List ℕ) (irq : Response) (clocks : ℕ) (wav : List ℕ)
    → RunSucceeds files hex pads irq clocks → (answer : Answer) × WaveAnswers files ⊥ hex pads irq clocks wav answer
    × (answer.status ≡ Done)
wave_done files hex pads irq clocks wav h = (
  written_then (wave_file wav h.edges) (count_line (samples_of h.edges)),
  inr (
    h.image,
    h.spelled_image,
    inr (h.list, h.spelled_pads, inl (record { edges = h.edges; last = h.last; run = h.run; told = refl })),
  ),
  refl,
)

-- loading met a fault, or none is needed for the answer
pub wave_or_fault : (files : Option FileMap) (load_fault : Type 0) (hex pads : List ℕ) (irq : Response) (clocks : ℕ) (wav : List ℕ)
    (answer : Answer) → WaveAnswers files load_fault hex pads irq clocks wav answer
    → load_fault ⊎ WaveAnswers files ⊥ hex pads irq clocks wav answer
wave_or_fault files load_fault hex pads irq clocks wav = run_or_fault (IsHeardRun clocks wav) files load_fault hex pads irq

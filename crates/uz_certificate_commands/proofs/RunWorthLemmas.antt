-- Which status comes of a played run, and the laws of played runs.
use Rattle.std.proofs.Common.{◌≡◌, ◌≢◌, inl, inr, ℕ, List, sym, ap, ◌∙◌}
use Rattle.uz_hex.specs.Reading.{Flash}
use Rattle.uz_schedule.specs.declared.certificate.Cert.{Cert}
use Rattle.uz_schedule.specs.Limits.{ScheduleFits}
use Rattle.uz_core.specs.declared.machine.Edge.{Edge}
use Rattle.uz_core.specs.PadLine.{PadHistory}
use Rattle.uz_core.specs.Turn.{State, sync_level}
use Rattle.uz_core.specs.Run.{IsClockRun, IsStoppedRun}
use Rattle.uz_core.specs.StateRange.{IsState}
use Rattle.uz_console.specs.Approaches.{EntersFirst}
use Rattle.uz_check.specs.Certified.{Certified}
use Rattle.uz_check.specs.Steady.{IsSteady}
use Rattle.uz_check.specs.Keeping.{KeepsSchedule}
use Rattle.uz_files.specs.declared.ending.Ending.{Ending}
use Rattle.uz_files.specs.declared.ending.Failure.{Failure}
use Rattle.uz_files.specs.declared.ending.Failure.TheVariants.{Unread as UnreadFile, BadInput as BadFile, Memory as NoRoom}
use Rattle.uz_files.specs.declared.status.Status.{Status}
use Rattle.uz_files.specs.declared.status.Status.TheVariants as status
use Rattle.uz_files.specs.Answers.{Answer, ComesOf, NoPart, MayCome, Outside}
use Rattle.uz_files.specs.Endings.{ComesOfFailure, answer_of}
use Rattle.uz_certificate_commands.specs.Runs.{IsEnteredRun, IsFramedPart, IsFramedRun, IsHaltedRun}
use Rattle.uz_files.proofs.OutcomeLemmas.{from_answer}

-- Which status comes of what

done_not_memory : status.Done ≢ status.NoMemory
done_not_memory e = cc

done_not_unwritten : status.Done ≢ status.Unwritten
done_not_unwritten e = cc

stopped_not_memory : status.Stopped ≢ status.NoMemory
stopped_not_memory e = cc

stopped_not_unwritten : status.Stopped ≢ status.Unwritten
stopped_not_unwritten e = cc

module _ (frames : List ℕ) (cert : Cert) (clocks : ℕ) (start : State PadHistory) (write_fault : Type 0) (came : Status) (old new : Outside)
    (outcome : MayCome (IsFramedRun frames cert clocks start) (IsFramedPart frames clocks start) write_fault came old new) where
  pub done_run : came ≡ status.Done → (answer : Answer) × IsEnteredRun frames cert clocks start answer
  done_run is = by_run (from_answer (IsFramedRun frames cert clocks start) (IsFramedPart frames clocks start) write_fault came old new
      status.Done done_not_memory done_not_unwritten outcome is)
    where
      by_run : (answer : Answer) × IsFramedRun frames cert clocks start answer × (answer.status ≡ status.Done) → (answer : Answer)
          × IsEnteredRun frames cert clocks start answer
      by_run (answer, inl entered, e) = (answer, entered)
      by_run (answer, inr (inl unentered), e) = absurd (cc (ap (λ (a : Answer). a.status) unentered.told, e))
      by_run (answer, inr (inr halted), e) = absurd (cc (ap (λ (a : Answer). a.status) halted.told, e))

  pub stopped_run : came ≡ status.Stopped → (answer : Answer) × IsHaltedRun frames clocks start answer
  stopped_run is = by_run (from_answer (IsFramedRun frames cert clocks start) (IsFramedPart frames clocks start) write_fault came old new
      status.Stopped stopped_not_memory stopped_not_unwritten outcome is)
    where
      by_run : (answer : Answer) × IsFramedRun frames cert clocks start answer × (answer.status ≡ status.Stopped) → (answer : Answer)
          × IsHaltedRun frames clocks start answer
      by_run (answer, inl entered, e) = absurd (cc (ap (λ (a : Answer). a.status) entered.told, e))
      by_run (answer, inr (inl unentered), e) = absurd (cc (ap (λ (a : Answer). a.status) unentered.told, e))
      by_run (answer, inr (inr halted), e) = (answer, halted)

-- a pair that is refused
refused_status : (ending : Ending) (s came : Status) (write_fault : Type 0) (old new : Outside) → s ≢ status.NoMemory → s ≢ status.Unwritten
    → s ≢ status.Refused → (answer_of ending).status ≡ status.Refused → ComesOf (answer_of ending) write_fault came old new → came ≡ s → ⊥
refused_status ending s came write_fault old new memory written apart refused comes is =
    let from = from_answer (λ answer. answer ≡ answer_of ending) NoPart write_fault came old new s memory written
    (inr (inl (answer_of ending, (λ i. answer_of ending), comes))) is in
    apart (sym from.2 ∙ (ap (λ (a : Answer). a.status) from.1 ∙ refused))

pub refused_not_done : (C : Type 0) (ending : Ending) (came : Status) (write_fault : Type 0) (old new : Outside)
    → (answer_of ending).status ≡ status.Refused → ComesOf (answer_of ending) write_fault came old new → came ≡ status.Done → C
refused_not_done C ending came write_fault old new refused comes is = absurd (refused_status ending status.Done came write_fault old new
    done_not_memory done_not_unwritten (λ e. cc e) refused comes is)

pub refused_not_stopped : (C : Type 0) (ending : Ending) (came : Status) (write_fault : Type 0) (old new : Outside)
    → (answer_of ending).status ≡ status.Refused → ComesOf (answer_of ending) write_fault came old new → came ≡ status.Stopped → C
refused_not_stopped C ending came write_fault old new refused comes is = absurd (refused_status ending status.Stopped came write_fault old
    new stopped_not_memory stopped_not_unwritten (λ e. cc e) refused comes is)

-- a file that ends the command
failed_status : (failure : Failure) (s came : Status) (write_fault : Type 0) (old new : Outside) → s ≢ status.NoMemory
    → s ≢ status.Unwritten → s ≢ status.Unread → s ≢ status.BadInput → ComesOfFailure failure write_fault came old new → came ≡ s → ⊥
failed_status (UnreadFile line) s came write_fault old new memory written unread bad comes is =
    let from = from_answer (λ answer. answer.status ≡ status.Unread) NoPart write_fault came old new s memory written
    (inr (inl (_, (λ i. status.Unread), comes))) is in
    unread (sym from.2 ∙ from.1)
failed_status (BadFile line) s came write_fault old new memory written unread bad comes is =
    let from = from_answer (λ answer. answer.status ≡ status.BadInput) NoPart write_fault came old new s memory written
    (inr (inl (_, (λ i. status.BadInput), comes))) is in
    bad (sym from.2 ∙ from.1)
failed_status NoRoom s came write_fault old new memory written unread bad comes is = memory (sym is ∙ comes.status)

pub failed_not_done : (C : Type 0) (failure : Failure) (came : Status) (write_fault : Type 0) (old new : Outside) → ComesOfFailure failure
    write_fault came old new → came ≡ status.Done → C
failed_not_done C failure came write_fault old new comes is = absurd (failed_status failure status.Done came write_fault old new
    done_not_memory done_not_unwritten (λ e. cc e) (λ e. cc e) comes is)

pub failed_not_stopped : (C : Type 0) (failure : Failure) (came : Status) (write_fault : Type 0) (old new : Outside) → ComesOfFailure
    failure write_fault came old new → came ≡ status.Stopped → C
failed_not_stopped C failure came write_fault old new comes is = absurd (failed_status failure status.Stopped came write_fault old new
    stopped_not_memory stopped_not_unwritten (λ e. cc e) (λ e. cc e) comes is)

-- The law of played runs

abbrev pub RunsKeep : Type 0
RunsKeep =
    (image : Flash) (cert : Cert) (start : State PadHistory) (limit clock p : ℕ) → Certified image cert → IsSteady cert.schedule
    → ScheduleFits cert.schedule → IsState start → start.image ≡ image → sync_level start.space ≡ 0 → EntersFirst cert limit start clock
    p →
    (edges : List Edge) (last : State PadHistory) → IsClockRun limit start edges last → KeepsSchedule cert limit clock p edges

abbrev pub NeverStops : Type 0
NeverStops =
    (image : Flash) (cert : Cert) (start : State PadHistory) (limit clock p : ℕ) → Certified image cert → IsState start
    → start.image ≡ image → EntersFirst cert limit start clock p → (edges : List Edge) (last : State PadHistory) → IsStoppedRun limit
    start edges last → ⊥

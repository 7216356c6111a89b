-- How a command ends that creates one file and prints one line.
use Rattle.std.proofs.Common.{◌≡◌, ◌⊎◌, inl, inr, ℕ, List, [], ◌∷◌, refl, sym, subst}
use Rattle.std.specs.Prelude.{Option, Result, Ok, Err}
use Rattle.uz_shelf.specs.Faults.{Rose}
use Rattle.uz_shelf.specs.Files.{FileMap}
use Rattle.uz_shelf.specs.Text.{TakesAll}
use Rattle.uz_files.specs.declared.ending.Failure.{Failure}
use Rattle.uz_files.specs.declared.ending.Failure.TheVariants.{Unread as UnreadFile, BadInput as BadFile, Memory as NoRoom}
use Rattle.uz_files.specs.declared.status.Status.{Status}
use Rattle.uz_files.specs.declared.status.Status.TheVariants.{Done, Unwritten, NoMemory}
use Rattle.uz_files.specs.declared.work.Work.{Work}
use Rattle.uz_files.specs.Answers.{Answer, ComesOf, MayCome, NoPart, Outside, Write, WritesFile, one_line, outside}
use Rattle.uz_files.specs.Endings.{ComesOfFailure, Gives}
use Rattle.uz_files.specs.Writing.{IsAnswerOf, Prepares, WritesSome, WritesWork, answer_of_work}
use Rattle.uz_files.proofs.EndingLemmas.{comes_by, outcome_of}
use Rattle.uz_files.proofs.WriteLemmas.{comes_after_files, files_cut, files_lack, part_written}

module _ (files after : Option FileMap) (name : List ℕ) (work : Work) (came : Status) where
  abbrev file : Write
  file = record { name = name; bytes = work.text.items }

  pub work_done : (narrow wide : Type 0) (old new : Option (List ℕ)) → (narrow → wide) → WritesFile files name work.text.items after
      → ((f : Option FileMap) → ComesOf (one_line Done work.line.items) narrow came (outside f old) (outside f new))
      → MayCome (λ answer. answer ≡ answer_of_work name work) NoPart wide came (outside files old) (outside after new)
  work_done narrow wide old new widen written comes =
      inr (inl (
        answer_of_work name work,
        refl,
        comes_by (answer_of_work name work) came narrow wide (outside files old) (outside after new) widen
            (comes_after_files (file ∷ []) Done work.line.items files after (after, written, refl) old new narrow came (comes after)),
      ))

  pub work_cut : (wide : Type 0) (text : Option (List ℕ)) → wide → came ≡ Unwritten → WritesSome files name work.text.items after
      → MayCome (λ answer. answer ≡ answer_of_work name work) NoPart wide came (outside files text) (outside after text)
  work_cut wide text fault is part =
      inr (inl (
        answer_of_work name work,
        refl,
        files_cut file [] Done came work.line.items wide files after text fault is (part_written name work.text.items files after part),
      ))

  pub work_lacks : (wide : Type 0) (old new : Option (List ℕ)) → came ≡ NoMemory → TakesAll old [] new
      → WritesSome files name work.text.items after
      → MayCome (λ answer. answer ≡ answer_of_work name work) NoPart wide came (outside files old) (outside after new)
  work_lacks wide old new is text part =
      inr (inl (
        answer_of_work name work,
        refl,
        files_lack (file ∷ []) Done came work.line.items wide files after old new is text
            (part_written name work.text.items files after part),
      ))

failure_answers : (name : List ℕ) (failure : Failure) → Gives (IsAnswerOf name (Err failure)) (Err failure)
failure_answers name (UnreadFile line) = refl
failure_answers name (BadFile line) = refl
failure_answers name NoRoom = tt

-- no work was prepared
pub work_failed : (name : List ℕ) (prepared : Result Work Failure) (failure : Failure) (came : Status) (narrow wide : Type 0)
    (old new : Outside) → prepared ≡ Err failure → (narrow → wide) → ComesOfFailure failure narrow came old new
    → MayCome (IsAnswerOf name prepared) NoPart wide came old new
work_failed name prepared failure came narrow wide old new is widen comes =
    subst (λ p. MayCome (IsAnswerOf name p) NoPart wide came old new) (sym is)
    (outcome_of (IsAnswerOf name (Err failure)) NoPart (Err failure) came narrow wide old new widen (failure_answers name failure) comes)

pub work_given : (name : List ℕ) (prepared : Result Work Failure) (work : Work) (came : Status) (write_fault : Type 0) (old new : Outside)
    → prepared ≡ Ok work → MayCome (λ answer. answer ≡ answer_of_work name work) NoPart write_fault came old new
    → MayCome (IsAnswerOf name prepared) NoPart write_fault came old new
work_given name prepared work came write_fault old new is h =
    subst (λ p. MayCome (IsAnswerOf name p) NoPart write_fault came old new) (sym is) h

pub work_written : (name : List ℕ) (prepared : Result Work Failure) (work : Work) (files after : Option FileMap) → prepared ≡ Ok work
    → WritesFile files name work.text.items after → WritesWork files name prepared after
work_written name prepared work files after is h = subst (λ p. WritesWork files name p after) (sym is) h

-- an outcome of some answers is one of others
pub outcome_map : (P Q : Answer → Type 0) (narrow wide : Type 0) (came : Status) (old new : Outside) → (narrow → wide)
    → ((answer : Answer) → P answer → Q answer) → MayCome P NoPart narrow came old new → MayCome Q NoPart wide came old new
outcome_map P Q narrow wide came old new widen leads (inl starts) = inl starts
outcome_map P Q narrow wide came old new widen leads (inr (inl (answer, given, comes))) =
    inr (inl (answer, leads answer given, comes_by answer came narrow wide old new widen comes))
outcome_map P Q narrow wide came old new widen leads (inr (inr (answer, never, rest))) = absurd never

leads_on : (P : Answer → Type 0) (name : List ℕ) (prepared : Result Work Failure) → Prepares P name prepared → (answer : Answer)
    → IsAnswerOf name prepared answer → P answer
leads_on P name (Ok work) given answer is = subst P (sym is) given
leads_on P name (Err (UnreadFile line)) given answer is = subst P (sym is) given
leads_on P name (Err (BadFile line)) given answer is = subst P (sym is) given
leads_on P name (Err NoRoom) given answer is = absurd is

same_shelf : (was is now sink_old sink_new : ℕ) → is ≡ was → Rose is now ⊎ Rose sink_old sink_new → Rose was now ⊎ Rose sink_old sink_new
same_shelf was is now sink_old sink_new same (inl rose) = inl (subst (λ n. Rose n now) same rose)
same_shelf was is now sink_old sink_new same (inr rose) = inr rose

-- what was prepared left the files and the count of write faults, and it leads to the command's answers, which speak of the count
-- of load faults
pub finished : (P : ℕ → Answer → Type 0) (name : List ℕ) (prepared : Result Work Failure) (files mid after : Option FileMap)
    (loads loads_after was is now sink_old sink_new : ℕ) (came : Status) (old new : Option (List ℕ)) → mid ≡ files → is ≡ was
    → loads_after ≡ loads → Prepares (P loads) name prepared
    → MayCome (IsAnswerOf name prepared) NoPart (Rose is now ⊎ Rose sink_old sink_new) came (outside mid old) (outside after new)
    → MayCome (P loads_after) NoPart (Rose was now ⊎ Rose sink_old sink_new) came (outside files old) (outside after new)
finished P name prepared files mid after loads loads_after was is now sink_old sink_new came old new same counts loaded given h =
    outcome_map (IsAnswerOf name prepared) (P loads_after) (Rose is now ⊎ Rose sink_old sink_new) (Rose was now ⊎ Rose sink_old sink_new)
    came (outside files old) (outside after new) (same_shelf was is now sink_old sink_new counts)
    (λ answer is. subst (λ n. P n answer) (sym loaded) (leads_on (P loads) name prepared given answer is))
    (subst (λ f. MayCome (IsAnswerOf name prepared) NoPart (Rose is now ⊎ Rose sink_old sink_new) came (outside f old) (outside after new))
    same h)

-- What comes of printing the line that ends a command.
use Rattle.std.proofs.Common.{◌≡◌, ◌≢◌, inl, inr, ℕ, List, [], refl, sym, ◌∙◌, subst}
use Rattle.std.specs.Prelude.{Option, Result, Ok, Err, IfOk}
use Rattle.uz_shelf.specs.Files.{FileMap}
use Rattle.uz_shelf.specs.Text.{TakesAll, TakesPrefix}
use Rattle.uz_files.specs.declared.status.Status.{Status}
use Rattle.uz_files.specs.declared.status.Status.TheVariants as status
use Rattle.uz_files.specs.Answers.{Answer, Outside, ComesOf, MayCome, outside, one_line}
use Rattle.uz_files.specs.declared.ending.Ending.{Ending}
use Rattle.uz_files.specs.declared.ending.Failure.{Failure}
use Rattle.uz_files.specs.declared.ending.Failure.TheVariants.{Unread as UnreadFile, BadInput as BadFile, Memory as NoRoom}
use Rattle.uz_files.specs.Endings.{ComesOfFailure, ComesOfWork, Gives, answer_of}
use Rattle.uz_files.proofs.TextLemmas.{takes_prefix}

pub comes_done : (s came : Status) (line : List ℕ) (write_fault : Type 0) (files : Option FileMap) (old new : Option (List ℕ)) → came ≡ s
    → TakesAll old line new → ComesOf (one_line s line) write_fault came (outside files old) (outside files new)
comes_done s came line write_fault files old new same whole = inl (record {
  status = same;
  files = refl;
  done = λ _. whole;
  whole = λ _. whole;
  text = takes_prefix old line new whole;
})

-- the line of a fault, which a fault of writing may cut short
pub comes_fault : (s came : Status) (line : List ℕ) (write_fault : Type 0) (files : Option FileMap) (old new : Option (List ℕ))
    → s ≢ status.Done → came ≡ s → write_fault → TakesPrefix old line new → ComesOf (one_line s line) write_fault came (outside files old)
    (outside files new)
comes_fault s came line write_fault files old new apart same fault part = inl (record {
  status = same;
  files = refl;
  done = λ d. absurd (apart d);
  whole = λ none. absurd (none fault);
  text = part;
})

pub comes_unwritten : (s came : Status) (line : List ℕ) (write_fault : Type 0) (files : Option FileMap) (old new : Option (List ℕ))
    → s ≡ status.Done → came ≡ status.Unwritten → write_fault → TakesPrefix old line new → ComesOf (one_line s line) write_fault came
    (outside files old) (outside files new)
comes_unwritten s came line write_fault files old new done same fault part =
    inr (inl (same, fault, inr (refl, (line, inl (done, refl), part))))

pub comes_without_memory : (s came : Status) (line : List ℕ) (write_fault : Type 0) (files : Option FileMap) (old new : Option (List ℕ))
    → came ≡ status.NoMemory → TakesPrefix old line new → ComesOf (one_line s line) write_fault came (outside files old) (outside files new)
comes_without_memory s came line write_fault files old new same part = inr (inr (same, inr (refl, part)))

pub comes_by : (answer : Answer) (came : Status) (narrow wide : Type 0) (old new : Outside) → (narrow → wide) → ComesOf answer narrow came
    old new → ComesOf answer wide came old new
comes_by answer came narrow wide old new widen (inl ends) = inl (record {
  status = ends.status;
  files = ends.files;
  done = ends.done;
  whole = λ none. ends.whole (λ fault. none (widen fault));
  text = ends.text;
})
comes_by answer came narrow wide old new widen (inr (inl lost)) = inr (inl (lost.0, widen lost.1, lost.2))
comes_by answer came narrow wide old new widen (inr (inr lacks)) = inr (inr lacks)

some_answer : (P Part : Answer → Type 0) (answer : Answer) (came : Status) (narrow wide : Type 0) (old new : Outside) → (narrow → wide)
    → P answer → ComesOf answer narrow came old new → MayCome P Part wide came old new
some_answer P Part answer came narrow wide old new widen given comes =
    inr (inl (answer, given, comes_by answer came narrow wide old new widen comes))

-- how the work ended, and what came of printing it
pub outcome_of : (P Part : Answer → Type 0) (worked : Result Ending Failure) (came : Status) (narrow wide : Type 0) (old new : Outside)
    → (narrow → wide) → Gives P worked → ComesOfWork worked narrow came old new → MayCome P Part wide came old new
outcome_of P Part (Ok ending) came narrow wide old new widen given comes = some_answer P Part (answer_of ending) came narrow wide old new
    widen given comes
outcome_of P Part (Err (UnreadFile line)) came narrow wide old new widen given comes = some_answer P Part
    (one_line status.Unread line.items) came narrow wide old new widen given comes
outcome_of P Part (Err (BadFile line)) came narrow wide old new widen given comes = some_answer P Part (one_line status.BadInput line.items)
    came narrow wide old new widen given comes
outcome_of P Part (Err NoRoom) came narrow wide old new widen given comes = inl comes

-- a command is done only by an answer that is
done_by : (answer : Answer) (came : Status) (write_fault : Type 0) (old new : Outside) → ComesOf answer write_fault came old new
    → came ≡ status.Done → answer.status ≡ status.Done
done_by answer came write_fault old new (inl ends) done = sym ends.status ∙ done
done_by answer came write_fault old new (inr (inl lost)) done = absurd (cc (lost.0, done))
done_by answer came write_fault old new (inr (inr lacks)) done = absurd (cc (lacks.0, done))

-- what holds of work that is done
pub holds_if_done : (C : Type 0) (worked : Result Ending Failure) (came : Status) (write_fault : Type 0) (old new : Outside)
    → IfOk worked (λ e. e.status ≡ status.Done → C) → ComesOfWork worked write_fault came old new → came ≡ status.Done → C
holds_if_done C (Ok ending) came write_fault old new holds comes done = holds (done_by (answer_of ending) came write_fault old new comes
    done)
holds_if_done C (Err (UnreadFile line)) came write_fault old new holds comes done =
    absurd (cc (done_by (one_line status.Unread line.items) came write_fault old new comes done))
holds_if_done C (Err (BadFile line)) came write_fault old new holds comes done =
    absurd (cc (done_by (one_line status.BadInput line.items) came write_fault old new comes done))
holds_if_done C (Err NoRoom) came write_fault old new holds comes done = absurd (cc (comes.status, done))

pub comes_of_line : (s : Status) (line same : List ℕ) (write_fault : Type 0) (came : Status) (old new : Outside) → same ≡ line
    → ComesOf (one_line s same) write_fault came old new → ComesOf (one_line s line) write_fault came old new
comes_of_line s line same write_fault came old new e h = subst (λ l. ComesOf (one_line s l) write_fault came old new) e h

abbrev pub failure_status : Failure → Status
failure_status (UnreadFile line) = status.Unread
failure_status (BadFile line) = status.BadInput
failure_status NoRoom = status.NoMemory

abbrev pub failure_line : Failure → List ℕ
failure_line (UnreadFile line) = line.items
failure_line (BadFile line) = line.items
failure_line NoRoom = []

-- the same status and line under other names
pub same_one_line : (s t : Status) (line same : List ℕ) (write_fault : Type 0) (came : Status) (old new : Outside) → t ≡ s → same ≡ line
    → ComesOf (one_line s line) write_fault came old new → ComesOf (one_line t same) write_fault came old new
same_one_line s t line same write_fault came old new e f h =
    subst (λ x. ComesOf (one_line x same) write_fault came old new) (sym e) (subst (λ l. ComesOf (one_line s l) write_fault came old new)
    (sym f) h)

pub comes_of_file : (failure : Failure) (s : Status) (line : List ℕ) (write_fault : Type 0) (came : Status) (old new : Outside)
    → s ≢ status.NoMemory → failure_status failure ≡ s → failure_line failure ≡ line → ComesOf (one_line s line) write_fault came old new
    → ComesOfFailure failure write_fault came old new
comes_of_file (UnreadFile text) s line write_fault came old new some e f h = same_one_line s status.Unread line text.items write_fault came
    old new e f h
comes_of_file (BadFile text) s line write_fault came old new some e f h = same_one_line s status.BadInput line text.items write_fault came
    old new e f h
comes_of_file NoRoom s line write_fault came old new some e f h = absurd (some (sym e))

pub comes_of_ok : (worked : Result Ending Failure) (ending : Ending) (write_fault : Type 0) (came : Status) (old new : Outside)
    → worked ≡ Ok ending → ComesOf (answer_of ending) write_fault came old new → ComesOfWork worked write_fault came old new
comes_of_ok worked ending write_fault came old new is h = subst (λ w. ComesOfWork w write_fault came old new) (sym is) h

-- the work leaves the files, and printing reaches none
pub run_outcome : (P Part : Answer → Type 0) (worked : Result Ending Failure) (came : Status) (narrow wide : Type 0)
    (files after : Option FileMap) (old new : Option (List ℕ)) → (narrow → wide) → after ≡ files → Gives P worked
    → ((f : Option FileMap) → ComesOfWork worked narrow came (outside f old) (outside f new)) → MayCome P Part wide came (outside files old)
    (outside after new)
run_outcome P Part worked came narrow wide files after old new widen same given comes =
    subst (λ f. MayCome P Part wide came (outside files old) (outside f new)) (sym same)
    (outcome_of P Part worked came narrow wide (outside files old) (outside files new) widen given (comes files))

-- what may come of a line that is printed, that can't be, or for which there is no memory
pub ruleset endings = (comes_done, comes_unwritten, comes_without_memory)

-- What came of a command, and then the line that tells want of memory.
use Rattle.std.proofs.Common.{◌≡◌, ◌≢◌, ◌≤◌, ◌⊎◌, inl, inr, ℕ, List, refl, arith}
use Rattle.std.specs.Prelude.{Option, Some, None, IfSome}
use Rattle.uz_shelf.specs.Faults.{Rose}
use Rattle.uz_shelf.specs.Files.{FileMap}
use Rattle.uz_files.specs.declared.status.Status.{Status}
use Rattle.uz_files.specs.declared.status.Status.TheVariants as status
use Rattle.uz_files.specs.Answers.{Answer, AndTells, ComesOf, MayCome, Outside, PutsLast, outside}
use Rattle.uz_files.specs.Lines.{no_memory_line}
use Rattle.uz_files.proofs.EndingLemmas.{comes_by}
use Rattle.uz_files.proofs.FaultLemmas.{rose_later}
use Rattle.uz_top.specs.Commands.{Answers, IsDecided, PartAnswers, Succeeds}
use Rattle.uz_top.specs.Words.{Command}
use Rattle.uz_top.proofs.CommandLemmas.{Exact, outcome_wider}

-- what holds of an option's value leads to what holds of it
under : {A : Type 0} (o : Option A) (P Q : A → Type 0) → ((a : A) → P a → Q a) → IfSome o P → IfSome o Q
under None P Q leads h = tt
under (Some a) P Q leads h = leads a h

always : {A : Type 0} (o : Option A) (P : A → Type 0) → ((a : A) → P a) → IfSome o P
always None P all = tt
always (Some a) P all = all a

-- an earlier call
rose_before : (old mid new : ℕ) → mid ≤ new → Rose old mid → Rose old new
rose_before old mid new up (inl rose) = inl (omega arith)
rose_before old mid new up (inr stuck) = inr (omega arith)

puts_wider : (line : List ℕ) (narrow wide lack : Type 0) (old new : Option (List ℕ)) → (narrow → wide)
    → PutsLast line (narrow ⊎ lack) old new → PutsLast line (wide ⊎ lack) old new
puts_wider line narrow wide lack old new widen (inl all) = inl all
puts_wider line narrow wide lack old new widen (inr (inl fault, part)) = inr (inl (widen fault), part)
puts_wider line narrow wide lack old new widen (inr (inr lacks, part)) = inr (inr lacks, part)

-- memory wasn't lacking, and nothing more is printed
pub tells_nothing : (Comes : Outside → Type 0) (came : Status) (excuse : Type 0) (files : Option FileMap) (text : Option (List ℕ))
    → came ≢ status.NoMemory → Comes (outside files text) → AndTells Comes came excuse (outside files text)
tells_nothing Comes came excuse files text apart h = (text, h, inl (apart, refl))

module _ (o : Option Command) (files after : Option FileMap) (load_fault : Type 0) where
  pub same_outcome : (write_fault excuse : Type 0) (came : Status) (old new : Option (List ℕ)) → came ≢ status.NoMemory
      → IfSome o (λ k. MayCome (Answers files load_fault k) (PartAnswers files k) write_fault came (outside files old) (outside after new))
      → IfSome o (λ k. AndTells (MayCome (Answers files load_fault k) (PartAnswers files k) write_fault came (outside files old)) came
      excuse (outside after new))
  same_outcome write_fault excuse came old new apart =
      under o (λ k. MayCome (Answers files load_fault k) (PartAnswers files k) write_fault came (outside files old) (outside after new))
      (λ k. AndTells (MayCome (Answers files load_fault k) (PartAnswers files k) write_fault came (outside files old)) came excuse
      (outside after new))
      (λ k. tells_nothing (MayCome (Answers files load_fault k) (PartAnswers files k) write_fault came (outside files old)) came excuse
      after new apart)

  -- where memory is lacking, nothing else is asked
  pub exact_free : (write_fault : Type 0) (old new : Outside) → IfSome o (λ k. Exact k files load_fault write_fault status.NoMemory old new)
  exact_free write_fault old new =
      always o (λ k. Exact k files load_fault write_fault status.NoMemory old new)
      (λ k. always files (λ told. (status.NoMemory ≡ status.NoMemory) ⊎ (load_fault ⊎ (((status.NoMemory ≡ status.Unwritten) × write_fault)
      ⊎ IsDecided files write_fault k status.NoMemory old new))) (λ told. inl refl))

  pub complete_free : (write_fault : Type 0) → IfSome o (λ k. IfSome files (λ told. Succeeds files k → (load_fault → ⊥)
      → (write_fault → ⊥) → (status.NoMemory ≡ status.Done) ⊎ (status.NoMemory ≡ status.NoMemory)))
  complete_free write_fault =
      always o (λ k. IfSome files (λ told. Succeeds files k → (load_fault → ⊥)
      → (write_fault → ⊥) → (status.NoMemory ≡ status.Done) ⊎ (status.NoMemory ≡ status.NoMemory)))
      (λ k. always files (λ told. Succeeds files k → (load_fault → ⊥)
      → (write_fault → ⊥) → (status.NoMemory ≡ status.Done) ⊎ (status.NoMemory ≡ status.NoMemory)) (λ told well loads writes. inr refl))

module _ (lack : Type 0) (files after : Option FileMap) (sink_old sink_mid sink_new : ℕ) (old mid new : Option (List ℕ))
    (up : sink_old ≤ sink_mid) (on : sink_mid ≤ sink_new)
    (puts : PutsLast no_memory_line (Rose sink_mid sink_new ⊎ lack) mid new) where
  wider : PutsLast no_memory_line (Rose sink_old sink_new ⊎ lack) mid new
  wider = puts_wider no_memory_line (Rose sink_mid sink_new) (Rose sink_old sink_new) lack mid new
      (rose_later sink_old sink_mid sink_new up) puts

  tells_one : (Whole Part : Answer → Type 0) (shelf_fault : Type 0)
      → MayCome Whole Part (shelf_fault ⊎ Rose sink_old sink_mid) status.NoMemory (outside files old) (outside after mid)
      → AndTells (MayCome Whole Part (shelf_fault ⊎ Rose sink_old sink_new) status.NoMemory (outside files old)) status.NoMemory
      (Rose sink_old sink_new ⊎ lack) (outside after new)
  tells_one Whole Part shelf_fault h = (
    mid,
    outcome_wider Whole Part (shelf_fault ⊎ Rose sink_old sink_mid) (shelf_fault ⊎ Rose sink_old sink_new) status.NoMemory
        (outside files old) (outside after mid)
        (λ fault. elim fault [
          | inl rose ↦ inl rose
          | inr rose ↦ inr (rose_before sink_old sink_mid sink_new on rose)
        ]) h,
    inr (refl, wider),
  )

  pub tells_outcome : (o : Option Command) (load_fault shelf_fault : Type 0)
      → IfSome o (λ k. MayCome (Answers files load_fault k) (PartAnswers files k) (shelf_fault ⊎ Rose sink_old sink_mid) status.NoMemory
      (outside files old) (outside after mid))
      → IfSome o (λ k. AndTells (MayCome (Answers files load_fault k) (PartAnswers files k) (shelf_fault ⊎ Rose sink_old sink_new)
      status.NoMemory (outside files old)) status.NoMemory (Rose sink_old sink_new ⊎ lack) (outside after new))
  tells_outcome o load_fault shelf_fault =
      under o (λ k. MayCome (Answers files load_fault k) (PartAnswers files k) (shelf_fault ⊎ Rose sink_old sink_mid) status.NoMemory
      (outside files old) (outside after mid))
      (λ k. AndTells (MayCome (Answers files load_fault k) (PartAnswers files k) (shelf_fault ⊎ Rose sink_old sink_new)
      status.NoMemory (outside files old)) status.NoMemory (Rose sink_old sink_new ⊎ lack) (outside after new))
      (λ k. tells_one (Answers files load_fault k) (PartAnswers files k) shelf_fault)

  pub tells_answer : (answer : Answer)
      → ComesOf answer (Rose sink_old sink_mid) status.NoMemory (outside files old) (outside after mid)
      → AndTells (ComesOf answer (Rose sink_old sink_new) status.NoMemory (outside files old)) status.NoMemory
      (Rose sink_old sink_new ⊎ lack) (outside after new)
  tells_answer answer h = (
    mid,
    comes_by answer status.NoMemory (Rose sink_old sink_mid) (Rose sink_old sink_new) (outside files old) (outside after mid)
        (rose_before sink_old sink_mid sink_new on) h,
    inr (refl, wider),
  )

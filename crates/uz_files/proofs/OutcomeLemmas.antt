-- What follows from the outcome of a command.
use Rattle.std.proofs.Common.{◌≡◌, ◌≢◌, ◌⊎◌, inl, inr, sym, ◌∙◌}
use Rattle.uz_files.specs.declared.status.Status.{Status}
use Rattle.uz_files.specs.declared.status.Status.TheVariants as status
use Rattle.uz_files.specs.Answers.{Answer, Outside, Ends, MayCome}

module _ (Whole Part : Answer → Type 0) (write_fault : Type 0) (came : Status) (old new : Outside) where
  -- where the status comes from
  pub came_from : MayCome Whole Part write_fault came old new → (came ≡ status.NoMemory)
      ⊎ (((came ≡ status.Unwritten) × write_fault) ⊎ ((answer : Answer) × Whole answer × Ends answer write_fault came old new))
  came_from (inl starts) = inl starts.status
  came_from (inr (inl (answer, given, inl ends))) = inr (inr (answer, given, ends))
  came_from (inr (inl (answer, given, inr (inl lost)))) = inr (inl (lost.0, lost.1))
  came_from (inr (inl (answer, given, inr (inr lacks)))) = inl lacks.0
  came_from (inr (inr (answer, given, inl cut))) = inr (inl (cut.0, cut.1))
  came_from (inr (inr (answer, given, inr lacks))) = inl lacks.0

  -- a status that an answer alone can give
  pub from_answer : (s : Status) → s ≢ status.NoMemory → s ≢ status.Unwritten → MayCome Whole Part write_fault came old new → came ≡ s
      → (answer : Answer) × Whole answer × (answer.status ≡ s)
  from_answer s memory written h is =
      elim (came_from h) [
        | inl none ↦ absurd (memory (sym is ∙ none))
        | inr (inl cut) ↦ absurd (written (sym is ∙ cut.0))
        | inr (inr given) ↦ (given.0, given.1, sym given.2.status ∙ is)
      ]

  pub unwritten_by : ((answer : Answer) → Whole answer → answer.status ≢ status.Unwritten) → MayCome Whole Part write_fault came old new
      → came ≡ status.Unwritten → write_fault
  unwritten_by never h is =
      elim (came_from h) [
        | inl none ↦ absurd (cc (none, is))
        | inr (inl cut) ↦ cut.1
        | inr (inr given) ↦ absurd (never given.0 given.1 (sym given.2.status ∙ is))
      ]

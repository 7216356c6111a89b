-- What `asm` answers: a file that is written, and a line.
use Rattle.std.proofs.Common.{◌≡◌, ◌⊎◌, inl, inr, ℕ, List, refl, sym, ap, ◌∙◌}
use Rattle.std.specs.Prelude.{Option, Some, Result, Ok, Err, IfOk, IfErr}
use Rattle.uz_shelf.specs.Files.{FileMap, LacksFile}
use Rattle.uz_files.specs.declared.work.Work.{Work}
use Rattle.uz_files.specs.declared.ending.Failure.{Failure}
use Rattle.uz_files.specs.declared.status.Status.TheVariants.{Done, Unread, BadInput}
use Rattle.uz_files.specs.Answers.{Answer}
use Rattle.uz_files.specs.Endings.{EndsBy}
use Rattle.uz_files.specs.Reading.{Fails, text_limit}
use Rattle.uz_program_commands.specs.AsmCommand.{AsmAnswers, AsmSucceeds, FilesAssembled, IsAssembled, assembled_line}
use Rattle.uz_files.specs.Writing.{Prepares, WritesWork, hex_file, written_then}
use Rattle.uz_program_commands.specs.AsmValues.{IsWork}
use Rattle.uz_files.proofs.ReadingLemmas.{ends_by}
use Rattle.uz_files.proofs.ReadsLemmas.{fails_status, reads_or_fault, reads_same}
use Rattle.uz_files.proofs.WriteLemmas.{holds_written}
use Rattle.avr_asm.specs.Relation.{IsAssembly}
use Rattle.uz_files.specs.Formats.{Readings, RefusesSource}

-- what is prepared leads to the answer, and a file that ends the command to its own
pub asm_prepared : (files : Option FileMap) (load_fault : Type 0) (source hex : List ℕ) (prepared : Result Work Failure)
    → IfOk prepared (IsWork files source) → IfErr prepared (EndsBy (Fails files load_fault source text_limit RefusesSource))
    → Prepares (AsmAnswers files load_fault source hex) hex prepared
asm_prepared files load_fault source hex (Ok work) given fails = inr (
  given.output,
  given.spelled,
  ap (λ t. written_then (record { name = hex; bytes = t }) work.line.items) given.text
      ∙ ap (written_then (hex_file hex given.output.image)) given.line,
)
asm_prepared files load_fault source hex (Err failure) given fails =
    ends_by (Fails files load_fault source text_limit RefusesSource) (AsmAnswers files load_fault source hex) failure
    (λ answer h. inl h) fails

pub asm_worth : (files mid after : Option FileMap) (source hex : List ℕ) (prepared : Result Work Failure)
    → IfOk prepared (IsWork files source) → WritesWork mid hex prepared after → FilesAssembled files after source hex
asm_worth files mid after source hex (Ok work) given written = record {
  output = given.output;
  spelled = given.spelled;
  text = work.text.items;
  holds = holds_written mid after hex work.text.items written;
  is_hex = given.reads_back;
}
asm_worth files mid after source hex (Err failure) given never = absurd never

-- the statuses of `asm`, and the cause of Unread
pub asm_status : (files : Option FileMap) (load_fault : Type 0) (source hex : List ℕ) (answer : Answer) → AsmAnswers files load_fault source
    hex answer → ((answer.status ≡ Unread) × (load_fault ⊎ LacksFile files source)) ⊎ ((answer.status ≡ BadInput) ⊎ (answer.status ≡ Done))
asm_status files load_fault source hex answer (inl fails) =
    elim (fails_status files load_fault source text_limit RefusesSource answer fails) [
      | inl unread ↦ inl unread
      | inr bad ↦ inr (inl bad)
    ]
asm_status files load_fault source hex answer (inr (output, says, assembled)) = inr (inr (ap (λ a. a.status) assembled))

-- a shelf that tells its files gives one answer, unless loading met a fault
pub asm_same : (readings : Readings) (files : FileMap) (load_fault : Type 0) (source hex : List ℕ) (a b : Answer)
    → AsmAnswers (Some files) load_fault source hex
    a → AsmAnswers (Some files) ⊥ source hex b → (a ≡ b) ⊎ load_fault
asm_same readings files load_fault source hex a b =
    reads_same files load_fault source text_limit IsAssembly RefusesSource readings.source (IsAssembled hex)
    (IsAssembled hex) a b (λ output.
    same_assembled a b (written_then (hex_file hex output.image) (assembled_line output.image)))
  where
    same_assembled : (x y z : Answer) → x ≡ z → y ≡ z → (x ≡ y) ⊎ load_fault
    same_assembled x y z p q = inl (p ∙ sym q)

-- where all is well the answer is one that is done
pub asm_done_answer : (files : Option FileMap) (source hex : List ℕ) → AsmSucceeds files source → (answer : Answer) × AsmAnswers files ⊥
    source hex answer × (answer.status ≡ Done)
asm_done_answer files source hex h = (
  written_then (hex_file hex h.output.image) (assembled_line h.output.image),
  inr (h.output, h.spelled, refl),
  refl,
)

-- loading met a fault, or none is needed for the answer
pub asm_or_fault : (files : Option FileMap) (load_fault : Type 0) (source hex : List ℕ) (answer : Answer) → AsmAnswers files load_fault
    source hex answer → load_fault ⊎ AsmAnswers files ⊥ source hex answer
asm_or_fault files load_fault source hex answer h =
    reads_or_fault files load_fault source text_limit IsAssembly RefusesSource (IsAssembled hex) (IsAssembled hex) answer
    (λ output h. inr h) h

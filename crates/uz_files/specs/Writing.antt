-- Files that a command writes.
use Rattle.std.specs.Prelude.{◌≡◌, ◌⊎◌, ℕ, List, [], ◌∷◌, Option, take, Result, Ok, Err}
use Rattle.uz_shelf.specs.Files.{FileMap}
use Rattle.uz_hex.specs.Reading.{Flash}
use Rattle.uz_hex.specs.Writing.{hex_text}
use Rattle.uz_files.specs.declared.ending.Failure.{Failure}
use Rattle.uz_files.specs.declared.ending.Failure.TheVariants.{Unread as UnreadFile, BadInput as BadFile, Memory as NoRoom}
use Rattle.uz_files.specs.declared.status.Status.TheVariants.{Done, Unread, BadInput}
use Rattle.uz_files.specs.declared.work.Work.{Work}
use Rattle.uz_files.specs.Answers.{Answer, Write, WritesFile, one_line}
use Rattle.uz_files.specs.Endings.{EndsBy}

-- the HEX text of an image
abbrev pub hex_file : List ℕ → Flash → Write
hex_file name image = record { name = name; bytes = hex_text image }

-- one file is written, and then one line is printed
abbrev pub written_then : Write → List ℕ → Answer
written_then file line = record { writes = file ∷ []; printed = []; status = Done; line = line }

-- the file is as it was, or holds a prefix of the bytes
abbrev pub WritesSome : Option FileMap → List ℕ → List ℕ → Option FileMap → Type 0
WritesSome old name bytes new = (new ≡ old) ⊎ ((count : ℕ) × WritesFile old name (take count bytes) new)

-- the answer of a work: its text is written to the file, and then its line is printed
abbrev pub answer_of_work : List ℕ → Work → Answer
answer_of_work name work = written_then (record { name = name; bytes = work.text.items }) work.line.items

-- what was prepared leads to this answer; want of memory leads to none
abbrev pub IsAnswerOf : List ℕ → Result Work Failure → Answer → Type 0
IsAnswerOf name (Ok work) answer = answer ≡ answer_of_work name work
IsAnswerOf name (Err (UnreadFile line)) answer = answer ≡ one_line Unread line.items
IsAnswerOf name (Err (BadFile line)) answer = answer ≡ one_line BadInput line.items
IsAnswerOf name (Err NoRoom) answer = ⊥

-- what was prepared leads to such an answer, unless memory was lacking
abbrev pub Prepares : (Answer → Type 0) → List ℕ → Result Work Failure → Type 0
Prepares P name (Ok work) = P (answer_of_work name work)
Prepares P name (Err failure) = EndsBy P failure

-- a work was prepared, and its text is in the file
abbrev pub WritesWork : Option FileMap → List ℕ → Result Work Failure → Option FileMap → Type 0
WritesWork old name (Ok work) new = WritesFile old name work.text.items new
WritesWork old name (Err failure) new = ⊥

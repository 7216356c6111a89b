-- The values of the code as answers.
use Rattle.std.specs.Prelude.{Result, Ok, Err}
use Rattle.uz_files.specs.Answers.{Answer, Outside, ComesOf, StartsWithoutMemory, one_line}
use Rattle.uz_files.specs.declared.status.Status.{Status}
use Rattle.uz_files.specs.declared.ending.Ending.{Ending}
use Rattle.uz_files.specs.declared.ending.Failure.{Failure}
use Rattle.uz_files.specs.declared.ending.Failure.TheVariants.{Unread as UnreadFile, BadInput as BadFile, Memory as NoRoom}
use Rattle.uz_files.specs.declared.status.Status.TheVariants.{Unread, BadInput}

abbrev pub answer_of : Ending → Answer
answer_of ending = one_line ending.status ending.line.items

-- a failure for another cause than memory ends the command with such an answer
abbrev pub EndsBy : (Answer → Type 0) → Failure → Type 0
EndsBy P (UnreadFile line) = P (one_line Unread line.items)
EndsBy P (BadFile line) = P (one_line BadInput line.items)
EndsBy P NoRoom = Unit {0}

-- the work ended the command with such an answer, unless memory was lacking
abbrev pub Gives : (Answer → Type 0) → Result Ending Failure → Type 0
Gives P (Ok ending) = P (answer_of ending)
Gives P (Err failure) = EndsBy P failure

-- what comes of printing a failure
abbrev pub ComesOfFailure : Failure → Type 0 → Status → Outside → Outside → Type 0
ComesOfFailure (UnreadFile line) write_fault came old new = ComesOf (one_line Unread line.items) write_fault came old new
ComesOfFailure (BadFile line) write_fault came old new = ComesOf (one_line BadInput line.items) write_fault came old new
ComesOfFailure NoRoom write_fault came old new = StartsWithoutMemory came old new

-- what comes of printing how the work ended
abbrev pub ComesOfWork : Result Ending Failure → Type 0 → Status → Outside → Outside → Type 0
ComesOfWork (Ok ending) write_fault came old new = ComesOf (answer_of ending) write_fault came old new
ComesOfWork (Err failure) write_fault came old new = ComesOfFailure failure write_fault came old new

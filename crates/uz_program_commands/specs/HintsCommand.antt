-- `hints HEX PADS IRQ CLOCKS HINTS`: both files are read in their order, and then the machine runs from reset for so many clocks. Hints
-- for its program are proposed by what the run shows; which ones is a choice, and so is whether there are any. They are written as a
-- source that the assembler takes and for which it puts out no byte, and a line tells their numbers; or lines tell why there are none,
-- and nothing is written.
use Rattle.std.specs.Prelude.{◌≡◌, ◌≢◌, ◌≤◌, ℕ, Bool, true, false, List, [], ◌∷◌, ◌++◌, codes, decimal, filter, length, Option}
use Rattle.uz_shelf.specs.Files.{FileMap, HoldsFile}
use Rattle.uz_hex.specs.HexText.{IsHexOf}
use Rattle.uz_hex.specs.Reading.{Flash}
use Rattle.uz_schedule.specs.declared.kinds.Response.{Response}
use Rattle.uz_pads.specs.declared.pads.Pad.{Pad}
use Rattle.uz_core.specs.PadLine.{PadHistory}
use Rattle.uz_core.specs.Turn.{State}
use Rattle.avr_asm.specs.declared.output.Hint.{Hint}
use Rattle.avr_asm.specs.declared.output.Hint.TheVariants as hint
use Rattle.uz_proposal.specs.Sources.{PutsOutNothing}
use Rattle.uz_proposal.specs.Text.{source_of}
use Rattle.uz_proposal.specs.NoFrames.{no_frame_lines}
use Rattle.uz_proposal.specs.declared.no_hints.NoHints.{NoHints}
use Rattle.uz_proposal.specs.declared.no_hints.NoHints.TheVariants as none
use Rattle.uz_proposal.specs.declared.remarks.Remarked.{Remarked}
use Rattle.uz_files.specs.declared.status.Status.TheVariants.{Refused}
use Rattle.uz_files.specs.Answers.{Answer, Write, one_line}
use Rattle.uz_files.specs.Formats.{SpellsPads}
use Rattle.uz_files.specs.Reading.{Says, text_limit}
use Rattle.uz_files.specs.Writing.{written_then}
use Rattle.uz_files.specs.RunFiles.{RunAnswers}
use Rattle.uz_files.specs.StopLines.{stopped_line}

-- The line's numbers

-- the lines of the frame that a hint names, or else these
abbrev pub lines_or : Hint → ℕ → ℕ
lines_or (hint.Lines lines fall) other = lines
lines_or (hint.Start kind at) other = other
lines_or (hint.Half from to) other = other
lines_or (hint.Stack lo hi main handler) other = other
lines_or (hint.Cell at owner lo hi first) other = other
lines_or (hint.Fact at place lo hi) other = other

-- the lines of the frame that the first hint of them names, 0 where there is none
abbrev pub frame_lines : List Remarked → ℕ
frame_lines [] = 0
frame_lines (r ∷ rs) = lines_or r.hint (frame_lines rs)

abbrev pub is_fact : Hint → Bool
is_fact (hint.Fact at place lo hi) = true
is_fact (hint.Lines lines fall) = false
is_fact (hint.Start kind at) = false
is_fact (hint.Half from to) = false
is_fact (hint.Stack lo hi main handler) = false
is_fact (hint.Cell at owner lo hi first) = false

abbrev pub is_cell : Hint → Bool
is_cell (hint.Cell at owner lo hi first) = true
is_cell (hint.Fact at place lo hi) = false
is_cell (hint.Lines lines fall) = false
is_cell (hint.Start kind at) = false
is_cell (hint.Half from to) = false
is_cell (hint.Stack lo hi main handler) = false

abbrev pub fact_count : List Remarked → ℕ
fact_count hints = length (filter (λ r. is_fact r.hint) hints)

abbrev pub cell_count : List Remarked → ℕ
cell_count hints = length (filter (λ r. is_cell r.hint) hints)

abbrev pub hints_line : List Remarked → List ℕ
hints_line hints =
    codes "hints " ++ decimal (frame_lines hints) ++ codes " lines " ++ decimal (fact_count hints) ++ codes " facts "
    ++ decimal (cell_count hints) ++ codes " cells\n"

-- Why there are none

abbrev pub no_hints_line : List ℕ → List ℕ
no_hints_line why = codes "no hints " ++ why ++ codes "\n"

-- numbers on lines of their own, and then the cause
abbrev pub why_lines : NoHints → List ℕ
why_lines (none.Stopped pc why) = stopped_line pc why ++ no_hints_line (codes "Stopped")
why_lines (none.Frame found) = no_frame_lines found ++ no_hints_line (codes "Frame")
why_lines none.Loop = no_hints_line (codes "Loop")
why_lines none.Fall = no_hints_line (codes "Fall")
why_lines none.Memory = []

-- Answers

-- what is proposed: hints whose source the assembler takes, hints whose source it doesn't take, or none
pub data Proposal : Type 0 where
  Hints : (hints : List Remarked) → Proposal
  BadSource : Proposal
  Nothing : (why : NoHints) → Proposal

-- The assembler takes the source and puts out no instruction and no byte, and the source is one that the commands read whole; want of
-- memory is no answer
abbrev pub IsProposal : Proposal → Type 0
IsProposal (Hints hints) = PutsOutNothing (source_of hints) × (length (source_of hints) ≤ text_limit)
IsProposal BadSource = Unit {0}
IsProposal (Nothing why) = why ≢ none.Memory

abbrev pub hints_file : List ℕ → List Remarked → Write
hints_file name hints = record { name = name; bytes = source_of hints }

-- the source is written, and then one line is printed; or lines tell why there is none
abbrev pub hints_answer : List ℕ → Proposal → Answer
hints_answer name (Hints hints) = written_then (hints_file name hints) (hints_line hints)
hints_answer name BadSource = one_line Refused (no_hints_line (codes "Source"))
hints_answer name (Nothing why) = one_line Refused (why_lines why)

-- once both files are read
abbrev pub IsProposed : List ℕ → State PadHistory → Answer → Type 0
IsProposed name start answer = (proposal : Proposal) × IsProposal proposal × (answer ≡ hints_answer name proposal)

abbrev pub HintsAnswers : Option FileMap → Type 0 → List ℕ → List ℕ → Response → List ℕ → Answer → Type 0
HintsAnswers files load_fault hex pads irq name = RunAnswers (IsProposed name) files load_fault hex pads irq

-- The same with what is proposed as data: files and printed bytes are a function of both files and of that

abbrev pub IsProposedBy : List ℕ → Proposal → State PadHistory → Answer → Type 0
IsProposedBy name proposal start answer = answer ≡ hints_answer name proposal

abbrev pub HintsAnswersBy : Option FileMap → List ℕ → List ℕ → Response → List ℕ → Proposal → Answer → Type 0
HintsAnswersBy files hex pads irq name proposal = RunAnswers (IsProposedBy name proposal) files ⊥ hex pads irq

-- What a `hints` that is done is worth: the file holds a source of hints that the assembler takes, for which it puts out no byte, and
-- that the commands read whole. Whether a certificate follows from them isn't said
pub record FilesHinted (before after : Option FileMap) (hex pads name : List ℕ) : Type 0 where
  pub image : Flash
  pub list : List Pad
  pub spelled_image : Says before hex text_limit IsHexOf image
  pub spelled_pads : Says before pads text_limit SpellsPads list
  pub hints : List Remarked
  pub holds : HoldsFile after name (source_of hints)
  pub silent : PutsOutNothing (source_of hints)
  pub short : length (source_of hints) ≤ text_limit

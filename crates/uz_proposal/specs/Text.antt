-- Hints as lines of the assembler, each behind a comment. Numbers are decimal; addresses are byte addresses in hexadecimal digits.
use Rattle.std.specs.Prelude.{ℕ, ◌*◌, ◌%◌, if◌then◌else◌, nat_eq, List, [], ◌∷◌, ◌++◌, codes, decimal}
use Rattle.uz_hex.specs.Hexadecimals.{hex_word}
use Rattle.uz_schedule.specs.declared.kinds.Kind.{Kind}
use Rattle.uz_schedule.specs.declared.kinds.Kind.TheVariants.{Main, Handler, Alone}
use Rattle.avr_asm.specs.declared.output.Hint.{Hint}
use Rattle.avr_asm.specs.declared.output.Hint.TheVariants as hint
use Rattle.uz_proposal.specs.declared.remarks.Remark.{Remark}
use Rattle.uz_proposal.specs.declared.remarks.Remark.TheVariants as remark
use Rattle.uz_proposal.specs.declared.remarks.Remarked.{Remarked}

-- some text and a number, or an address
abbrev pub numbered : List ℕ → ℕ → List ℕ
numbered before n = before ++ decimal n

abbrev pub addressed : List ℕ → ℕ → List ℕ
addressed before at = before ++ codes "0x" ++ hex_word at

abbrev pub paired : List ℕ → ℕ → ℕ → List ℕ
paired before first second = numbered before first ++ numbered (codes ", ") second

-- the byte address of a word
abbrev pub in_bytes : ℕ → ℕ
in_bytes at = 2 * at % 65536

abbrev pub lines_line : ℕ → ℕ → List ℕ
lines_line lines fall = paired (codes ".lines ") lines fall

abbrev pub half_line : ℕ → ℕ → List ℕ
half_line from to = paired (codes ".half ") from to

abbrev pub stack_line : ℕ → ℕ → ℕ → ℕ → List ℕ
stack_line lo hi main handler =
    addressed (codes ".stack ") lo ++ addressed (codes ", ") hi ++ paired (codes ", ") main handler

abbrev pub kind_word : Kind → List ℕ
kind_word Main = codes "main, "
kind_word Handler = codes "alone, "
kind_word Alone = codes "alone, "

abbrev pub start_line : Kind → ℕ → List ℕ
start_line kind at = codes ".start " ++ addressed (kind_word kind) (in_bytes at)

abbrev pub main_cell_line : ℕ → ℕ → ℕ → List ℕ
main_cell_line at lo hi = addressed (codes ".cell ") at ++ paired (codes ", main, ") lo hi

abbrev pub handler_cell_line : ℕ → ℕ → ℕ → ℕ → List ℕ
handler_cell_line at lo hi first =
    addressed (codes ".cell ") at ++ paired (codes ", handler, ") lo hi ++ numbered (codes ", ") first

-- a register by its number, or X, Y or Z
abbrev pub place_word : ℕ → List ℕ
place_word place =
    if nat_eq place 32 then codes ".fact X" else
    if nat_eq place 33 then codes ".fact Y" else
    if nat_eq place 34 then codes ".fact Z" else numbered (codes ".fact r") place

abbrev pub fact_line : ℕ → ℕ → ℕ → ℕ → List ℕ
fact_line at place lo hi =
    place_word place ++ paired (codes ", ") lo hi ++ addressed (codes ", ") (in_bytes at)

abbrev pub cell_line : ℕ → Kind → ℕ → ℕ → ℕ → List ℕ
cell_line at Handler lo hi first = handler_cell_line at lo hi first
cell_line at Main lo hi first = main_cell_line at lo hi
cell_line at Alone lo hi first = main_cell_line at lo hi

abbrev pub hint_line : Hint → List ℕ
hint_line (hint.Start kind at) = start_line kind at
hint_line (hint.Lines lines fall) = lines_line lines fall
hint_line (hint.Half from to) = half_line from to
hint_line (hint.Stack lo hi main handler) = stack_line lo hi main handler
hint_line (hint.Cell at owner lo hi first) = cell_line at owner lo hi first
hint_line (hint.Fact at place lo hi) = fact_line at place lo hi

abbrev pub falling_part : ℕ → ℕ → List ℕ
falling_part clock falling = numbered (codes "; sync falls at clock ") clock ++ numbered (codes " of ") falling

abbrev pub counts_part : ℕ → ℕ → List ℕ
counts_part lines halves = numbered (codes " of the ") lines ++ numbered (codes " lines; half lines: ") halves

abbrev pub falls_line : ℕ → ℕ → ℕ → ℕ → List ℕ
falls_line clock falling lines halves = falling_part clock falling ++ counts_part lines halves

abbrev pub stored_line : ℕ → ℕ → List ℕ
stored_line least greatest = numbered (codes "; stored: ") least ++ numbered (codes " to ") greatest

-- what was seen of a hint
abbrev pub remark_line : Remark → List ℕ
remark_line (remark.Falls clock falling lines halves) = falls_line clock falling lines halves
remark_line remark.Halves = codes "; half lines"
remark_line remark.Pushes = codes "; SP at main's loop, and what main and the handler push at most"
remark_line (remark.Loop visits) = numbered (codes "; main's loop; visits: ") visits
remark_line (remark.Fall visits) = numbered (codes "; the fall of sync; visits: ") visits
remark_line (remark.Stored least greatest) = stored_line least greatest
remark_line remark.Unwritten = codes "; read, and nothing stored"
remark_line (remark.Constant visits) = numbered (codes "; the same at all visits: ") visits

-- a hint behind its comment, each on a line of its own
abbrev pub remarked_lines : Remarked → List ℕ
remarked_lines r = remark_line r.remark ++ codes "\n" ++ hint_line r.hint ++ codes "\n"

abbrev pub source_of : List Remarked → List ℕ
source_of [] = []
source_of (r ∷ rs) = remarked_lines r ++ source_of rs

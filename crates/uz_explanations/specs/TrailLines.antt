-- An instance of a trail as a line: its place, its instruction as a listing has it, and the nearest label.
use Rattle.std.specs.Prelude.{ℕ, ◌+◌, ◌-◌, ◌*◌, ◌%◌, if◌then◌else◌, List, [], ◌++◌, Option, Some, None, codes, decimal, nat_eq}
use Rattle.std.specs.Ordering.{nat_cmp}
use Rattle.std.specs.FinMap.{FinMap}
use Rattle.uz_hex.specs.Hexadecimals.{hex_word}
use Rattle.uz_hex.specs.Cells.{word_of}
use Rattle.avr_table.specs.declared.Instr.{Instr}
use Rattle.avr_table.specs.Rows.{words_of}
use Rattle.avr_dis.specs.Listing.{both_words, second_text}
use Rattle.avr_dis.specs.Text.{text_of}
use Rattle.uz_schedule.specs.declared.kinds.Kind.{Kind}
use Rattle.uz_schedule.specs.declared.kinds.Kind.TheVariants.{Main, Handler, Alone}
use Rattle.uz_schedule.specs.declared.states.Instance.{Instance}
use Rattle.avr_asm.specs.declared.labels.Label.{Label}
use Rattle.avr_asm.specs.Labels.{nearest}

-- Places

abbrev pub clock_text : List ℕ → ℕ → ℕ → List ℕ
clock_text kind line clock = kind ++ (codes " line " ++ decimal line) ++ (codes " clock " ++ decimal clock)

-- main has no line and no clock
abbrev pub kind_text : Kind → ℕ → ℕ → List ℕ
kind_text Main line clock = codes "main"
kind_text Handler line clock = clock_text (codes "handler") line clock
kind_text Alone line clock = clock_text (codes "alone") line clock

abbrev pub place_text : Instance → List ℕ
place_text x = kind_text x.kind x.line x.clock ++ (codes " pc 0x" ++ hex_word x.pc) ++ codes ": "

-- Instructions

-- the second word of an instruction of two
abbrev pub second_of : FinMap nat_cmp ℕ → ℕ → Instr → Option ℕ
second_of image pc i = if nat_eq (words_of i) 2 then Some (word_of image ((pc + 1) % 32768)) else None

-- the words and the text of what is read at a program counter, as a listing has them
abbrev pub instruction_text : FinMap nat_cmp ℕ → ℕ → Option Instr → List ℕ
instruction_text image pc (Some i) = both_words (word_of image (pc % 32768)) (second_text (second_of image pc i)) ++ text_of i
instruction_text image pc None =
    both_words (word_of image (pc % 32768)) (second_text None) ++ (codes ".dw " ++ decimal (word_of image (pc % 32768)))

-- Labels

abbrev pub distance_text : ℕ → List ℕ
distance_text bytes = if nat_eq bytes 0 then [] else codes "+" ++ decimal bytes

-- the label, and how many bytes the address is behind it
abbrev pub label_text : ℕ → Option Label → List ℕ
label_text address None = []
label_text address (Some l) = (codes " ; " ++ l.name) ++ distance_text (address - l.address)

abbrev pub nearest_text : List Label → ℕ → List ℕ
nearest_text labels address = label_text address (nearest address labels)

-- Lines

-- an instance whose words are read so
unfoldable pub trail_line : FinMap nat_cmp ℕ → List Label → Option Instr → Instance → List ℕ
trail_line image labels row x =
    place_text x ++ instruction_text image x.pc row ++ nearest_text labels (2 * x.pc) ++ codes "\n"

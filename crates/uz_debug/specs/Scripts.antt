-- The text of a script: lines that end in LF or CRLF, each blank or a command, whose words stand apart by spaces and tabs.
use Rattle.std.specs.Prelude.{◌≡◌, ◌≢◌, ℕ, Bool, true, false, if◌then◌else◌, nat_lt, List, [], ◌∷◌, length}
use Rattle.std.specs.Prelude.{filter, codes, bytes_eq, Option, Some, None, option_map}
use Rattle.std.specs.List.{slice_split}
use Rattle.uz_hex.specs.Numbers.{number_within}
use Rattle.uz_pads.specs.ItemTexts.{IsFirstFaulty, IsText}
use Rattle.uz_debug.specs.declared.command.Command.{Command}
use Rattle.uz_debug.specs.declared.command.Command.TheVariants.{Step, Run, Back, Break, Clear, Save, Load, Show, Mem}
use Rattle.uz_debug.specs.declared.script_lines.Line.{Line}
use Rattle.uz_debug.specs.declared.script_lines.Line.TheVariants as line
use Rattle.uz_debug.specs.declared.errors.ScriptWhy.{ScriptWhy}
use Rattle.uz_debug.specs.declared.errors.ScriptWhy.TheVariants.{Word, Number, Count, Memory}
use Rattle.uz_debug.specs.Sessions.{IsInRange}
use Rattle.uz_hex.specs.Lines.{is_blank}

-- One line

abbrev pub has_bytes : List ℕ → Bool
has_bytes word = nat_lt 0 (length word)

abbrev pub words_of : List ℕ → List (List ℕ)
words_of line = filter has_bytes (slice_split is_blank line)

abbrev pub turns_in : List ℕ → Option ℕ
turns_in word = number_within 1 100000001 word

abbrev pub address_in : List ℕ → Option ℕ
address_in word = number_within 0 32768 word

abbrev pub slot_in : List ℕ → Option ℕ
slot_in word = number_within 0 10 word

abbrev pub both_numbers : Option ℕ → Option ℕ → Option Command
both_numbers (Some at) (Some count) = Some (Mem at count)
both_numbers at count = None

abbrev pub mem_in : List ℕ → List ℕ → Option Command
mem_in at count = both_numbers (number_within 0 65536 at) (number_within 1 17 count)

-- a command whose number is read, or a faulty number
abbrev pub line_in : Option Command → Line
line_in (Some command) = line.Command command
line_in None = line.Faulty Number

-- a command with one number
abbrev pub one_number_in : List ℕ → List ℕ → Line
one_number_in verb word =
    if bytes_eq verb (codes "step") then line_in (option_map Step (turns_in word)) else
    if bytes_eq verb (codes "run") then line_in (option_map Run (turns_in word)) else
    if bytes_eq verb (codes "back") then line_in (option_map Back (turns_in word)) else
    if bytes_eq verb (codes "break") then line_in (option_map Break (address_in word)) else
    if bytes_eq verb (codes "clear") then line_in (option_map Clear (address_in word)) else
    if bytes_eq verb (codes "save") then line_in (option_map Save (slot_in word)) else
    if bytes_eq verb (codes "load") then line_in (option_map Load (slot_in word)) else line.Faulty Word

abbrev pub one_word_in : List ℕ → Line
one_word_in verb = if bytes_eq verb (codes "show") then line.Command Show else line.Faulty Word

-- a command with two numbers
abbrev pub two_numbers_in : List ℕ → List ℕ → List ℕ → Line
two_numbers_in verb at count = if bytes_eq verb (codes "mem") then line_in (mem_in at count) else line.Faulty Word

-- what words are: nothing, a command, or faulty, where an unknown command or another count of words comes first
abbrev pub kind_in : List (List ℕ) → Line
kind_in [] = line.Blank
kind_in (verb ∷ []) = one_word_in verb
kind_in (verb ∷ word ∷ []) = one_number_in verb word
kind_in (verb ∷ at ∷ count ∷ []) = two_numbers_in verb at count
kind_in words = line.Faulty Word

abbrev pub kind_of : List ℕ → Line
kind_of text = kind_in (words_of text)

-- a command within its ranges, or a fault of the text
abbrev pub IsLineInRange : Line → Type 0
IsLineInRange (line.Command command) = IsInRange command
IsLineInRange (line.Faulty why) = why ≢ Memory
IsLineInRange line.Blank = Unit {0}

-- Many lines

abbrev pub commands_of : Line → List Command
commands_of (line.Command command) = command ∷ []
commands_of other = []

abbrev pub commands_on : List ℕ → List Command
commands_on text = commands_of (kind_of text)

abbrev pub is_well_formed : Line → Bool
is_well_formed (line.Faulty why) = false
is_well_formed other = true

abbrev pub is_good_line : List ℕ → Bool
is_good_line text = is_well_formed (kind_of text)

-- Lines that are each blank or a command, with at most 65,536 commands
abbrev pub IsScript : List (List ℕ) → List Command → Type 0
IsScript = IsText commands_on is_good_line

-- What is wrong with a line, where some commands came before it: it is faulty by itself, or it is command number 65,537
abbrev pub IsFault : Line → ℕ → ScriptWhy → Type 0
IsFault (line.Faulty fault) before why = fault ≡ why
IsFault (line.Command command) before why = (before ≡ 65536) × (why ≡ Count)
IsFault line.Blank before why = ⊥

abbrev pub HasFault : List ℕ → ℕ → ScriptWhy → Type 0
HasFault text before why = IsFault (kind_of text) before why

-- The first faulty line: all lines before it are read, and it has a fault
abbrev pub IsFirstFault : List (List ℕ) → ℕ → ScriptWhy → Type 0
IsFirstFault = IsFirstFaulty commands_on is_good_line HasFault

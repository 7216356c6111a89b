-- Where lines lie, and what names mean: the addresses and symbols that the lines give in order.
--
-- The address of a line is the value of the last `.org` before it plus the bytes of the lines between. The symbols are
-- the predefined names, the labels with their lines' addresses, and the `.equ` names.
use Rattle.std.specs.Prelude.{◌≡◌, ℕ, ◌<◌, ◌≤◌, ◌-◌, ◌^◌, ◌⊎◌, ◌+◌, ◌*◌, ◌%◌, ◌==◌, ◌&&◌, ◌||◌, nat_lt, Bool, true, false, ℤ, pos, not, All}
use Rattle.std.specs.Prelude.{Vec, List, [], ◌∷◌, ◌++◌, length, codes, bytes_eq, drop, Option, Some, None, is_some, is_none, Result, Ok, Err}
use Rattle.std.specs.Prelude.{unsigned_abs, if◌then◌else◌}
use Rattle.std.specs.List.{list_any}
use Rattle.std.specs.Borrow.{Bor}
use Rattle.std.specs.declared.alloc.Global.{Global}
use Rattle.std.specs.FinMap as map
use Rattle.avr_text.specs.declared.tokens.Token.{Token}
use Rattle.avr_text.specs.Names.{NameMap}
use Rattle.avr_asm.specs.declared.directives.Directive.{Directive}
use Rattle.avr_asm.specs.declared.directives.Directive.TheVariants.{Org, Db, Dw, Equ, Start, Lines, Half, Stack, Cell, Fact}
use Rattle.avr_text.specs.declared.errors.AsmWhy.TheVariants as why
use Rattle.avr_asm.specs.declared.errors.AsmError.{AsmError}
use Rattle.avr_asm.specs.declared.layout.Place.{Place}
use Rattle.avr_asm.specs.declared.first_pass.Effect.{Effect}
use Rattle.avr_asm.specs.declared.first_pass.Effect.TheVariants.{Nothing, Move, Define, Take, Wrong}
use Rattle.avr_asm.specs.declared.lines.Action.{Action}
use Rattle.avr_asm.specs.declared.lines.Action.TheVariants as action
use Rattle.avr_text.specs.Faults.{OrFault, ◌>>=◌}
use Rattle.avr_text.specs.Instructions.{pointer_named}
use Rattle.avr_asm.specs.Lines.{content_of, label_of, body_of, action_of, arguments_of, parts_of, is_name, is_equals, first_text}
use Rattle.avr_text.specs.Mnemonics.{words_of}
use Rattle.avr_text.specs.Operands.{register_of, expression, number, name_of}

-- register and pointer names can't be defined
abbrev pub is_reserved : List ℕ → Bool
is_reserved word = is_some (register_of word) || is_some (pointer_named word)

-- a name gets its value once
abbrev pub defined : List ℕ → ℤ → NameMap → OrFault NameMap
defined name value symbols =
    if is_reserved name then Err why.Twice
    else if is_some (map.get symbols name) then Err why.Twice
    else Ok (map.insert symbols name value)

-- the operand is one of two words, in lower case alone
abbrev pub is_word_of : List ℕ → Option (List ℕ) → Bool
is_word_of name None = false
is_word_of name (Some word) = bytes_eq word name

abbrev pub is_word : List ℕ → List ℕ → List Token → Bool
is_word name line tokens = is_word_of name (name_of line tokens)

-- what a directive wants of its operands: their number, and the words that choose
abbrev pub is_start : List ℕ → List (List Token) → Bool
is_start line (w ∷ e ∷ []) = is_word (codes "main") line w || is_word (codes "alone") line w
is_start line other = false

abbrev pub is_cell : List ℕ → List (List Token) → Bool
is_cell line (a ∷ w ∷ lo ∷ hi ∷ []) = is_word (codes "main") line w
is_cell line (a ∷ w ∷ lo ∷ hi ∷ first ∷ []) = is_word (codes "handler") line w
is_cell line other = false

-- what a directive does if it has its operands; else they are wrong
abbrev pub if_shaped : Bool → Effect → Effect
if_shaped shaped effect = if shaped then effect else Wrong

abbrev pub moved : OrFault ℤ → OrFault Effect
moved (Ok to) = Ok (Move (unsigned_abs to))
moved (Err fault) = Err fault

abbrev pub set : OrFault ℤ → OrFault Effect
set (Ok value) = Ok (Define value)
set (Err fault) = Err fault

-- `.org E`: its names have values from earlier lines
abbrev pub org_effect : List ℕ → NameMap → List (List Token) → OrFault Effect
org_effect line symbols (e ∷ []) = moved (number (pos 0) (pos 65536) line symbols e)
org_effect line symbols other = Ok Wrong

-- `.equ NAME = E`: the same
abbrev pub equ_effect : List ℕ → NameMap → List Token → OrFault Effect
equ_effect line symbols (n ∷ e ∷ rest) =
    if is_name n.kind && is_equals e.kind then set (expression line symbols None rest) else Ok Wrong
equ_effect line symbols other = Ok Wrong

-- a fact has four operands, or three where an instruction line follows
abbrev pub is_fact : ℕ → Bool → Bool
is_fact count follows = (count == 4) || ((count == 3) && follows)

-- what a directive does: `.db` takes bytes in pairs and `.dw` words; a hint takes none
abbrev pub directive_effect : Directive → List ℕ → NameMap → List Token → List (List Token) → Bool → OrFault Effect
directive_effect Org line symbols arguments parts follows = org_effect line symbols parts
directive_effect Db line symbols arguments parts follows =
    Ok (if_shaped (nat_lt 0 (length parts)) (Take (length parts + length parts % 2) false))
directive_effect Dw line symbols arguments parts follows = Ok (if_shaped (nat_lt 0 (length parts)) (Take (2 * length parts) false))
directive_effect Equ line symbols arguments parts follows = equ_effect line symbols arguments
directive_effect Start line symbols arguments parts follows = Ok (if_shaped (is_start line parts) Nothing)
directive_effect Lines line symbols arguments parts follows = Ok (if_shaped (length parts == 2) Nothing)
directive_effect Half line symbols arguments parts follows = Ok (if_shaped (length parts == 2) Nothing)
directive_effect Stack line symbols arguments parts follows = Ok (if_shaped (length parts == 4) Nothing)
directive_effect Cell line symbols arguments parts follows = Ok (if_shaped (is_cell line parts) Nothing)
directive_effect Fact line symbols arguments parts follows = Ok (if_shaped (is_fact (length parts) follows) Nothing)

-- what a line does, or the fault that goes before those of its names and places
abbrev pub effect_of : Action → List ℕ → NameMap → List Token → List (List Token) → Bool → OrFault Effect
effect_of action.Empty line symbols arguments parts follows = Ok Nothing
effect_of action.Unknown line symbols arguments parts follows = Err why.Mnemonic
effect_of action.NoDirective line symbols arguments parts follows = Ok Wrong
effect_of (action.Instruction mnemonic) line symbols arguments parts follows = Ok (Take (2 * words_of mnemonic) true)
effect_of (action.Directive directive) line symbols arguments parts follows = directive_effect directive line symbols arguments parts
    follows

-- the next line's address: bytes lie below 65,536, and instructions at even addresses
abbrev pub address_after : Effect → ℕ → OrFault ℕ
address_after Nothing address = Ok address
address_after (Move to) address = Ok to
address_after (Define value) address = Ok address
address_after (Take bytes even) address =
    if nat_lt 65536 (address + bytes) then Err why.Past
    else if even && not (address % 2 == 0) then Err why.Directive
    else Ok (address + bytes)
address_after Wrong address = Err why.Directive

abbrev pub with_symbols : ℕ → OrFault NameMap → OrFault Place
with_symbols address (Ok symbols) = Ok (record { address = address; symbols = symbols })
with_symbols address (Err fault) = Err fault

-- a label's value is its line's address, also before an `.org` of its own line
abbrev pub labelled : Option (List ℕ) → Place → OrFault Place
labelled None place = Ok place
labelled (Some name) place = with_symbols place.address (defined name (pos place.address) place.symbols)

-- an `.equ` name's value is its expression's
abbrev pub named : Effect → List ℕ → Place → OrFault Place
named (Define value) name place = with_symbols place.address (defined name value place.symbols)
named other name place = Ok place

abbrev pub at_address : NameMap → OrFault ℕ → OrFault Place
at_address symbols (Ok address) = Ok (record { address = address; symbols = symbols })
at_address symbols (Err fault) = Err fault

unfoldable pub applied : Option (List ℕ) → List ℕ → Effect → Place → OrFault Place
applied label name effect place = do
  first ← labelled label place
  second ← named effect name first
  at_address second.symbols (address_after effect second.address)

-- the tokens after a line's name, and what the line does
abbrev pub arguments_in : List ℕ → List Token → List Token
arguments_in line tokens = arguments_of (action_of line (body_of tokens)) (body_of tokens)

unfoldable pub effect_in : List ℕ → NameMap → Bool → List Token → OrFault Effect
effect_in line symbols follows tokens =
    effect_of (action_of line (body_of tokens)) line symbols (arguments_in line tokens) (parts_of (arguments_in line tokens)) follows

-- the place after a line; whether an instruction line follows decides on a `.fact` without an address
unfoldable pub after_line : Bool → List ℕ → Place → OrFault Place
after_line follows line place = do
  tokens ← content_of line
  effect ← effect_in line place.symbols follows tokens
  applied (label_of line tokens) (first_text line (arguments_in line tokens)) effect place

-- whether a line is an instruction's
abbrev pub is_instruction : Action → Bool
is_instruction (action.Instruction mnemonic) = true
is_instruction other = false

abbrev pub is_instruction_in : List ℕ → OrFault (List Token) → Bool
is_instruction_in line (Ok tokens) = is_instruction (action_of line (body_of tokens))
is_instruction_in line (Err fault) = false

unfoldable pub is_instruction_line : List ℕ → Bool
is_instruction_line line = is_instruction_in line (content_of line)

-- the addresses of the lines, and the place after them
pub record Layout : Type 0 where
  pub addresses : List ℕ
  pub symbols : NameMap

-- an address in front of the rest's
abbrev pub with_address : ℕ → Result Layout AsmError → Result Layout AsmError
with_address address (Ok layout) = Ok (record { addresses = address ∷ layout.addresses; symbols = layout.symbols })
with_address address (Err fault) = Err fault

abbrev pub at_line : {X : Type 0} → ℕ → OrFault X → (X → Result Layout AsmError) → Result Layout AsmError
at_line k (Ok x) f = f x
at_line k (Err fault) f = Err (record { line = k; why = fault })

-- the lines from the k-th on, the first fault being the least line's
unfoldable pub layout_from : ℕ → Place → List (List ℕ) → Result Layout AsmError
layout_from k place [] = Ok (record { addresses = []; symbols = place.symbols })
layout_from k place (line ∷ lines) =
    at_line k (after_line (list_any is_instruction_line lines) line place)
    (λ next. with_address place.address (layout_from (k + 1) next lines))

-- the predefined names, of which no two are one: I/O addresses as IN, OUT, SBI and their kin take them, and data
-- addresses (ATmega644 data sheet, "Register Summary")
abbrev pub with_value : NameMap → List ℕ → ℤ → NameMap
with_value m name value = if is_none (map.get m name) then map.insert m name value else m

abbrev pub with_values : List (List ℕ × ℤ) → NameMap → NameMap
with_values [] m = m
with_values (n ∷ ns) m = with_values ns (with_value m n.0 n.1)

abbrev pub first_port_names : List (List ℕ × ℤ)
first_port_names =
    (codes "PINA", pos 0) ∷ (codes "DDRA", pos 1) ∷ (codes "PORTA", pos 2) ∷ (codes "PINB", pos 3) ∷ (codes "DDRB", pos 4) ∷ (
      codes "PORTB",
      pos 5,
    ) ∷ []

abbrev pub last_port_names : List (List ℕ × ℤ)
last_port_names =
    (codes "PINC", pos 6) ∷ (codes "DDRC", pos 7) ∷ (codes "PORTC", pos 8) ∷ (codes "PIND", pos 9) ∷ (codes "DDRD", pos 10)
    ∷ (codes "PORTD", pos 11) ∷ []

abbrev pub port_names : List (List ℕ × ℤ)
port_names = first_port_names ++ last_port_names

abbrev pub core_names : List (List ℕ × ℤ)
core_names =
    (codes "TIFR1", pos 0x16) ∷ (codes "GPIOR0", pos 0x1E) ∷ (codes "SPL", pos 0x3D) ∷ (codes "SPH", pos 0x3E) ∷ (codes "SREG", pos 0x3F)
    ∷ []

abbrev pub data_names : List (List ℕ × ℤ)
data_names =
    (codes "TIMSK1", pos 0x6F) ∷ (codes "TCCR1A", pos 0x80) ∷ (codes "TCCR1B", pos 0x81) ∷ (codes "TCNT1L", pos 0x84) ∷ (
      codes "TCNT1H",
      pos 0x85,
    ) ∷
    (codes "OCR1AL", pos 0x88) ∷ (codes "OCR1AH", pos 0x89) ∷ (codes "OCR2A", pos 0xB3) ∷ []

unfoldable pub with_first_ports : NameMap → NameMap
with_first_ports m = with_values first_port_names m

unfoldable pub with_last_ports : NameMap → NameMap
with_last_ports m = with_values last_port_names m

unfoldable pub with_core : NameMap → NameMap
with_core m = with_values core_names m

unfoldable pub with_data : NameMap → NameMap
with_data m = with_values data_names m

abbrev pub predefined : NameMap
predefined = with_data (with_core (with_last_ports (with_first_ports map.empty)))

-- the whole layout of a source's lines
abbrev pub start : Place
start = record { address = 0; symbols = predefined }

abbrev pub layout_of : List (List ℕ) → Result Layout AsmError
layout_of lines = layout_from 1 start lines

-- what a call gave is what the definition says, unless memory ran out
abbrev pub GivesLayout : {X Y : Type 0} → (X → Y) → Result X AsmError → Result Y AsmError → Type 0
GivesLayout view (Ok x) says = says ≡ Ok (view x)
GivesLayout view (Err e) says = (e.why ≡ why.Memory) ⊎ (says ≡ Err e)

-- the number of lines up to the last instruction's
abbrev pub IsLast : List (List ℕ) → ℕ → Type 0
IsLast lines n = (k : ℕ) → nat_lt k n ≡ list_any is_instruction_line (drop k lines)

-- an address that an effect sets lies in the flash or at its end
abbrev pub IsWithin : Effect → Type 0
IsWithin (Move to) = to ≤ 65536
IsWithin other = Unit {0}

-- each line is shorter than a text may be
abbrev pub EachShort : List (Bor (List ℕ)) → Type 0
EachShort lines = All (λ line. length line.now < 2 ^ 32 - 1) lines

-- as the program keeps a layout
abbrev pub seen_layout : (Vec ℕ Global × NameMap) → Layout
seen_layout r = record { addresses = r.0.items; symbols = r.1 }

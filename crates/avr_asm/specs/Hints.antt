-- The hint directives: what each tells the certifier. Numbers fit their fields.
use Rattle.std.specs.Prelude.{ℕ, ◌+◌, ◌/◌, ◌%◌, ◌==◌, ℤ, pos, List, [], ◌∷◌, length, slice_index_or, codes, Option, Some, None, Ok, Err}
use Rattle.std.specs.Prelude.{unsigned_abs, if◌then◌else◌}
use Rattle.avr_text.specs.declared.tokens.Token.{Token}
use Rattle.avr_text.specs.Names.{NameMap}
use Rattle.uz_schedule.specs.declared.kinds.Kind.TheVariants.{Main, Handler, Alone}
use Rattle.avr_asm.specs.declared.directives.Directive.{Directive}
use Rattle.avr_asm.specs.declared.directives.Directive.TheVariants as directive
use Rattle.avr_text.specs.declared.errors.AsmWhy.TheVariants as why
use Rattle.avr_asm.specs.declared.output.Hint.{Hint}
use Rattle.avr_asm.specs.declared.output.Hint.TheVariants as hint
use Rattle.avr_text.specs.declared.pointers.Pointer.{Pointer}
use Rattle.avr_text.specs.declared.pointers.Pointer.TheVariants.{X, Y, Z}
use Rattle.avr_text.specs.Faults.{OrFault}
use Rattle.avr_text.specs.Instructions.{pointer_named}
use Rattle.avr_asm.specs.Layout.{is_word}
use Rattle.avr_text.specs.Operands.{both, name_of, number, register_of}

abbrev pub natural : OrFault ℤ → OrFault ℕ
natural (Ok x) = Ok (unsigned_abs x)
natural (Err fault) = Err fault

-- numbers of 16 and of 8 bits
abbrev pub short : List ℕ → NameMap → List Token → OrFault ℕ
short line symbols tokens = natural (number (pos 0) (pos 65535) line symbols tokens)

abbrev pub byte : List ℕ → NameMap → List Token → OrFault ℕ
byte line symbols tokens = natural (number (pos 0) (pos 255) line symbols tokens)

-- an even byte address as a word address
abbrev pub in_words : OrFault ℕ → OrFault ℕ
in_words (Ok n) = if n % 2 == 0 then Ok (n / 2) else Err why.Range
in_words (Err fault) = Err fault

abbrev pub word_address : List ℕ → NameMap → List Token → OrFault ℕ
word_address line symbols tokens = in_words (short line symbols tokens)

-- a register by its number, and X, Y and Z as 32, 33 and 34
abbrev pub pointer_place : Pointer → ℕ
pointer_place X = 32
pointer_place Y = 33
pointer_place Z = 34

abbrev pub register_or_pointer : Option ℕ → Option Pointer → OrFault ℕ
register_or_pointer (Some n) pointer = Ok n
register_or_pointer None (Some pointer) = Ok (pointer_place pointer)
register_or_pointer None None = Err why.Operand

abbrev pub place_named : Option (List ℕ) → OrFault ℕ
place_named None = Err why.Operand
place_named (Some word) = register_or_pointer (register_of word) (pointer_named word)

abbrev pub place_of : List ℕ → List Token → OrFault ℕ
place_of line tokens = place_named (name_of line tokens)

abbrev pub mapped : {X Y : Type 0} → OrFault X → (X → Y) → OrFault Y
mapped (Ok x) f = Ok (f x)
mapped (Err fault) f = Err fault

abbrev pub start_hint : List ℕ → NameMap → List (List Token) → OrFault Hint
start_hint line symbols (w ∷ at ∷ []) =
    mapped (word_address line symbols at) (λ a. hint.Start (if is_word (codes "main") line w then Main else Alone) a)
start_hint line symbols other = Err why.Directive

abbrev pub lines_hint : List ℕ → NameMap → List (List Token) → OrFault Hint
lines_hint line symbols (lines ∷ fall ∷ []) = mapped (both (short line symbols lines) (short line symbols fall)) (λ p. hint.Lines p.0 p.1)
lines_hint line symbols other = Err why.Directive

abbrev pub half_hint : List ℕ → NameMap → List (List Token) → OrFault Hint
half_hint line symbols (from ∷ to ∷ []) = mapped (both (short line symbols from) (short line symbols to)) (λ p. hint.Half p.0 p.1)
half_hint line symbols other = Err why.Directive

-- an operand by its place; the shape of a directive tells how many there are
abbrev pub part_at : List (List Token) → ℕ → List Token
part_at parts place = slice_index_or parts place []

abbrev pub shorts_at : List ℕ → NameMap → List (List Token) → ℕ → OrFault (ℕ × ℕ)
shorts_at line symbols parts place = both (short line symbols (part_at parts place)) (short line symbols (part_at parts (place + 1)))

abbrev pub bytes_at : List ℕ → NameMap → List (List Token) → ℕ → OrFault (ℕ × ℕ)
bytes_at line symbols parts place = both (byte line symbols (part_at parts place)) (byte line symbols (part_at parts (place + 1)))

abbrev pub stack_hint : List ℕ → NameMap → List (List Token) → OrFault Hint
stack_hint line symbols parts =
    mapped (both (shorts_at line symbols parts 0) (bytes_at line symbols parts 2)) (λ p. hint.Stack p.0.0 p.0.1 p.1.0 p.1.1)

-- main's cells have an address and a range, the handler's a first value too
unfoldable pub ranged : List ℕ → NameMap → List (List Token) → OrFault (ℕ × (ℕ × ℕ))
ranged line symbols parts = both (short line symbols (part_at parts 0)) (bytes_at line symbols parts 2)

abbrev pub main_cell_hint : List ℕ → NameMap → List (List Token) → OrFault Hint
main_cell_hint line symbols parts = mapped (ranged line symbols parts) (λ p. hint.Cell p.0 Main p.1.0 p.1.1 0)

abbrev pub handler_cell_hint : List ℕ → NameMap → List (List Token) → OrFault Hint
handler_cell_hint line symbols parts =
    mapped (both (ranged line symbols parts) (byte line symbols (part_at parts 4))) (λ p. hint.Cell p.0.0 Handler p.0.1.0 p.0.1.1 p.1)

abbrev pub cell_hint : List ℕ → NameMap → List (List Token) → OrFault Hint
cell_hint line symbols parts = if length parts == 4 then main_cell_hint line symbols parts else handler_cell_hint line symbols parts

-- a fact of three operands speaks of the following instruction's word address, one of four names a byte address
abbrev pub fact_at : OrFault ℕ → OrFault ℕ → OrFault (ℕ × ℕ) → OrFault Hint
fact_at at place range = mapped (both at (both place range)) (λ p. hint.Fact p.0 p.1.0 p.1.1.0 p.1.1.1)

abbrev pub fact_address : List ℕ → NameMap → List (List Token) → ℕ → OrFault ℕ
fact_address line symbols parts following = if length parts == 3 then Ok following else word_address line symbols (part_at parts 3)

abbrev pub fact_hint : List ℕ → NameMap → List (List Token) → ℕ → OrFault Hint
fact_hint line symbols parts following =
    fact_at (fact_address line symbols parts following) (place_of line (part_at parts 0)) (shorts_at line symbols parts 1)

-- the hint of a directive, where it is one
abbrev pub hint_of : Directive → List ℕ → NameMap → List (List Token) → ℕ → OrFault (Option Hint)
hint_of directive.Start line symbols parts following = mapped (start_hint line symbols parts) (λ h. Some h)
hint_of directive.Lines line symbols parts following = mapped (lines_hint line symbols parts) (λ h. Some h)
hint_of directive.Half line symbols parts following = mapped (half_hint line symbols parts) (λ h. Some h)
hint_of directive.Stack line symbols parts following = mapped (stack_hint line symbols parts) (λ h. Some h)
hint_of directive.Cell line symbols parts following = mapped (cell_hint line symbols parts) (λ h. Some h)
hint_of directive.Fact line symbols parts following = mapped (fact_hint line symbols parts following) (λ h. Some h)
hint_of other line symbols parts following = Ok None

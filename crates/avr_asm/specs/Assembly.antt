-- What a source assembles to: each line puts out its instruction, its bytes or its hint, at its address.
use Rattle.std.specs.Prelude.{ℕ, ◌+◌, ◌/◌, List, [], ◌∷◌, ◌++◌, Option, Some, None, Result, Ok, Err, if◌then◌else◌}
use Rattle.std.specs.FinMap as map
use Rattle.avr_table.specs.declared.Instr.{Instr}
use Rattle.avr_text.specs.declared.tokens.Token.{Token}
use Rattle.avr_text.specs.Names.{NameMap}
use Rattle.avr_asm.specs.declared.directives.Directive.{Directive}
use Rattle.avr_asm.specs.declared.directives.Directive.TheVariants as directive
use Rattle.avr_asm.specs.declared.errors.AsmError.{AsmError}
use Rattle.avr_asm.specs.declared.lines.Action.{Action}
use Rattle.avr_asm.specs.declared.lines.Action.TheVariants as action
use Rattle.avr_asm.specs.declared.output.Built.{Built}
use Rattle.avr_asm.specs.declared.output.Hint.{Hint}
use Rattle.avr_asm.specs.declared.output.Placed.{Placed}
use Rattle.avr_asm.specs.Emission.{Flash, put, byte_data, word_data, instruction_bytes}
use Rattle.avr_text.specs.Faults.{OrFault, ◌>>=◌}
use Rattle.avr_asm.specs.Hints.{hint_of}
use Rattle.avr_text.specs.Instructions.{instruction_of}
use Rattle.avr_asm.specs.Layout.{Layout, layout_of, arguments_in, is_instruction_line}
use Rattle.avr_asm.specs.Lines.{lines_of, content_of, body_of, action_of, parts_of}

-- the bytes, the instructions with their places, and the hints
pub record Output : Type 0 where
  pub image : Flash
  pub items : List Placed
  pub hints : List Hint

abbrev pub nothing : Output
nothing = record { image = map.empty; items = []; hints = [] }

abbrev pub with_image : Output → OrFault Flash → OrFault Output
with_image out (Ok image) = Ok (record { image = image; items = out.items; hints = out.hints })
with_image out (Err fault) = Err fault

abbrev pub with_item : Output → Placed → OrFault Flash → OrFault Output
with_item out item (Ok image) = Ok (record { image = image; items = out.items ++ item ∷ []; hints = out.hints })
with_item out item (Err fault) = Err fault

-- an instruction of a line at an address
unfoldable pub with_instruction : ℕ → ℕ → Output → Instr → OrFault Output
with_instruction k address out i = with_item out (record { at = address / 2; line = k; instr = i })
    (put address (instruction_bytes i) out.image)

-- bytes of data at an address
unfoldable pub with_data : ℕ → Output → List ℕ → OrFault Output
with_data address out bytes = with_image out (put address bytes out.image)

abbrev pub with_hint : Output → Option Hint → OrFault Output
with_hint out None = Ok out
with_hint out (Some hint) = Ok (record { image = out.image; items = out.items; hints = out.hints ++ hint ∷ [] })

-- a directive's data or hint
abbrev pub with_directive : Directive → List ℕ → NameMap → ℕ → ℕ → List (List Token) → Output → OrFault Output
with_directive directive.Db line symbols address following parts out = byte_data line symbols parts >>= with_data address out
with_directive directive.Dw line symbols address following parts out = word_data line symbols parts >>= with_data address out
with_directive d line symbols address following parts out = hint_of d line symbols parts following >>= with_hint out

-- what a line's action puts out
abbrev pub with_action : Action → List ℕ → NameMap → ℕ → ℕ → ℕ → List (List Token) → Output → OrFault Output
with_action (action.Instruction mnemonic) line symbols k address following parts out =
    instruction_of mnemonic (record { line = line; symbols = symbols; next = address + 2; parts = parts }) >>= with_instruction k address
    out
with_action (action.Directive d) line symbols k address following parts out = with_directive d line symbols address following parts out
with_action other line symbols k address following parts out = Ok out

-- the k-th line, at its address; a `.fact` without an address speaks of the word address that follows
abbrev pub with_tokens : List ℕ → NameMap → ℕ → ℕ → ℕ → Output → List Token → OrFault Output
with_tokens line symbols k address following out tokens =
    with_action (action_of line (body_of tokens)) line symbols k address following (parts_of (arguments_in line tokens)) out

unfoldable pub with_line : List ℕ → NameMap → ℕ → ℕ → ℕ → Output → OrFault Output
with_line line symbols k address following out = content_of line >>= with_tokens line symbols k address following out

-- the word address of the first instruction line of some lines
abbrev pub following : List (List ℕ) → List ℕ → ℕ
following (line ∷ lines) (a ∷ addresses) = if is_instruction_line line then a / 2 else following lines addresses
following lines addresses = 0

abbrev pub at_line : ℕ → OrFault Output → (Output → Result Output AsmError) → Result Output AsmError
at_line k (Ok out) f = f out
at_line k (Err fault) f = Err (record { line = k; why = fault })

-- the lines from the k-th on at their addresses, the first fault being the least line's
unfoldable pub output_from : ℕ → NameMap → Output → List (List ℕ) → List ℕ → Result Output AsmError
output_from k symbols out (line ∷ lines) (a ∷ addresses) =
    at_line k (with_line line symbols k a (following lines addresses) out) (λ next. output_from (k + 1) symbols next lines addresses)
output_from k symbols out lines addresses = Ok out

-- a fault of the layout goes before every fault of the output
abbrev pub output_of : List (List ℕ) → Result Layout AsmError → Result Output AsmError
output_of lines (Ok layout) = output_from 1 layout.symbols nothing lines layout.addresses
output_of lines (Err fault) = Err fault

-- the image, the items and the hints of a source, or its fault
abbrev pub assembly : List ℕ → Result Output AsmError
assembly text = output_of (lines_of text) (layout_of (lines_of text))

-- as the program keeps them
abbrev pub seen_built : Built → Output
seen_built b = record { image = b.image; items = b.items.items; hints = b.hints.items }

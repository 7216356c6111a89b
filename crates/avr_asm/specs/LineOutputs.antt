-- What one line of a source puts out, by the values of all symbols and its address: the bytes of its instruction or of its
-- data, the instruction, or a hint.
use Rattle.std.specs.Prelude.{ℕ, ◌+◌, List, [], Option, Some, None, Ok}
use Rattle.avr_table.specs.declared.Instr.{Instr}
use Rattle.avr_text.specs.declared.tokens.Token.{Token}
use Rattle.avr_text.specs.Names.{NameMap}
use Rattle.avr_asm.specs.declared.directives.Directive.{Directive}
use Rattle.avr_asm.specs.declared.directives.Directive.TheVariants as directive
use Rattle.avr_asm.specs.declared.lines.Action.{Action}
use Rattle.avr_asm.specs.declared.lines.Action.TheVariants as action
use Rattle.avr_asm.specs.declared.output.Hint.{Hint}
use Rattle.avr_asm.specs.Emission.{byte_data, word_data, instruction_bytes}
use Rattle.avr_text.specs.Faults.{OrFault, ◌>>=◌}
use Rattle.avr_asm.specs.Hints.{hint_of, mapped}
use Rattle.avr_text.specs.Instructions.{instruction_of}
use Rattle.avr_asm.specs.Layout.{arguments_in}
use Rattle.avr_asm.specs.Lines.{content_of, body_of, action_of, parts_of}

pub record LineOutput : Type 0 where
  pub bytes : List ℕ
  pub instruction : Option Instr
  pub hint : Option Hint

abbrev pub no_output : LineOutput
no_output = record { bytes = []; instruction = None; hint = None }

abbrev pub instruction_output : Instr → LineOutput
instruction_output i = record { bytes = instruction_bytes i; instruction = Some i; hint = None }

abbrev pub data_output : List ℕ → LineOutput
data_output bytes = record { bytes = bytes; instruction = None; hint = None }

abbrev pub hint_output : Option Hint → LineOutput
hint_output hint = record { bytes = []; instruction = None; hint = hint }

abbrev pub directive_output : Directive → List ℕ → NameMap → ℕ → List (List Token) → OrFault LineOutput
directive_output directive.Db line symbols following parts = mapped (byte_data line symbols parts) data_output
directive_output directive.Dw line symbols following parts = mapped (word_data line symbols parts) data_output
directive_output d line symbols following parts = mapped (hint_of d line symbols parts following) hint_output

-- an instruction's relative target counts from the address after its first word; a `.fact` without an address speaks of the
-- following instruction's word address
abbrev pub action_output : Action → List ℕ → NameMap → ℕ → ℕ → List (List Token) → OrFault LineOutput
action_output (action.Instruction mnemonic) line symbols address following parts =
    mapped (instruction_of mnemonic (record { line = line; symbols = symbols; next = address + 2; parts = parts })) instruction_output
action_output (action.Directive d) line symbols address following parts = directive_output d line symbols following parts
action_output other line symbols address following parts = Ok no_output

abbrev pub tokens_output : List ℕ → NameMap → ℕ → ℕ → List Token → OrFault LineOutput
tokens_output line symbols address following tokens =
    action_output (action_of line (body_of tokens)) line symbols address following (parts_of (arguments_in line tokens))

-- what a line at an address puts out
unfoldable pub line_output : NameMap → ℕ → ℕ → List ℕ → OrFault LineOutput
line_output symbols address following line = content_of line >>= tokens_output line symbols address following

-- The second pass adds to what is there what each line puts out.
use Rattle.std.proofs.Common.{◌≡◌, ℕ, ◌+◌, List, [], ◌++◌, refl, sym, arith, Option, None, Some, Ok, Err, append-nil}
use Rattle.avr_table.specs.declared.Instr.{Instr}
use Rattle.avr_text.specs.declared.tokens.Token.{Token}
use Rattle.avr_text.specs.Names.{NameMap}
use Rattle.avr_asm.specs.declared.directives.Directive.{Directive}
use Rattle.avr_asm.specs.declared.directives.Directive.TheVariants as directive
use Rattle.avr_asm.specs.declared.lines.Action.{Action}
use Rattle.avr_asm.specs.declared.lines.Action.TheVariants as action
use Rattle.avr_asm.specs.declared.output.Hint.{Hint}
use Rattle.avr_asm.specs.declared.output.Placed.{Placed}
use Rattle.avr_asm.specs.Emission.{Flash, put, byte_data, word_data}
use Rattle.avr_text.specs.Faults.{OrFault, ◌>>=◌}
use Rattle.avr_asm.specs.Hints.{hint_of, mapped}
use Rattle.avr_asm.specs.Assembly.{Output, with_instruction, with_data, with_hint, with_directive, with_action, with_line, following}
use Rattle.avr_asm.specs.Relation.{item_of, hint_list}
use Rattle.avr_asm.specs.LineOutputs.{LineOutput, instruction_output, data_output, hint_output, directive_output, action_output}
use Rattle.avr_asm.specs.LineOutputs.{line_output}
use Rattle.std.proofs.lemmas.Bool.Decides.{nat_tests}

-- what is there, with a line's output put at its address
abbrev pub with_output : ℕ → ℕ → Output → LineOutput → OrFault Output
with_output k address out o =
    mapped (put address o.bytes out.image) (λ image. record {
      image = image;
      items = out.items ++ item_of k address o.instruction;
      hints = out.hints ++ hint_list o.hint;
    })

-- nothing more is what was there
same_lists : (out : Output) (image : Flash) (items : List Placed) (hints : List Hint) → items ≡ out.items → hints ≡ out.hints
    → ◌≡◌ {A = OrFault Output} (Ok (record { image = image; items = items; hints = hints }))
    (Ok (record { image = image; items = out.items; hints = out.hints }))
same_lists out image items hints e f = λ i. Ok (record { image = image; items = e i; hints = f i })

unchanged : (out : Output) → ◌≡◌ {A = OrFault Output} (Ok (record { image = out.image; items = out.items ++ []; hints = out.hints ++ [] }))
    (Ok out)
unchanged out = same_lists out out.image (out.items ++ []) (out.hints ++ []) (append-nil out.items) (append-nil out.hints)

item_put : (k address : ℕ) (out : Output) (i : Instr) → with_instruction k address out i ≡ with_output k address out (instruction_output i)
unfolding with_instruction
item_put k address out i = grind (arith, nat_tests, append-nil out.hints)

data_put : (k address : ℕ) (out : Output) (bytes : List ℕ) → with_data address out bytes ≡ with_output k address out (data_output bytes)
unfolding with_data
data_put k address out bytes = grind (arith, nat_tests, same_lists out, append-nil out.items, append-nil out.hints)

hint_put : (k address : ℕ) (out : Output) (hint : Option Hint) → with_hint out hint ≡ with_output k address out (hint_output hint)
hint_put k address out None = sym (unchanged out)
hint_put k address out (Some hint) = cc (append-nil out.items)

-- a step on a value is one on what is made of it
on_mapped : {X : Type 0} (o : OrFault X) (f : X → LineOutput) (g : X → OrFault Output) (h : LineOutput → OrFault Output)
    → ((x : X) → g x ≡ h (f x)) → (o >>= g) ≡ (mapped o f >>= h)
on_mapped (Ok x) f g h e = e x
on_mapped (Err fault) f g h e = refl

directive_put : (d : Directive) (line : List ℕ) (symbols : NameMap) (k address following : ℕ) (parts : List (List Token)) (out : Output)
    → with_directive d line symbols address following parts out ≡ (directive_output d line symbols following parts >>= with_output k address
    out)
directive_put directive.Db line symbols k address following parts out = on_mapped (byte_data line symbols parts) data_output
    (with_data address out) (with_output k address out) (data_put k address out)
directive_put directive.Dw line symbols k address following parts out = on_mapped (word_data line symbols parts) data_output
    (with_data address out) (with_output k address out) (data_put k address out)
directive_put directive.Org line symbols k address following parts out = on_mapped (hint_of directive.Org line symbols parts following)
    hint_output (with_hint out) (with_output k address out) (hint_put k address out)
directive_put directive.Equ line symbols k address following parts out = on_mapped (hint_of directive.Equ line symbols parts following)
    hint_output (with_hint out) (with_output k address out) (hint_put k address out)
directive_put directive.Start line symbols k address following parts out = on_mapped (hint_of directive.Start line symbols parts following)
    hint_output (with_hint out) (with_output k address out) (hint_put k address out)
directive_put directive.Lines line symbols k address following parts out = on_mapped (hint_of directive.Lines line symbols parts following)
    hint_output (with_hint out) (with_output k address out) (hint_put k address out)
directive_put directive.Half line symbols k address following parts out = on_mapped (hint_of directive.Half line symbols parts following)
    hint_output (with_hint out) (with_output k address out) (hint_put k address out)
directive_put directive.Stack line symbols k address following parts out = on_mapped (hint_of directive.Stack line symbols parts following)
    hint_output (with_hint out) (with_output k address out) (hint_put k address out)
directive_put directive.Cell line symbols k address following parts out = on_mapped (hint_of directive.Cell line symbols parts following)
    hint_output (with_hint out) (with_output k address out) (hint_put k address out)
directive_put directive.Fact line symbols k address following parts out = on_mapped (hint_of directive.Fact line symbols parts following)
    hint_output (with_hint out) (with_output k address out) (hint_put k address out)

action_put : (a : Action) (line : List ℕ) (symbols : NameMap) (k address following : ℕ) (parts : List (List Token)) (out : Output)
    → with_action a line symbols k address following parts out ≡ (action_output a line symbols address following parts >>= with_output k
    address out)
action_put (action.Instruction mnemonic) line symbols k address following parts out =
    on_mapped _ instruction_output (with_instruction k address out) (with_output k address out) (item_put k address out)
action_put (action.Directive d) line symbols k address following parts out = directive_put d line symbols k address following parts out
action_put other line symbols k address following parts out = sym (unchanged out)

pub line_put : (line : List ℕ) (symbols : NameMap) (k address following : ℕ) (out : Output)
    → with_line line symbols k address following out ≡ (line_output symbols address following line >>= with_output k address out)
unfolding with_line line_output
line_put line symbols k address following out = grind (arith, nat_tests, action_put)

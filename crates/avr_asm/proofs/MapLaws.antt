-- The labels and the hints' lines of an assembly are those of its statements.
use Rattle.std.proofs.Common.{◌≡◌, ◌∙◌, sym, ap, refl, arith, ℕ, ◌+◌, List, [], ◌∷◌, ◌++◌, length, map, Option, Some, None, Ok, Err}
use Rattle.std.proofs.lemmas.List.{length-append}
use Rattle.avr_text.specs.declared.tokens.Token.{Token}
use Rattle.avr_text.specs.Names.{NameMap}
use Rattle.avr_text.specs.Faults.{OrFault}
use Rattle.avr_asm.specs.declared.directives.Directive.{Directive}
use Rattle.avr_asm.specs.declared.directives.Directive.TheVariants as directive
use Rattle.avr_asm.specs.declared.lines.Action.{Action}
use Rattle.avr_asm.specs.declared.lines.Action.TheVariants as action
use Rattle.avr_asm.specs.declared.output.Hint.{Hint}
use Rattle.avr_asm.specs.Assembly.{Output}
use Rattle.avr_asm.specs.Emission.{byte_data, word_data}
use Rattle.avr_asm.specs.Hints.{mapped, start_hint, lines_hint, half_hint, stack_hint, cell_hint, fact_hint}
use Rattle.avr_asm.specs.Labels.{by_address}
use Rattle.avr_asm.specs.LineOutputs.{LineOutput, hint_output, instruction_output, data_output, directive_output, action_output, no_output}
use Rattle.avr_asm.specs.Lines.{content_of, label_of, body_of, action_of}
use Rattle.avr_asm.specs.Relation.{Statement, IsAssembly, hint_list, hints_of}
use Rattle.avr_asm.specs.SourceMap.{label_at, label_in, line_label, placed_labels, labels_of, labels_in, is_hint_directive, is_hint_action}
use Rattle.avr_asm.specs.SourceMap.{is_hint_in, is_hint_line, if_hint, hint_lines_from, hint_lines_of, number_if, hint_numbers}
use Rattle.avr_asm.proofs.OutcomeLemmas.{ok_same}
use Rattle.avr_asm.proofs.Statements.{Chain, chain_from}
use Rattle.avr_asm.proofs.ExactAssembly.{exact_layout}

-- ---- labels

label_read : (address : ℕ) (line : List ℕ) (tokens : List Token) → content_of line ≡ Ok tokens
    → line_label address line ≡ label_at address (label_of line tokens)
unfolding line_label
label_read address line tokens e = ap (label_in address line) e

all_labels : (symbols : NameMap) (before ss : List Statement) → Chain symbols before ss
    → placed_labels (map (λ s. s.source) ss) (map (λ s. s.address) ss) ≡ labels_in ss
unfolding placed_labels
all_labels symbols before [] chain = refl
all_labels symbols before (s ∷ ss) chain =
    cc (label_read s.address s.source s.tokens chain.0.read, all_labels symbols (before ++ s ∷ []) ss chain.1)

pub labels_are : (text : List ℕ) (out : Output) (is : IsAssembly text out) → labels_of text ≡ by_address (labels_in is.statements)
labels_are text out is =
    cc (exact_layout text out is, is.sources, all_labels is.symbols [] is.statements (chain_from is.symbols [] is.statements is.meanings))

-- ---- hints

none_put : {X : Type 0} (k : ℕ) (r : OrFault X) (f : X → LineOutput) (o : LineOutput) → ((x : X) → (f x).hint ≡ None) → mapped r f ≡ Ok o
    → [] ≡ number_if k o.hint
none_put k (Ok x) f o none e = ap (number_if k) (sym (none x) ∙ ap (λ p. p.hint) (ok_same (f x) o e))
none_put k (Err w) f o none e = absurd (cc)

one_put : (k : ℕ) (r : OrFault Hint) (o : LineOutput) → mapped (mapped r (λ h. Some h)) hint_output ≡ Ok o → k ∷ [] ≡ number_if k o.hint
one_put k (Ok h) o e = ap (λ p. number_if k p.hint) (ok_same (hint_output (Some h)) o e)
one_put k (Err w) o e = absurd (cc)

directive_put : (k : ℕ) (d : Directive) (line : List ℕ) (symbols : NameMap) (next : ℕ) (parts : List (List Token)) (o : LineOutput)
    → directive_output d line symbols next parts ≡ Ok o → if_hint k (is_hint_directive d) ≡ number_if k o.hint
directive_put k directive.Db line symbols next parts o e = none_put k (byte_data line symbols parts) data_output o (λ x. refl) e
directive_put k directive.Dw line symbols next parts o e = none_put k (word_data line symbols parts) data_output o (λ x. refl) e
directive_put k directive.Start line symbols next parts o e = one_put k (start_hint line symbols parts) o e
directive_put k directive.Lines line symbols next parts o e = one_put k (lines_hint line symbols parts) o e
directive_put k directive.Half line symbols next parts o e = one_put k (half_hint line symbols parts) o e
directive_put k directive.Stack line symbols next parts o e = one_put k (stack_hint line symbols parts) o e
directive_put k directive.Cell line symbols next parts o e = one_put k (cell_hint line symbols parts) o e
directive_put k directive.Fact line symbols next parts o e = one_put k (fact_hint line symbols parts next) o e
directive_put k other line symbols next parts o e = ap (λ p. number_if k p.hint) (ok_same (hint_output None) o e)

action_put : (k : ℕ) (a : Action) (line : List ℕ) (symbols : NameMap) (address next : ℕ) (parts : List (List Token)) (o : LineOutput)
    → action_output a line symbols address next parts ≡ Ok o → if_hint k (is_hint_action a) ≡ number_if k o.hint
action_put k (action.Instruction m) line symbols address next parts o e = none_put _ _ instruction_output _ (λ x. refl) e
action_put k (action.Directive d) line symbols address next parts o e = directive_put k d line symbols next parts o e
action_put k other line symbols address next parts o e = ap (λ p. number_if k p.hint) (ok_same no_output o e)

hint_read : (line : List ℕ) (tokens : List Token) → content_of line ≡ Ok tokens
    → is_hint_line line ≡ is_hint_action (action_of line (body_of tokens))
unfolding is_hint_line
hint_read line tokens e = ap (is_hint_in line) e

all_hints : (symbols : NameMap) (before ss : List Statement) (k : ℕ) → k ≡ length before + 1 → Chain symbols before ss
    → hint_lines_from k (map (λ s. s.source) ss) ≡ hint_numbers ss
unfolding hint_lines_from
all_hints symbols before [] k count chain = refl
all_hints symbols before (s ∷ ss) k count chain =
    let rest = hint_lines_from (k + 1) (map (λ (t : Statement). t.source) ss) in
    let number : k ≡ s.number = count ∙ sym chain.0.numbered in
    let more : k + 1 ≡ length (before ++ s ∷ []) + 1 = omega (arith, count, length-append before (s ∷ [])) in
    ap (λ b. if_hint k b ++ rest) (hint_read _ _ chain.0.read) ∙ ap (λ ns. ns ++ rest) (action_put _ _ _ _ _ _ _ _ chain.0.puts)
    ∙ ap (λ n. number_if n s.output.hint ++ rest) number
    ∙ ap (λ ns. number_if s.number s.output.hint ++ ns) (all_hints symbols (before ++ s ∷ []) ss (k + 1) more chain.1)

pub hint_lines_are : (text : List ℕ) (out : Output) (is : IsAssembly text out) → hint_lines_of text ≡ hint_numbers is.statements
hint_lines_are text out is =
    cc (is.sources, all_hints is.symbols [] is.statements 1 refl (chain_from is.symbols [] is.statements is.meanings))

same_length : (n : ℕ) (o : Option Hint) → length (number_if n o) ≡ length (hint_list o)
same_length n None = refl
same_length n (Some h) = refl

all_counted : (ss : List Statement) → length (hint_numbers ss) ≡ length (hints_of ss)
all_counted [] = refl
all_counted (s ∷ ss) = omega (
  arith,
  length-append (number_if s.number s.output.hint) (hint_numbers ss),
  length-append (hint_list s.output.hint) (hints_of ss),
  same_length s.number s.output.hint,
  all_counted ss,
)

pub as_many : (text : List ℕ) (out : Output) (is : IsAssembly text out) → length (hint_lines_of text) ≡ length out.hints
as_many text out is = ap length (hint_lines_are text out is) ∙ all_counted is.statements ∙ sym (ap length is.hints)

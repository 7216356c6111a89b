-- Where the labels of a source lie, and which lines its hints stand on.
use Rattle.std.specs.Prelude.{ℕ, ◌+◌, Bool, true, false, List, [], ◌∷◌, ◌++◌, Option, Some, None, Result, Ok, Err, if◌then◌else◌}
use Rattle.avr_text.specs.declared.tokens.Token.{Token}
use Rattle.avr_text.specs.Faults.{OrFault}
use Rattle.avr_asm.specs.declared.directives.Directive.{Directive}
use Rattle.avr_asm.specs.declared.directives.Directive.TheVariants.{Org, Db, Dw, Equ}
use Rattle.avr_asm.specs.declared.errors.AsmError.{AsmError}
use Rattle.avr_asm.specs.declared.labels.Label.{Label}
use Rattle.avr_asm.specs.declared.lines.Action.{Action}
use Rattle.avr_asm.specs.declared.lines.Action.TheVariants as action
use Rattle.avr_asm.specs.declared.output.Hint.{Hint}
use Rattle.avr_asm.specs.Labels.{by_address}
use Rattle.avr_asm.specs.Layout.{Layout, layout_of}
use Rattle.avr_asm.specs.Lines.{lines_of, content_of, label_of, body_of, action_of}
use Rattle.avr_asm.specs.Relation.{Statement}

-- the label of a line at a byte address
abbrev pub label_at : ℕ → Option (List ℕ) → List Label
label_at address None = []
label_at address (Some name) = record { name = name; address = address } ∷ []

abbrev pub label_in : ℕ → List ℕ → OrFault (List Token) → List Label
label_in address line (Ok tokens) = label_at address (label_of line tokens)
label_in address line (Err fault) = []

unfoldable pub line_label : ℕ → List ℕ → List Label
line_label address line = label_in address line (content_of line)

-- the labels of lines at their addresses, in the order of the lines
unfoldable pub placed_labels : List (List ℕ) → List ℕ → List Label
placed_labels (line ∷ lines) (a ∷ addresses) = line_label a line ++ placed_labels lines addresses
placed_labels lines addresses = []

-- a source none of whose lines can be laid out has none
abbrev pub labels_by : List (List ℕ) → Result Layout AsmError → List Label
labels_by lines (Ok layout) = by_address (placed_labels lines layout.addresses)
labels_by lines (Err fault) = []

-- the labels of a source in order of their addresses, those of one address in the order of the lines; a source that has a fault of
-- addresses and names has none
abbrev pub labels_of : List ℕ → List Label
labels_of text = labels_by (lines_of text) (layout_of (lines_of text))

-- a line that is a hint's
abbrev pub is_hint_directive : Directive → Bool
is_hint_directive Org = false
is_hint_directive Db = false
is_hint_directive Dw = false
is_hint_directive Equ = false
is_hint_directive other = true

abbrev pub is_hint_action : Action → Bool
is_hint_action (action.Directive d) = is_hint_directive d
is_hint_action other = false

abbrev pub is_hint_in : List ℕ → OrFault (List Token) → Bool
is_hint_in line (Ok tokens) = is_hint_action (action_of line (body_of tokens))
is_hint_in line (Err fault) = false

unfoldable pub is_hint_line : List ℕ → Bool
is_hint_line line = is_hint_in line (content_of line)

-- the numbers of the hints' lines, of lines from the k-th on
abbrev pub if_hint : ℕ → Bool → List ℕ
if_hint k hint = if hint then k ∷ [] else []

unfoldable pub hint_lines_from : ℕ → List (List ℕ) → List ℕ
hint_lines_from k [] = []
hint_lines_from k (line ∷ lines) = if_hint k (is_hint_line line) ++ hint_lines_from (k + 1) lines

-- the numbers of a source's lines that are a hint's, from 1, in order
abbrev pub hint_lines_of : List ℕ → List ℕ
hint_lines_of text = hint_lines_from 1 (lines_of text)

-- The same of the statements of an assembly

-- their labels, in the order of the lines
abbrev pub labels_in : List Statement → List Label
labels_in [] = []
labels_in (s ∷ statements) = label_at s.address (label_of s.source s.tokens) ++ labels_in statements

-- the numbers of those that put out a hint
abbrev pub number_if : ℕ → Option Hint → List ℕ
number_if number None = []
number_if number (Some hint) = number ∷ []

abbrev pub hint_numbers : List Statement → List ℕ
hint_numbers [] = []
hint_numbers (s ∷ statements) = number_if s.number s.output.hint ++ hint_numbers statements

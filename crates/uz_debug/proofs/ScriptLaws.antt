-- The lines of a script give one list of commands or one first fault, and not both.
use Rattle.std.proofs.Common.{◌≡◌, ℕ, ◌+◌, ◌≤◌, true, List, length, sym, ◌∙◌, arith}
use Rattle.uz_debug.specs.declared.command.Command.{Command}
use Rattle.uz_debug.specs.declared.script_lines.Line.{Line}
use Rattle.uz_debug.specs.declared.script_lines.Line.TheVariants as line
use Rattle.uz_debug.specs.declared.errors.ScriptWhy.{ScriptWhy}
use Rattle.uz_debug.specs.Scripts.{HasFault, IsFault, IsFirstFault, IsScript, commands_of, commands_on, is_good_line, is_well_formed}
use Rattle.uz_debug.specs.Scripts.{kind_of}
use Rattle.uz_pads.proofs.ItemLaws.{one_faulty, one_text, text_or_faulty}

pub one_list : (lines : List (List ℕ)) (a b : List Command) → IsScript lines a → IsScript lines b → a ≡ b
one_list = one_text commands_on is_good_line

no_fault : (kind : Line) (before after : ℕ) (why : ScriptWhy) → IsFault kind before why → is_well_formed kind ≡ true
    → before + (length (commands_of kind) + after) ≤ 65536 → ⊥
no_fault (line.Faulty fault) before after why wrong good few = absurd cc
no_fault (line.Command command) before after why wrong good few = omega (arith, wrong.0)
no_fault line.Blank before after why wrong good few = wrong

same_why : (kind : Line) (before : ℕ) (v w : ScriptWhy) → IsFault kind before v → IsFault kind before w → v ≡ w
same_why line.Blank before v w a b = absurd a
same_why (line.Command command) before v w a b = a.1 ∙ sym b.1
same_why (line.Faulty fault) before v w a b = sym a ∙ b

pub read_or_faulty : (lines : List (List ℕ)) (commands : List Command) (number : ℕ) (why : ScriptWhy) → IsScript lines commands
    → IsFirstFault lines number why → ⊥
read_or_faulty = text_or_faulty commands_on is_good_line HasFault (λ text. no_fault (kind_of text)) (λ text. same_why (kind_of text))

pub one_fault : (lines : List (List ℕ)) (n m : ℕ) (v w : ScriptWhy) → IsFirstFault lines n v → IsFirstFault lines m w → (n ≡ m) × (v ≡ w)
one_fault = one_faulty commands_on is_good_line HasFault (λ text. no_fault (kind_of text)) (λ text. same_why (kind_of text))

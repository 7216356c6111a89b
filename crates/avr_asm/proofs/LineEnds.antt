-- A line's end: the address after it is as many bytes further on as it puts out.
use Rattle.std.proofs.Common.{◌≡◌, ℕ, ◌+◌, ◌*◌, ◌%◌, ◌<◌, ◌≤◌, Bool, true, false, ◌&&◌, not, cond, List, [], ◌∷◌, length, nat_lt, nat_le}
use Rattle.std.proofs.Common.{refl, sym, ◌∙◌, ap, subst, arith, Option, None, Ok, Err, ◌==◌, ℤ, pos, unsigned_abs}
use Rattle.std.proofs.lemmas.Bool.Decides.{nat_tests}
use Rattle.std.proofs.lemmas.List.{length-append}
use Rattle.avr_table.specs.declared.Instr.{Instr}
use Rattle.avr_table.specs.Pattern.{places}
use Rattle.avr_table.specs.Rows.{row, words_of as words}
use Rattle.avr_text.specs.declared.tokens.Token.{Token}
use Rattle.avr_text.specs.Names.{NameMap}
use Rattle.avr_text.specs.Reading.{is_mark_of}
use Rattle.avr_asm.specs.declared.directives.Directive.{Directive}
use Rattle.avr_asm.specs.declared.directives.Directive.TheVariants as directive
use Rattle.avr_text.specs.declared.errors.AsmWhy.TheVariants as why
use Rattle.avr_text.specs.declared.mnemonics.Mnemonic.{Mnemonic}
use Rattle.avr_asm.specs.declared.first_pass.Effect.{Effect}
use Rattle.avr_asm.specs.declared.first_pass.Effect.TheVariants.{Nothing, Move, Define, Take, Wrong}
use Rattle.avr_asm.specs.declared.lines.Action.{Action}
use Rattle.avr_asm.specs.declared.lines.Action.TheVariants as action
use Rattle.avr_asm.specs.declared.output.Hint.{Hint}
use Rattle.avr_asm.specs.Emission.{bytes_of_number, data_value, with_number, data_from, padded, padded_outcome, byte_data, word_data}
use Rattle.avr_asm.specs.Emission.{instruction_bytes}
use Rattle.avr_text.specs.Faults.{OrFault}
use Rattle.avr_asm.specs.Hints.{hint_of, mapped}
use Rattle.avr_text.specs.Instructions.{instruction_of}
use Rattle.avr_asm.specs.Layout.{moved, set, org_effect, equ_effect, directive_effect, effect_of, address_after}
use Rattle.avr_asm.specs.LineOutputs.{LineOutput, instruction_output, data_output, hint_output, directive_output, action_output}
use Rattle.avr_asm.specs.Lines.{is_name}
use Rattle.avr_text.specs.Mnemonics.{words_of}
use Rattle.avr_text.specs.Operands.{Operands, number, expression}
use Rattle.avr_asm.specs.Relation.{end_by}
use Rattle.avr_asm.proofs.OutcomeLemmas.{ok_same, made}

-- the bytes of data
abbrev wide_size : Bool → ℕ
wide_size false = 1
wide_size true = 2

number_size : (wide : Bool) (x : ℤ) → length (bytes_of_number wide x) ≡ wide_size wide
number_size false x = refl
number_size true x = refl

no_data : (wide : Bool) (line : List ℕ) (symbols : NameMap) (o : OrFault (List ℕ)) (x : OrFault ℤ) (bytes : List ℕ) → with_number wide o
    x ≡ Ok bytes → (sofar : List ℕ) × (o ≡ Ok sofar) × (length bytes ≡ length sofar + wide_size wide)
no_data wide line symbols (Ok sofar) (Ok x) bytes e = (
  sofar,
  refl,
  sym (ap length (ok_same _ _ e)) ∙ length-append sofar (bytes_of_number wide x) ∙ ap (λ n. length sofar + n) (number_size _ _),
)
no_data wide line symbols (Ok sofar) (Err fault) bytes e = absurd cc
no_data wide line symbols (Err fault) (Ok x) bytes e = absurd cc
no_data wide line symbols (Err fault) (Err other) bytes e = absurd cc

data_size : (wide : Bool) (line : List ℕ) (symbols : NameMap) (o : OrFault (List ℕ)) (parts : List (List Token)) (bytes : List ℕ)
    → data_from wide line symbols o parts ≡ Ok bytes
    → (sofar : List ℕ) × (o ≡ Ok sofar) × (length bytes ≡ length sofar + wide_size wide * length parts)
data_size wide line symbols o [] bytes e = (bytes, e, omega arith)
data_size wide line symbols o (part ∷ parts) bytes e =
    grind (
      arith,
      nat_tests,
      data_size wide line symbols (with_number wide o (data_value wide line symbols part)) parts bytes e,
      no_data wide line symbols o (data_value wide line symbols part),
    )

padded_size : (bytes : List ℕ) → length (padded bytes) ≡ length bytes + length bytes % 2
padded_size bytes = grind (arith, nat_tests, length-append bytes (0 ∷ []))

byte_size : (line : List ℕ) (symbols : NameMap) (parts : List (List Token)) (bytes : List ℕ) → byte_data line symbols parts ≡ Ok bytes
    → length bytes ≡ length parts + length parts % 2
byte_size line symbols parts bytes e = by_case (data_from false line symbols (Ok []) parts) refl e
  where
    by_case : (o : OrFault (List ℕ)) → data_from false line symbols (Ok []) parts ≡ o → padded_outcome o ≡ Ok bytes → length bytes ≡ length
        parts + length parts % 2
    by_case (Err fault) is e' = absurd cc
    by_case (Ok front) is e' =
        let d = data_size false line symbols (Ok []) parts front is in
        let nothing : 0 ≡ length d.0 = ap length (ok_same [] d.0 d.1) in
        let count : length front ≡ length parts = omega (arith, d.2, nothing) in
        sym (ap length (ok_same (padded front) bytes e')) ∙ padded_size front ∙ ap (λ n. n + n % 2) count

word_size : (line : List ℕ) (symbols : NameMap) (parts : List (List Token)) (bytes : List ℕ) → word_data line symbols parts ≡ Ok bytes
    → length bytes ≡ 2 * length parts
word_size line symbols parts bytes e =
    let d = data_size true line symbols (Ok []) parts bytes e in
    let nothing : 0 ≡ length d.0 = ap length (ok_same [] d.0 d.1) in
    omega (arith, d.2, nothing)

-- an instruction has as many words as its name says
abbrev pub WordsByName : Type 0
WordsByName = (name : Mnemonic) (operands : Operands) (instr : Instr) → instruction_of name operands ≡ Ok instr → words instr ≡ words_of
    name

-- the bytes of an instruction
code_size : (i : Instr) → length (instruction_bytes i) ≡ 2 * words i
code_size i = grind (arith, nat_tests, nat_le (length (places (row i).pattern)) 16)

-- where the first pass ends a line
take_end : (n : ℕ) (even : Bool) (address next : ℕ) → address_after (Take n even) address ≡ Ok next → address + n ≡ next
take_end n even address next e = by_case (nat_lt 65536 (address + n)) (even && not (address % 2 == 0)) e
  where
    by_case : (past odd : Bool) → cond past (Err why.Past) (cond odd (Err why.Directive) (Ok (address + n))) ≡ Ok next → address + n ≡ next
    by_case true odd e' = absurd cc
    by_case false true e' = absurd cc
    by_case false false e' = ok_same (address + n) next e'

-- the address after a line, and that its bytes end within the flash
abbrev EndsAt : Effect → ℕ → ℕ → List ℕ → Type 0
EndsAt effect address next bytes = (end_by effect address bytes ≡ next) × (0 < length bytes → address + length bytes ≤ 65536)

abbrev TakesNone : Effect → Type 0
TakesNone (Take n even) = ⊥
TakesNone effect = Unit {0}

none_ends : (effect : Effect) (address next : ℕ) (bytes : List ℕ) → TakesNone effect → bytes ≡ [] → address_after effect address ≡ Ok next
    → end_by effect address bytes ≡ next
none_ends (Move to) address next bytes t b e = ok_same to next e
none_ends (Take n even) address next bytes t b e = absurd t
none_ends Wrong address next bytes t b e = absurd cc
none_ends other address next bytes t b e = ap (λ xs. address + length xs) b ∙ omega (arith, ok_same address next e)

none_end : (effect : Effect) (address next : ℕ) (bytes : List ℕ) → TakesNone effect → bytes ≡ [] → address_after effect address ≡ Ok next
    → EndsAt effect address next bytes
none_end effect address next bytes t b e =
    (none_ends effect address next bytes t b e, λ some. absurd (let none : length bytes ≡ 0 = ap length b in omega (arith, none, some)))

take_within : (n : ℕ) (even : Bool) (address next : ℕ) → address_after (Take n even) address ≡ Ok next → address + n ≤ 65536
take_within n even address next e = grind (arith, nat_tests)

some_end : (effect : Effect) (n : ℕ) (even : Bool) (address next : ℕ) (bytes : List ℕ) → Take n even ≡ effect → length bytes ≡ n
    → address_after effect address ≡ Ok next → EndsAt effect address next bytes
some_end effect n even address next bytes is size e =
    grind (arith, nat_tests, take_end n even address next, take_within n even address next)

-- data takes its bytes, or its line has the wrong operands
shaped_end : (shape even : Bool) (n : ℕ) (effect : Effect) (address next : ℕ) (bytes : List ℕ) → ◌≡◌ {A = OrFault Effect}
    (Ok (cond shape (Take n even) Wrong)) (Ok effect) → length bytes ≡ n → address_after effect address ≡ Ok next
    → EndsAt effect address next
    bytes
shaped_end true even n effect address next bytes is size e = some_end _ _ _ _ _ _ (ok_same _ _ is) size e
shaped_end false even n effect address next bytes is size e = grind (arith, nat_tests, ok_same Wrong effect is)

shaped_none : (shape : Bool) (effect : Effect) → ◌≡◌ {A = OrFault Effect} (Ok (cond shape Nothing Wrong)) (Ok effect) → TakesNone effect
shaped_none true effect is = subst TakesNone (ok_same Nothing effect is) tt
shaped_none false effect is = subst TakesNone (ok_same Wrong effect is) tt

moved_none : (o : OrFault ℤ) (effect : Effect) → moved o ≡ Ok effect → TakesNone effect
moved_none (Ok to) effect is = subst TakesNone (ok_same (Move (unsigned_abs to)) effect is) tt
moved_none (Err fault) effect is = absurd cc

set_none : (o : OrFault ℤ) (effect : Effect) → set o ≡ Ok effect → TakesNone effect
set_none (Ok value) effect is = subst TakesNone (ok_same (Define value) effect is) tt
set_none (Err fault) effect is = absurd cc

org_none : (line : List ℕ) (symbols : NameMap) (parts : List (List Token)) (effect : Effect) → org_effect line symbols parts ≡ Ok effect
    → TakesNone effect
org_none line symbols (e ∷ []) effect is = moved_none (number (pos 0) (pos 65536) line symbols e) effect is
org_none line symbols other effect is = subst TakesNone (ok_same Wrong effect is) tt

equ_none : (line : List ℕ) (symbols : NameMap) (arguments : List Token) (effect : Effect) → equ_effect line symbols arguments ≡ Ok effect
    → TakesNone effect
equ_none line symbols (n ∷ e ∷ rest) effect is = by_case (is_name n.kind && is_mark_of 61 e.kind) is
  where
    by_case : (t : Bool) → cond t (set (expression line symbols None rest)) (Ok Wrong) ≡ Ok effect → TakesNone effect
    by_case true is' = set_none (expression line symbols None rest) effect is'
    by_case false is' = subst TakesNone (ok_same Wrong effect is') tt
equ_none line symbols other effect is = subst TakesNone (ok_same Wrong effect is) tt

hint_empty : (o : OrFault (Option Hint)) (out : LineOutput) → mapped o hint_output ≡ Ok out → out.bytes ≡ []
hint_empty o out e = let it = made o hint_output out e in sym (ap (λ (p : LineOutput). p.bytes) it.2)

directive_end : (d : Directive) (line : List ℕ) (known symbols : NameMap) (arguments : List Token) (parts : List (List Token))
    (follows : Bool) (address following next : ℕ) (effect : Effect) (out : LineOutput)
    → directive_effect d line known arguments parts follows ≡ Ok effect → directive_output d line symbols following parts ≡ Ok out
    → address_after effect address ≡ Ok next → EndsAt effect address next out.bytes
directive_end directive.Org line known symbols arguments parts follows address following next effect out is puts e = none_end effect address
    next out.bytes (org_none line known parts effect is) (hint_empty (hint_of directive.Org line symbols parts following) out puts) e
directive_end directive.Equ line known symbols arguments parts follows address following next effect out is puts e = none_end effect address
    next out.bytes (equ_none line known arguments effect is) (hint_empty (hint_of directive.Equ line symbols parts following) out puts) e
directive_end directive.Db line known symbols arguments parts follows address following next effect out is puts e =
    let it = made _ data_output _ puts in
    shaped_end _ _ _ _ _ _ _ is (sym (ap (λ (p : LineOutput). length p.bytes) it.2) ∙ byte_size _ _ _ _ it.1) e
directive_end directive.Dw line known symbols arguments parts follows address following next effect out is puts e =
    let it = made _ data_output _ puts in
    shaped_end _ _ _ _ _ _ _ is (sym (ap (λ (p : LineOutput). length p.bytes) it.2) ∙ word_size _ _ _ _ it.1) e
directive_end other line known symbols arguments parts follows address following next effect out is puts e =
    none_end _ _ _ _ (shaped_none _ _ is) (hint_empty _ _ puts) e

pub line_end : (counts : WordsByName) (a : Action) (line : List ℕ) (known symbols : NameMap) (arguments : List Token)
    (parts : List (List Token)) (follows : Bool) (address following next : ℕ) (effect : Effect) (out : LineOutput)
    → effect_of a line known arguments parts follows ≡ Ok effect → action_output a line symbols address following parts ≡ Ok out
    → address_after effect address ≡ Ok next → EndsAt effect address next out.bytes
line_end counts action.Empty line known symbols arguments parts follows address following next effect out is puts e =
    none_end effect _ _ _ (subst TakesNone (ok_same _ _ is) tt) (sym (ap (λ (p : LineOutput). p.bytes) (ok_same _ _ puts))) e
line_end counts action.Unknown line known symbols arguments parts follows address following next effect out is puts e = absurd cc
line_end counts action.NoDirective line known symbols arguments parts follows address following next effect out is puts e =
    let no : address_after Wrong address ≡ Ok next = ap (λ f. address_after f address) (ok_same Wrong effect is) ∙ e in absurd cc
line_end counts (action.Instruction name) line known symbols arguments parts follows address following next effect out is puts e =
    let it = made _ instruction_output _ puts in
    let size : length out.bytes ≡ 2 * words_of name = sym (ap (λ (p : LineOutput). length p.bytes) it.2) ∙ code_size it.0 ∙ ap (λ n. 2 * n)
    (counts name (record { line = line; symbols = symbols; next = address + 2; parts = parts }) it.0 it.1) in
    some_end _ _ _ _ _ _ (ok_same _ _ is) size e
line_end counts (action.Directive d) line known symbols arguments parts follows address following next effect out is puts e =
    directive_end d line known symbols arguments parts follows address following next effect out is puts e

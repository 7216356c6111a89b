-- The first fault of a source, without the passes' steps: which lines have none, what each why means of a line, and which of
-- all faults is the source's.
--
-- A first pass looks at addresses and names, a second one at operands and bytes. A fault of the first pass, on whatever line,
-- goes before every fault of the second. In a pass the least line is named, and in a line the fault of the least number.
use Rattle.std.specs.Prelude.{◌≡◌, ℕ, ◌+◌, ◌%◌, ◌<◌, ◌≤◌, ◌⊎◌, Bool, true, ℤ, pos, List, [], ◌∷◌, ◌++◌, map, length, Some, None}
use Rattle.std.specs.Prelude.{Result, Ok, Err}
use Rattle.std.specs.List.{list_any}
use Rattle.std.specs.FinMap.{get, from_entries}
use Rattle.avr_text.specs.declared.tokens.Token.{Token}
use Rattle.avr_text.specs.Names.{NameMap}
use Rattle.avr_text.specs.declared.errors.AsmWhy.{AsmWhy}
use Rattle.avr_text.specs.declared.errors.AsmWhy.TheVariants as why
use Rattle.avr_text.specs.Faults.{number_of}
use Rattle.avr_text.specs.Operands.{expression, number}
use Rattle.avr_asm.specs.declared.directives.Directive.TheVariants.{Org, Equ}
use Rattle.avr_asm.specs.declared.first_pass.Effect.{Effect}
use Rattle.avr_asm.specs.declared.first_pass.Effect.TheVariants.{Move, Define, Take, Wrong}
use Rattle.avr_asm.specs.declared.layout.Place.{Place}
use Rattle.avr_asm.specs.declared.lines.Action.{Action}
use Rattle.avr_asm.specs.declared.lines.Action.TheVariants as action
use Rattle.avr_asm.specs.Assembly.{following}
use Rattle.avr_asm.specs.Emission.{Flash}
use Rattle.avr_asm.specs.Layout.{is_reserved, arguments_in, effect_in, is_instruction_line}
use Rattle.avr_asm.specs.LineOutputs.{LineOutput, tokens_output}
use Rattle.avr_asm.specs.Lines.{lines_of, content_of, label_of, body_of, action_of, parts_of, is_name, is_equals, first_text}
use Rattle.avr_asm.specs.Relation.{label_entries, equ_entries, predefined_names, bytes_from}

-- of the whys that stand, the one of the least number
pub record IsLeast (Stands : AsmWhy → Type 0) (w : AsmWhy) : Type 0 where
  pub stands : Stands w
  pub least : (other : AsmWhy) → Stands other → number_of w ≤ number_of other

-- ---- addresses and names

-- a line that was laid out: its byte address, its tokens, and what it does to addresses and names
pub record Laid : Type 0 where
  pub source : List ℕ
  pub address : ℕ
  pub tokens : List Token
  pub effect : Effect

-- the address after a line at an address: that of an `.org`, else as many bytes further on as it takes
abbrev pub end_after : Effect → ℕ → ℕ
end_after (Move to) address = to
end_after (Take bytes even) address = address + bytes
end_after other address = address

abbrev pub end_from : ℕ → List Laid → ℕ
end_from address [] = address
end_from address (l ∷ ls) = end_from (end_after l.effect address) ls

-- the names that lines define: labels with their lines' addresses, `.equ` names with their values
abbrev pub names_in : Laid → List (List ℕ × ℤ)
names_in l = label_entries (label_of l.source l.tokens) l.address ++ equ_entries l.effect
    (first_text l.source (arguments_in l.source l.tokens))

abbrev pub names_by : List Laid → List (List ℕ × ℤ)
names_by [] = []
names_by (l ∷ ls) = names_in l ++ names_by ls

-- the address after some lines, and the names that are predefined or that they define
abbrev pub place_after : List Laid → Place
place_after ls = record { address = end_from 0 ls; symbols = from_entries (predefined_names ++ names_by ls) }

-- a line can be cut into tokens, and something is so of them
abbrev pub InLine : List ℕ → (List Token → Type 0) → Type 0
InLine line says = (tokens : List Token) × (content_of line ≡ Ok tokens) × says tokens

-- the expression of an `.org` has no value from 0 to 65,536, or that of an `.equ` has no value, by the names before it
abbrev pub OrgFault : List ℕ → NameMap → List (List Token) → AsmWhy → Type 0
OrgFault line symbols (e ∷ []) w = number (pos 0) (pos 65536) line symbols e ≡ Err w
OrgFault line symbols other w = ⊥

abbrev pub EquFault : List ℕ → NameMap → List Token → AsmWhy → Type 0
EquFault line symbols (name ∷ equals ∷ rest) w =
    (is_name name.kind ≡ true) × (is_equals equals.kind ≡ true) × (expression line symbols None rest ≡ Err w)
EquFault line symbols other w = ⊥

abbrev pub ValueFault : Action → List ℕ → NameMap → List Token → AsmWhy → Type 0
ValueFault (action.Directive Org) line symbols arguments w = OrgFault line symbols (parts_of arguments) w
ValueFault (action.Directive Equ) line symbols arguments w = EquFault line symbols arguments w
ValueFault other line symbols arguments w = ⊥

abbrev pub LacksValue : List ℕ → NameMap → AsmWhy → Type 0
LacksValue line symbols w = InLine line (λ tokens. ValueFault (action_of line (body_of tokens)) line symbols (arguments_in line tokens) w)

-- a name can't be defined: it is a register's or pointer's, or it has a value already
abbrev pub IsTaken : NameMap → List ℕ → Type 0
IsTaken symbols name = (is_reserved name ≡ true) ⊎ ((value : ℤ) × (get symbols name ≡ Some value))

-- a label can't be defined, or an `.equ` name, which its own line's label takes too
abbrev pub DefinesTaken : Bool → List ℕ → Place → List Token → Type 0
DefinesTaken follows line place tokens =
    ((name : List ℕ) × (label_of line tokens ≡ Some name) × IsTaken place.symbols name)
    ⊎ ((value : ℤ) × (effect_in line place.symbols follows tokens ≡ Ok (Define value))
    × (IsTaken place.symbols (first_text line (arguments_in line tokens))
    ⊎ (label_of line tokens ≡ Some (first_text line (arguments_in line tokens)))))

-- a byte would fall at 65,536 or beyond
abbrev pub TakesTooMuch : Bool → List ℕ → Place → List Token → Type 0
TakesTooMuch follows line place tokens =
    (bytes : ℕ) × (even : Bool) × (effect_in line place.symbols follows tokens ≡ Ok (Take bytes even)) × (65536 < place.address + bytes)

-- a directive is unknown, has the wrong operands, or is a `.fact` without an address that no instruction line follows; or an instruction
-- stands at an odd address
abbrev pub IsMisplaced : Bool → List ℕ → Place → List Token → Type 0
IsMisplaced follows line place tokens =
    (effect_in line place.symbols follows tokens ≡ Ok Wrong)
    ⊎ ((bytes : ℕ) × (effect_in line place.symbols follows tokens ≡ Ok (Take bytes true)) × (place.address % 2 ≡ 1))

-- what each why of the first pass means of a line after a place; whether an instruction line follows decides on a `.fact` without an address
abbrev pub InFirstPass : Bool → List ℕ → Place → AsmWhy → Type 0
InFirstPass follows line place why.Lex = content_of line ≡ Err why.Lex
InFirstPass follows line place why.Mnemonic = InLine line (λ tokens. action_of line (body_of tokens) ≡ action.Unknown)
InFirstPass follows line place why.Operand = LacksValue line place.symbols why.Operand
InFirstPass follows line place why.Range = LacksValue line place.symbols why.Range
InFirstPass follows line place why.Symbol = LacksValue line place.symbols why.Symbol
InFirstPass follows line place why.Twice = InLine line (DefinesTaken follows line place)
InFirstPass follows line place why.Overlap = ⊥
InFirstPass follows line place why.Past = InLine line (TakesTooMuch follows line place)
InFirstPass follows line place why.Directive = InLine line (IsMisplaced follows line place)
InFirstPass follows line place why.Memory = ⊥

-- a line that was laid out after others, and has no fault of the first pass
pub record IsLaid (front : List Laid) (l : Laid) (follows : Bool) : Type 0 where
  pub located : l.address ≡ end_from 0 front
  pub read : content_of l.source ≡ Ok l.tokens
  pub does : effect_in l.source (place_after front).symbols follows l.tokens ≡ Ok l.effect
  pub sound : (w : AsmWhy) → ¬ InFirstPass follows l.source (place_after front) w

-- each of some lines is one, with these lines after them
abbrev pub AreLaid : List Laid → List Laid → List (List ℕ) → Type 0
AreLaid front [] after = Unit {0}
AreLaid front (l ∷ ls) after = IsLaid front l (list_any is_instruction_line (map (λ x. x.source) ls ++ after)) × AreLaid (front ++ l ∷ [])
    ls after

-- the first fault of the first pass: of a line after lines that have none
pub record FirstPassFault (lines : List (List ℕ)) (n : ℕ) (w : AsmWhy) : Type 0 where
  pub before : List Laid
  pub line : List ℕ
  pub after : List (List ℕ)
  pub cut : lines ≡ map (λ l. l.source) before ++ line ∷ after
  pub numbered : n ≡ length before + 1
  pub laid : AreLaid [] before (line ∷ after)
  pub fault : IsLeast (InFirstPass (list_any is_instruction_line after) line (place_after before)) w

-- ---- operands and bytes

-- a line with what it puts out
pub record Filled : Type 0 where
  pub laid : Laid
  pub output : LineOutput

abbrev pub bytes_by : List Filled → List (ℕ × ℕ)
bytes_by [] = []
bytes_by (f ∷ fs) = bytes_from f.laid.address f.output.bytes ++ bytes_by fs

-- what a line puts out by all names; a `.fact` without an address speaks of the first instruction line after it
abbrev pub puts_out : NameMap → Laid → List Laid → Result LineOutput AsmWhy
puts_out symbols l after = tokens_output l.source symbols l.address (following (map (λ x. x.source) after) (map (λ x. x.address) after))
    l.tokens

-- a byte falls where an earlier line placed one
abbrev pub OverlapsEarlier : NameMap → Flash → Laid → List Laid → Type 0
OverlapsEarlier symbols image l after =
    (output : LineOutput) × (puts_out symbols l after ≡ Ok output)
    × (i : ℕ) × (i < length output.bytes) × (byte : ℕ) × (get image (l.address + i) ≡ Some byte)

-- what a why of the second pass means of a line: its operands' fault, or that a byte falls on another
abbrev pub InSecondPass : NameMap → Flash → Laid → List Laid → AsmWhy → Type 0
InSecondPass symbols image l after w = (puts_out symbols l after ≡ Err w) ⊎ ((w ≡ why.Overlap) × OverlapsEarlier symbols image l after)

-- a line that puts something out after others, and has no fault of the second pass
pub record IsFilled (symbols : NameMap) (front : List Filled) (f : Filled) (after : List Laid) : Type 0 where
  pub puts : puts_out symbols f.laid after ≡ Ok f.output
  pub sound : (w : AsmWhy) → ¬ InSecondPass symbols (from_entries (bytes_by front)) f.laid after w

abbrev pub AreFilled : NameMap → List Filled → List Filled → List Laid → Type 0
AreFilled symbols front [] after = Unit {0}
AreFilled symbols front (f ∷ fs) after = IsFilled symbols front f (map (λ x. x.laid) fs ++ after) × AreFilled symbols (front ++ f ∷ []) fs
    after

-- the first fault of the second pass: no line has a fault of the first, and those before this one have none of the second
pub record SecondPassFault (lines : List (List ℕ)) (n : ℕ) (w : AsmWhy) : Type 0 where
  pub before : List Filled
  pub line : Laid
  pub after : List Laid
  pub cut : lines ≡ map (λ l. l.source) (map (λ f. f.laid) before ++ line ∷ after)
  pub numbered : n ≡ length before + 1
  pub laid : AreLaid [] (map (λ f. f.laid) before ++ line ∷ after) []
  pub filled : AreFilled (place_after (map (λ f. f.laid) before ++ line ∷ after)).symbols [] before (line ∷ after)
  pub fault : IsLeast (InSecondPass (place_after (map (λ f. f.laid) before ++ line ∷ after)).symbols (from_entries (bytes_by before)) line
      after) w

-- the first fault of a source
abbrev pub IsFirstFault : List ℕ → ℕ → AsmWhy → Type 0
IsFirstFault text n w = FirstPassFault (lines_of text) n w ⊎ SecondPassFault (lines_of text) n w

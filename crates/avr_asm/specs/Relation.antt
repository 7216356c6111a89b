-- What a source assembles to, without the passes: each line is a statement with its number, its address, what it does and
-- what it puts out, and all names have one value each.
--
-- A line's address is the value of the last `.org` before it plus the lengths of the lines between. The image holds the
-- bytes of the statements at their addresses, and nothing else. The items are the instruction lines in order, and the
-- hints the hint directives in order.
use Rattle.std.specs.Prelude.{◌≡◌, ◌≢◌, ◌↔◌, ℕ, ◌+◌, ◌/◌, Bool, true, false, ℤ, pos, List, [], ◌∷◌, ◌++◌, map, length, All, Option, Some}
use Rattle.std.specs.Prelude.{None, Ok}
use Rattle.std.specs.List.{list_any, Contains, AllPairs}
use Rattle.std.specs.declared.cmp.Ordering.{Ordering}
use Rattle.std.specs.FinMap.{FinMap, get, from_entries}
use Rattle.avr_table.specs.declared.Instr.{Instr}
use Rattle.avr_text.specs.declared.tokens.Token.{Token}
use Rattle.avr_text.specs.Names.{NameMap}
use Rattle.avr_asm.specs.declared.first_pass.Effect.{Effect}
use Rattle.avr_asm.specs.declared.first_pass.Effect.TheVariants.{Move, Define}
use Rattle.avr_asm.specs.declared.output.Hint.{Hint}
use Rattle.avr_asm.specs.declared.output.Placed.{Placed}
use Rattle.avr_asm.specs.Layout.{port_names, core_names, data_names, is_reserved, address_after, arguments_in, effect_in}
use Rattle.avr_asm.specs.Layout.{is_instruction_line}
use Rattle.avr_asm.specs.Lines.{lines_of, content_of, label_of, first_text}
use Rattle.avr_asm.specs.LineOutputs.{LineOutput, tokens_output}
use Rattle.avr_asm.specs.Assembly.{Output, following}

-- a finite map's entries are those of a list, in which each key stands once
pub record IsMapOf {K X : Type 0} {R : K → K → Ordering} (m : FinMap R X) (entries : List (K × X)) : Type 0 where
  pub exact : (key : K) (value : X) → (get m key ≡ Some value) ↔ Contains entries (key, value)
  pub once : AllPairs (λ a b. a.0 ≢ b.0) entries

-- a line of the source with its meaning: its number from 1, its byte address, its tokens, what it does to addresses and
-- names, and what it puts out
pub record Statement : Type 0 where
  pub source : List ℕ
  pub number : ℕ
  pub address : ℕ
  pub tokens : List Token
  pub effect : Effect
  pub output : LineOutput

-- the address after a statement at an address: that of an `.org`, else as many bytes further on as it puts out
abbrev pub end_by : Effect → ℕ → List ℕ → ℕ
end_by (Move to) address bytes = to
end_by other address bytes = address + length bytes

abbrev pub end_of : ℕ → List Statement → ℕ
end_of address [] = address
end_of address (s ∷ statements) = end_of (end_by s.effect address s.output.bytes) statements

-- an `.org`, and how many bytes some statements put out
abbrev pub is_origin : Effect → Bool
is_origin (Move to) = true
is_origin other = false

abbrev pub HaveNoOrigin : List Statement → Type 0
HaveNoOrigin statements = All (λ s. is_origin s.effect ≡ false) statements

abbrev pub length_of : List Statement → ℕ
length_of [] = 0
length_of (s ∷ statements) = length s.output.bytes + length_of statements

-- the names that a statement defines: a label with the statement's address, an `.equ` name with its value
abbrev pub label_entries : Option (List ℕ) → ℕ → List (List ℕ × ℤ)
label_entries None address = []
label_entries (Some name) address = (name, pos address) ∷ []

abbrev pub equ_entries : Effect → List ℕ → List (List ℕ × ℤ)
equ_entries (Define value) name = (name, value) ∷ []
equ_entries other name = []

abbrev pub definitions_in : Statement → List (List ℕ × ℤ)
definitions_in s = label_entries (label_of s.source s.tokens) s.address ++ equ_entries s.effect
    (first_text s.source (arguments_in s.source s.tokens))

abbrev pub definitions_of : List Statement → List (List ℕ × ℤ)
definitions_of [] = []
definitions_of (s ∷ statements) = definitions_in s ++ definitions_of statements

-- with the predefined names
abbrev pub predefined_names : List (List ℕ × ℤ)
predefined_names = port_names ++ (core_names ++ data_names)

abbrev pub names_of : List Statement → List (List ℕ × ℤ)
names_of statements = predefined_names ++ definitions_of statements

-- bytes with their addresses
abbrev pub bytes_from : ℕ → List ℕ → List (ℕ × ℕ)
bytes_from at [] = []
bytes_from at (b ∷ bytes) = (at, b) ∷ bytes_from (at + 1) bytes

abbrev pub bytes_of : List Statement → List (ℕ × ℕ)
bytes_of [] = []
bytes_of (s ∷ statements) = bytes_from s.address s.output.bytes ++ bytes_of statements

-- the instructions with their word addresses and lines
abbrev pub item_of : ℕ → ℕ → Option Instr → List Placed
item_of number address None = []
item_of number address (Some i) = record { at = address / 2; line = number; instr = i } ∷ []

abbrev pub items_of : List Statement → List Placed
items_of [] = []
items_of (s ∷ statements) = item_of s.number s.address s.output.instruction ++ items_of statements

abbrev pub hint_list : Option Hint → List Hint
hint_list None = []
hint_list (Some hint) = hint ∷ []

abbrev pub hints_of : List Statement → List Hint
hints_of [] = []
hints_of (s ∷ statements) = hint_list s.output.hint ++ hints_of statements

-- a statement between those before it and those after it
pub record IsStatement (symbols : NameMap) (before : List Statement) (s : Statement) (after : List Statement) : Type 0 where
  -- lines count from 1
  pub numbered : s.number ≡ length before + 1
  -- it stands where those before it end
  pub located : s.address ≡ end_of 0 before
  -- its tokens are its line's
  pub read : content_of s.source ≡ Ok s.tokens
  -- the names of its `.org` or `.equ` are defined before it
  pub known : effect_in s.source (from_entries (names_of before)) (list_any is_instruction_line (map (λ t. t.source) after)) s.tokens ≡ Ok
      s.effect
  -- and its value is that by all names
  pub does : effect_in s.source symbols (list_any is_instruction_line (map (λ t. t.source) after)) s.tokens ≡ Ok s.effect
  -- its bytes end within the flash, an instruction stands at an even address, and a directive has its operands
  pub fits : address_after s.effect s.address ≡ Ok (end_by s.effect s.address s.output.bytes)
  -- what it puts out is by the values of all names; a `.fact` without an address speaks of the first instruction line after it
  pub puts : tokens_output s.source symbols s.address (following (map (λ t. t.source) after) (map (λ t. t.address) after)) s.tokens ≡ Ok
      s.output

-- each of some statements is one, wherever they are cut
abbrev pub AreStatements : NameMap → List Statement → Type 0
AreStatements symbols statements = (before : List Statement) (s : Statement) (after : List Statement) → statements ≡ before ++ s ∷ after
    → IsStatement symbols before s after

-- what a source assembles to
pub record IsAssembly (text : List ℕ) (built : Output) : Type 0 where
  pub statements : List Statement
  pub symbols : NameMap
  -- the statements are the lines, in order
  pub sources : map (λ s. s.source) statements ≡ lines_of text
  pub meanings : AreStatements symbols statements
  -- the symbols are the predefined names, the labels and the `.equ` names, each defined once
  pub names : IsMapOf symbols (names_of statements)
  -- none that a line defines is a register's or a pointer's
  pub free : All (λ entry. is_reserved entry.0 ≡ false) (definitions_of statements)
  -- the image holds the statements' bytes, no two at one address, and nothing else
  pub image : IsMapOf built.image (bytes_of statements)
  pub items : built.items ≡ items_of statements
  pub hints : built.hints ≡ hints_of statements

-- The order of the faults of a line.
use Rattle.std.specs.Prelude.{◌≡◌, ℕ, ◌⊎◌, nat_lt, Result, Ok, Err, if◌then◌else◌}
use Rattle.avr_text.specs.declared.values.ValueWhy.{ValueWhy}
use Rattle.avr_text.specs.declared.values.ValueWhy.TheVariants.{Form, Unknown, Overflow, ZeroDivisor}
use Rattle.avr_text.specs.declared.errors.AsmWhy.{AsmWhy}
use Rattle.avr_text.specs.declared.errors.AsmWhy.TheVariants.{Lex, Mnemonic, Operand, Range, Symbol, Twice, Overlap, Past, Directive}
use Rattle.avr_text.specs.declared.errors.AsmWhy.TheVariants.{Memory}

abbrev pub number_of : AsmWhy → ℕ
number_of Lex = 1
number_of Mnemonic = 2
number_of Operand = 3
number_of Range = 4
number_of Symbol = 5
number_of Twice = 6
number_of Overlap = 7
number_of Past = 8
number_of Directive = 9
number_of Memory = 10

-- the one with the lesser number
abbrev pub least : AsmWhy → AsmWhy → AsmWhy
least a b = if nat_lt (number_of b) (number_of a) then b else a

-- why a line is refused whose expression has no value
abbrev pub why_of : ValueWhy → AsmWhy
why_of Form = Operand
why_of Unknown = Symbol
why_of Overflow = Range
why_of ZeroDivisor = Range

-- what a step of the definition gives: a value, or the line's fault
abbrev pub OrFault : Type 0 → Type 0
OrFault X = Result X AsmWhy

infixl 10 ◌>>=◌
abbrev pub ◌>>=◌ : {X Y : Type 0} → OrFault X → (X → OrFault Y) → OrFault Y
(Ok x) >>= f = f x
(Err why) >>= f = Err why

-- what a call gave is what the definition says, unless memory ran out
abbrev pub Gives : {X Y : Type 0} → (X → Y) → Result X AsmWhy → OrFault Y → Type 0
Gives view (Ok x) says = says ≡ Ok (view x)
Gives view (Err why) says = (why ≡ Memory) ⊎ (says ≡ Err why)

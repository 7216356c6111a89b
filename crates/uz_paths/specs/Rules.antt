-- The rules that hints obey, one by one, and the first that one of them breaks.
use Rattle.std.specs.Prelude.{◌≡◌, ◌≢◌, ◌⊎◌, ⊤, ℕ, ◌+◌, ◌-◌, ◌<◌, ◌≤◌, true, false, List, [], ◌∷◌, take, drop, length, Option, Some, None}
use Rattle.std.specs.Prelude.{codes, slice_get}
use Rattle.std.specs.Ordering.{nat_cmp}
use Rattle.std.specs.FinMap.{FinMap}
use Rattle.avr_asm.specs.declared.output.Hint.{Hint}
use Rattle.avr_asm.specs.declared.output.Hint.TheVariants.{Start, Lines, Half, Stack, Cell, Fact}
use Rattle.uz_schedule.specs.Limits.{clock_limit, most_lines}
use Rattle.uz_schedule.specs.Schedule.{response_clocks, half_line}
use Rattle.uz_schedule.specs.declared.kinds.Kind.{Kind}
use Rattle.uz_schedule.specs.declared.kinds.Kind.TheVariants.{Handler, Alone}
use Rattle.uz_schedule.specs.declared.kinds.Response.{Response}
use Rattle.uz_paths.specs.declared.rules.Rule.{Rule}
use Rattle.uz_paths.specs.declared.rules.Rule.TheVariants as rule
use Rattle.uz_paths.specs.declared.words.FrameSize.{FrameSize}
use Rattle.uz_paths.specs.Words.{first_start, first_lines, first_stack, is_half, has_cell, cell_count}
use Rattle.uz_paths.specs.Faults.{Reads, starts_main, OffStack}

-- What each rule asks of each kind of hint. It asks nothing of the others.

abbrev pub StartObeys : FinMap nat_cmp ℕ → List Hint → ℕ → Kind → ℕ → Rule → Type 0
StartObeys image hints i kind at rule.Instruction = Reads image at
StartObeys image hints i kind at rule.Owner = kind ≢ Handler
StartObeys image hints i kind at rule.Once = first_start (take i hints) ≡ None
StartObeys image hints i kind at other = ⊤

abbrev pub LinesObey : Response → List Hint → ℕ → ℕ → ℕ → Rule → Type 0
LinesObey irq hints i lines fall rule.LineCount = (1 ≤ lines) × (lines ≤ most_lines)
LinesObey irq hints i lines fall rule.Fall = (1 ≤ fall) × (fall < clock_limit)
LinesObey irq hints i lines fall rule.FallAfterEntry = starts_main (first_start hints) ≡ true → response_clocks irq + 3 < fall
LinesObey irq hints i lines fall rule.Once = first_lines (take i hints) ≡ None
LinesObey irq hints i lines fall other = ⊤

-- the frame is the one that is named first
abbrev pub StandsIn : ℕ → Option FrameSize → Type 0
StandsIn line None = ⊤
StandsIn line (Some size) = line < size.lines

abbrev pub FallsInHalf : Option FrameSize → Type 0
FallsInHalf None = ⊤
FallsInHalf (Some size) = size.fall < half_line

abbrev pub NamesNew : List Hint → ℕ → ℕ → Type 0
NamesNew earlier from to = (line : ℕ) → from ≤ line → line ≤ to → is_half line earlier ≡ false

abbrev pub HalfObeys : List Hint → ℕ → ℕ → ℕ → Rule → Type 0
HalfObeys hints i from to rule.Order = from ≤ to
HalfObeys hints i from to rule.InFrame = StandsIn to (first_lines hints)
HalfObeys hints i from to rule.FallInHalf = FallsInHalf (first_lines hints)
HalfObeys hints i from to rule.HalfOnce = NamesNew (take i hints) from to
HalfObeys hints i from to other = ⊤

abbrev pub StackObeys : List Hint → ℕ → ℕ → ℕ → ℕ → ℕ → Rule → Type 0
StackObeys hints i lo hi main handler rule.Order = lo ≤ hi
StackObeys hints i lo hi main handler rule.Ram = (256 ≤ lo) × (hi ≤ 4351)
StackObeys hints i lo hi main handler rule.Depth = (main ≤ 32) × (handler ≤ 32)
StackObeys hints i lo hi main handler rule.Room = main + 2 + handler ≤ hi - lo + 1
StackObeys hints i lo hi main handler rule.Once = first_stack (take i hints) ≡ None
StackObeys hints i lo hi main handler other = ⊤

-- a cell's range
abbrev pub RangeObeys : Kind → ℕ → ℕ → ℕ → Rule → Type 0
RangeObeys owner lo hi first rule.Owner = owner ≢ Alone
RangeObeys owner lo hi first rule.Order = lo ≤ hi
RangeObeys owner lo hi first rule.ByteRange = hi ≤ 255
RangeObeys owner lo hi first rule.FirstValue = owner ≡ Handler → (lo ≤ first) × (first ≤ hi)
RangeObeys owner lo hi first other = ⊤

-- its address
abbrev pub IsOnlyCell : List Hint → ℕ → ℕ → Type 0
IsOnlyCell hints i at = (has_cell at (take i hints) ≡ false) × (has_cell at (drop (i + 1) hints) ≡ false)

abbrev pub PlaceObeys : List Hint → ℕ → ℕ → Rule → Type 0
PlaceObeys hints i at rule.Ram = (256 ≤ at) × (at ≤ 4351)
PlaceObeys hints i at rule.OffStack = OffStack at (first_stack hints)
PlaceObeys hints i at rule.CellCount = cell_count (take i hints) < 16
PlaceObeys hints i at rule.CellOnce = IsOnlyCell hints i at
PlaceObeys hints i at other = ⊤

-- a register or a pair
abbrev pub FactObeys : FinMap nat_cmp ℕ → ℕ → ℕ → ℕ → ℕ → Rule → Type 0
FactObeys image at place lo hi rule.Instruction = Reads image at
FactObeys image at place lo hi rule.Order = lo ≤ hi
FactObeys image at place lo hi rule.Place = place ≤ 34
FactObeys image at place lo hi rule.ByteRange = place < 32 → hi ≤ 255
FactObeys image at place lo hi other = ⊤

-- the hint of index i obeys a rule
abbrev pub Obeys : FinMap nat_cmp ℕ → Response → List Hint → ℕ → Hint → Rule → Type 0
Obeys image irq hints i (Start kind at) r = StartObeys image hints i kind at r
Obeys image irq hints i (Lines lines fall) r = LinesObey irq hints i lines fall r
Obeys image irq hints i (Half from to) r = HalfObeys hints i from to r
Obeys image irq hints i (Stack lo hi main handler) r = StackObeys hints i lo hi main handler r
Obeys image irq hints i (Cell at owner lo hi first) r = RangeObeys owner lo hi first r × PlaceObeys hints i at r
Obeys image irq hints i (Fact at place lo hi) r = FactObeys image at place lo hi r

-- The first that is broken

-- the rules of single hints, in the order in which they are told
abbrev pub hint_rules : List Rule
hint_rules =
    rule.Instruction ∷ rule.Owner ∷ rule.Order ∷ rule.LineCount ∷ rule.Fall ∷ rule.FallAfterEntry ∷ rule.InFrame ∷ rule.FallInHalf
    ∷ rule.HalfOnce ∷ rule.Ram ∷ rule.Depth ∷ rule.Room ∷ rule.OffStack ∷ rule.Place ∷ rule.ByteRange ∷ rule.FirstValue
    ∷ rule.CellCount ∷ rule.CellOnce ∷ rule.Once ∷ []

-- the hint obeys the first n of some rules
abbrev pub ObeysFirst : FinMap nat_cmp ℕ → Response → List Hint → ℕ → Hint → List Rule → ℕ → Type 0
ObeysFirst image irq hints i h rules n = (k : ℕ) (r : Rule) → k < n → slice_get rules k ≡ Some r → Obeys image irq hints i h r

-- of some rules this is the first that the hint of index i breaks
pub record IsBroken (image : FinMap nat_cmp ℕ) (irq : Response) (hints : List Hint) (i : ℕ) (h : Hint) (rules : List Rule) (r : Rule)
    : Type 0 where
  pub place : ℕ
  pub there : slice_get rules place ≡ Some r
  pub broken : Obeys image irq hints i h r → ⊥
  pub before : ObeysFirst image irq hints i h rules place

-- of start, lines and stack the first that no hint names
abbrev pub missing : Option Rule → Option Rule → Option Rule → Option Rule
missing (Some r) lines stack = Some r
missing None (Some r) stack = Some r
missing None None stack = stack

abbrev pub unless_named : {X : Type 0} → Rule → Option X → Option Rule
unless_named r None = Some r
unless_named r (Some x) = None

abbrev pub missing_in : List Hint → Option Rule
missing_in hints =
    missing (unless_named rule.HasStart (first_start hints)) (unless_named rule.HasLines (first_lines hints))
    (unless_named rule.HasStack (first_stack hints))

-- a hint of some index breaks its rule first
pub record BreaksFirst (image : FinMap nat_cmp ℕ) (irq : Response) (hints : List Hint) (index : ℕ) (r : Rule) : Type 0 where
  pub hint : Hint
  pub there : slice_get hints index ≡ Some hint
  pub first : IsBroken image irq hints index hint hint_rules r

-- at the index of a hint, the rule that it breaks first; at their number, the first kind that is missing
abbrev pub IsRuleAt : FinMap nat_cmp ℕ → Response → List Hint → ℕ → Rule → Type 0
IsRuleAt image irq hints index r = BreaksFirst image irq hints index r ⊎ ((index ≡ length hints) × (missing_in hints ≡ Some r))

-- none at an index
pub record NoRuleAt (image : FinMap nat_cmp ℕ) (irq : Response) (hints : List Hint) (index : ℕ) : Type 0 where
  pub obeyed : (h : Hint) → slice_get hints index ≡ Some h → ObeysFirst image irq hints index h hint_rules 19
  pub named : index ≡ length hints → missing_in hints ≡ None

-- what is said of one that breaks it
unfoldable pub words_of : Rule → List ℕ
words_of rule.Instruction = codes "no instruction stands at its address"
words_of rule.Owner = codes "the part of the program that it names can't have such a hint"
words_of rule.Order = codes "its range ends before it begins"
words_of rule.LineCount = codes "the number of lines isn't from 1 to 525"
words_of rule.Fall = codes "the clock of the fall isn't from 1 to 1819"
words_of rule.FallAfterEntry = codes "the fall doesn't come after each clock at which the handler's first instruction may begin"
words_of rule.InFrame = codes "its last line isn't a line of the frame, whose lines count from 0"
words_of rule.FallInHalf = codes "the clock of the fall in .lines isn't below 910, the length of half a line"
words_of rule.HalfOnce = codes "an earlier .half names one of its lines"
words_of rule.Ram = codes "it doesn't lie in RAM, whose addresses are 256 to 4351"
words_of rule.Depth = codes "main or the handler may push more than 32 bytes"
words_of rule.Room = codes "the stack is too small for what main and the handler push and a return address of 2 bytes"
words_of rule.OffStack = codes "its address lies on the stack"
words_of rule.Place = codes "it is of no register and no pointer"
words_of rule.ByteRange = codes "its range goes above 255, the greatest value of a byte"
words_of rule.FirstValue = codes "the handler's first value isn't in its range"
words_of rule.CellCount = codes "16 cells stand before it, and there can't be more"
words_of rule.CellOnce = codes "another .cell has its address"
words_of rule.Once = codes "an earlier line has the same directive, which may stand once"
words_of rule.HasStart = codes "there is no .start"
words_of rule.HasLines = codes "there is no .lines"
words_of rule.HasStack = codes "there is no .stack"

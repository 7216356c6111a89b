-- Which hints are at fault. The limits are those of a certificate's text.
use Rattle.std.specs.Prelude.{◌≡◌, ◌≢◌, ◌⊎◌, ⊤, ℕ, ◌+◌, ◌-◌, ◌<◌, ◌≤◌, Bool, true, false, List, take, drop, length, Option, Some, None}
use Rattle.std.specs.Prelude.{slice_get}
use Rattle.std.specs.Ordering.{nat_cmp}
use Rattle.std.specs.FinMap.{FinMap}
use Rattle.avr_table.specs.declared.Instr.{Instr}
use Rattle.avr_asm.specs.declared.output.Hint.{Hint}
use Rattle.avr_asm.specs.declared.output.Hint.TheVariants.{Start, Lines, Half, Stack, Cell, Fact}
use Rattle.uz_schedule.specs.Limits.{clock_limit, most_lines}
use Rattle.uz_schedule.specs.Schedule.{response_clocks, half_line}
use Rattle.uz_schedule.specs.declared.kinds.Kind.{Kind}
use Rattle.uz_schedule.specs.declared.kinds.Kind.TheVariants.{Handler, Alone}
use Rattle.uz_schedule.specs.declared.kinds.Response.{Response}
use Rattle.uz_transfer.specs.Kinds.{is_main}
use Rattle.uz_transfer.specs.Step.{IsReadAt}
use Rattle.uz_paths.specs.declared.words.Beginning.{Beginning}
use Rattle.uz_paths.specs.declared.words.FrameSize.{FrameSize}
use Rattle.uz_paths.specs.declared.words.StackRegion.{StackRegion}
use Rattle.uz_paths.specs.Words.{first_start, first_lines, first_stack, is_half, has_cell, cell_count}

-- What is asked of each kind of hint

-- a row of the instruction table reads the words at this word address of the flash
pub record Reads (image : FinMap nat_cmp ℕ) (at : ℕ) : Type 0 where
  pub within : at < 32768
  pub row : Instr
  pub reads : IsReadAt image at (Some row)

-- main or alone, at an instruction, and the first start
pub record StartFine (image : FinMap nat_cmp ℕ) (hints : List Hint) (i : ℕ) (kind : Kind) (at : ℕ) : Type 0 where
  pub reads : Reads image at
  pub enters : kind ≢ Handler
  pub first : first_start (take i hints) ≡ None

abbrev pub starts_main : Option Beginning → Bool
starts_main None = false
starts_main (Some start) = is_main start.kind

-- within limits, with a fall above every clock at which the handler's first instruction may begin, where runs enter main; and the first
-- lines
pub record LinesFine (irq : Response) (hints : List Hint) (i lines fall : ℕ) : Type 0 where
  pub some : 1 ≤ lines
  pub few : lines ≤ most_lines
  pub fall_some : 1 ≤ fall
  pub fall_in_line : fall < clock_limit
  pub above : starts_main (first_start hints) ≡ true → response_clocks irq + 3 < fall
  pub first : first_lines (take i hints) ≡ None

-- lines up to this one stand in the frame, and its fall is a clock of half a scanline; the lines are those that are named first, and without
-- any nothing is asked
abbrev pub HalvesFit : ℕ → Option FrameSize → Type 0
HalvesFit to None = ⊤
HalvesFit to (Some size) = (to < size.lines) × (size.fall < half_line)

-- lines of the frame in order, none of them named by an earlier hint
pub record HalfFine (hints : List Hint) (i from to : ℕ) : Type 0 where
  pub order : from ≤ to
  pub fits : HalvesFit to (first_lines hints)
  pub apart : (line : ℕ) → from ≤ line → line ≤ to → is_half line (take i hints) ≡ false

-- in RAM, with room for what main and the handler push and a return address; and the first stack
pub record StackFine (hints : List Hint) (i lo hi main handler : ℕ) : Type 0 where
  pub low : 256 ≤ lo
  pub order : lo ≤ hi
  pub high : hi ≤ 4351
  pub main_few : main ≤ 32
  pub handler_few : handler ≤ 32
  pub room : main + 2 + handler ≤ hi - lo + 1
  pub first : first_stack (take i hints) ≡ None

-- the stack is the one that is named first
abbrev pub OffStack : ℕ → Option StackRegion → Type 0
OffStack at None = ⊤
OffStack at (Some s) = (at < s.lo) ⊎ (s.hi < at)

-- a cell of main or of the handler, whose first value lies in its range
pub record CellRangeFine (owner : Kind) (lo hi first : ℕ) : Type 0 where
  pub order : lo ≤ hi
  pub byte : hi ≤ 255
  pub owned : owner ≢ Alone
  pub within : owner ≡ Handler → (lo ≤ first) × (first ≤ hi)

-- in RAM, off the stack, at an address of its own, and not the 17th
pub record CellPlaceFine (hints : List Hint) (i at : ℕ) : Type 0 where
  pub low : 256 ≤ at
  pub high : at ≤ 4351
  pub off_stack : OffStack at (first_stack hints)
  pub few : cell_count (take i hints) < 16
  pub apart_before : has_cell at (take i hints) ≡ false
  pub apart_after : has_cell at (drop (i + 1) hints) ≡ false

pub record CellFine (hints : List Hint) (i at : ℕ) (owner : Kind) (lo hi first : ℕ) : Type 0 where
  pub range : CellRangeFine owner lo hi first
  pub place : CellPlaceFine hints i at

-- of a register (0 to 31) a range of bytes, or of a pair (32 to 34); at an instruction
pub record FactFine (image : FinMap nat_cmp ℕ) (at place lo hi : ℕ) : Type 0 where
  pub reads : Reads image at
  pub order : lo ≤ hi
  pub there : place ≤ 34
  pub byte : place < 32 → hi ≤ 255

-- nothing is at fault with the hint of index i
abbrev pub IsFine : FinMap nat_cmp ℕ → Response → List Hint → ℕ → Hint → Type 0
IsFine image irq hints i (Start kind at) = StartFine image hints i kind at
IsFine image irq hints i (Lines lines fall) = LinesFine irq hints i lines fall
IsFine image irq hints i (Half from to) = HalfFine hints i from to
IsFine image irq hints i (Stack lo hi main handler) = StackFine hints i lo hi main handler
IsFine image irq hints i (Cell at owner lo hi first) = CellFine hints i at owner lo hi first
IsFine image irq hints i (Fact at place lo hi) = FactFine image at place lo hi

-- What is told of hints

-- nothing is at fault with the hints before this index
abbrev pub FineBefore : FinMap nat_cmp ℕ → Response → List Hint → ℕ → Type 0
FineBefore image irq hints n = (i : ℕ) (h : Hint) → i < n → slice_get hints i ≡ Some h → IsFine image irq hints i h

-- the hint of this index is the first that is at fault
pub record FirstFault (image : FinMap nat_cmp ℕ) (irq : Response) (hints : List Hint) (index : ℕ) : Type 0 where
  pub hint : Hint
  pub there : slice_get hints index ≡ Some hint
  pub faulty : IsFine image irq hints index hint → ⊥
  pub before : FineBefore image irq hints index

-- nothing is at fault with any, and start, lines or stack are missing; the index is the number of hints
pub record IsMissing (image : FinMap nat_cmp ℕ) (irq : Response) (hints : List Hint) (index : ℕ) : Type 0 where
  pub all : FineBefore image irq hints (length hints)
  pub past : index ≡ length hints
  pub missing : (first_start hints ≡ None) ⊎ ((first_lines hints ≡ None) ⊎ (first_stack hints ≡ None))

abbrev pub HintRefusal : FinMap nat_cmp ℕ → Response → List Hint → ℕ → Type 0
HintRefusal image irq hints index = FirstFault image irq hints index ⊎ IsMissing image irq hints index

-- What is asked of cells and facts alone

abbrev pub CellPart : List Hint → ℕ → Hint → Type 0
CellPart hints i (Cell at owner lo hi first) = CellFine hints i at owner lo hi first
CellPart hints i other = ⊤

abbrev pub CellsFine : List Hint → Type 0
CellsFine hints = (i : ℕ) (h : Hint) → slice_get hints i ≡ Some h → CellPart hints i h

abbrev pub FactPart : Hint → Type 0
FactPart (Fact at place lo hi) = (lo ≤ hi) × (place ≤ 34) × (place < 32 → hi ≤ 255)
FactPart other = ⊤

abbrev pub FactsFine : List Hint → Type 0
FactsFine hints = (i : ℕ) (h : Hint) → slice_get hints i ≡ Some h → FactPart h

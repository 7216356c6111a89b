-- What hints say that aren't at fault.
use Rattle.std.specs.Prelude.{◌≡◌, ◌≢◌, ◌+◌, ◌<◌, ◌≤◌, true, ℕ, zero, suc, All, List, [], ◌∷◌, map, length, Option, Some, None}
use Rattle.std.specs.Ordering.{nat_cmp}
use Rattle.std.specs.FinMap.{FinMap}
use Rattle.avr_asm.specs.declared.output.Hint.{Hint}
use Rattle.uz_schedule.specs.Ends.{Ends, whole_byte}
use Rattle.uz_schedule.specs.Limits.{clock_limit, most_lines}
use Rattle.uz_schedule.specs.Schedule.{response_clocks}
use Rattle.uz_schedule.specs.Tracked.{tracked}
use Rattle.uz_schedule.specs.WellFormed.{HeadFits, RangeFits, SpansFit}
use Rattle.uz_schedule.specs.declared.kinds.Kind.TheVariants.{Handler}
use Rattle.uz_transfer.specs.Kinds.{is_main}
use Rattle.uz_schedule.specs.declared.kinds.Response.{Response}
use Rattle.uz_schedule.specs.declared.header.Head.{Head}
use Rattle.uz_paths.specs.declared.words.PlaceRange.{PlaceRange}
use Rattle.uz_paths.specs.declared.reading.Reading.{Reading}
use Rattle.uz_paths.specs.Words.{first_start, first_lines, first_stack, first_fact, is_half, length_by}
use Rattle.uz_paths.specs.Faults.{FineBefore}
use Rattle.uz_paths.specs.Cells.{cells_of, first_values}

-- the range of a register that this fact is about; without one it may be any byte
abbrev pub byte_range : Option PlaceRange → Ends
byte_range None = whole_byte
byte_range (Some range) = record { lo = range.lo; hi = range.hi }

-- of registers k on, so many: the range of each first fact at a program counter
abbrev pub ranges_from : List Hint → ℕ → ℕ → ℕ → List Ends
ranges_from hints pc k zero = []
ranges_from hints pc k (suc n) = byte_range (first_fact pc k hints) ∷ ranges_from hints pc (suc k) n

-- the registers at a start
abbrev pub start_registers : List Hint → ℕ → List Ends
start_registers hints pc = ranges_from hints pc 0 32

-- the response, the stack of the hints, and their cells in order of address
pub record IsHeader (irq : Response) (hints : List Hint) (head : Head) : Type 0 where
  pub response : head.irq ≡ irq
  pub stack : first_stack hints ≡ Some (record { lo = head.lo; hi = head.hi; main = head.main; handler = head.handler })
  pub cells : head.cells.items ≡ map (λ t. t.cell) (cells_of hints)

pub record IsReading (image : FinMap nat_cmp ℕ) (irq : Response) (hints : List Hint) (r : Reading) : Type 0 where
  pub fine : FineBefore image irq hints (length hints)
  pub head : IsHeader irq hints r.head
  pub size : first_lines hints ≡ Some r.size
  pub start : first_start hints ≡ Some r.start
  pub registers : r.registers ≡ start_registers hints r.start.pc
  pub firsts : r.firsts.items ≡ first_values (cells_of hints)

-- the lines that have half a scanline's clocks stand in the frame, and the fall is a clock of each line
pub record LengthsFit (hints : List Hint) (r : Reading) : Type 0 where
  pub below : (line : ℕ) → is_half line hints ≡ true → line < r.size.lines
  pub fall : (line : ℕ) → r.size.fall < length_by hints line

-- within the limits of a certificate's text; main is entered only where each entry of the handler comes before the fall
pub record ReadingFits (r : Reading) : Type 0 where
  pub head : HeadFits r.head
  pub some : 1 ≤ r.size.lines
  pub few : r.size.lines ≤ most_lines
  pub fall_some : 1 ≤ r.size.fall
  pub fall_in_line : r.size.fall < clock_limit
  pub above : is_main r.start.kind ≡ true → response_clocks r.head.irq + 3 < r.size.fall
  pub enters : r.start.kind ≢ Handler
  pub pc : r.start.pc < 32768
  pub register_count : length r.registers ≡ 32
  pub registers : All (RangeFits 255) r.registers
  pub firsts : SpansFit (tracked r.head Handler) r.firsts.items

-- The program that a search is told of by hints: where its trails begin, and by what facts it widens.
use Rattle.std.specs.Prelude.{◌≡◌, ℕ, ◌+◌, ◌-◌, ◌==◌, nat_lt, true, false, List, [], ◌∷◌, ◌++◌, ◌<◌, length, map, replicate, Some, slice_get}
use Rattle.std.specs.Prelude.{if◌then◌else◌}
use Rattle.avr_asm.specs.declared.output.Hint.{Hint}
use Rattle.avr_asm.specs.declared.output.Hint.TheVariants.{Fact}
use Rattle.uz_schedule.specs.Ends.{Ends}
use Rattle.uz_schedule.specs.Schedule.{length_of, response_clocks}
use Rattle.uz_schedule.specs.Tracked.{tracked}
use Rattle.uz_schedule.specs.Instances.{entry_instance_at, handler_entry}
use Rattle.uz_schedule.specs.declared.facts.Bit.TheVariants.{Free}
use Rattle.uz_schedule.specs.declared.kinds.Kind.{Kind}
use Rattle.uz_schedule.specs.declared.kinds.Kind.TheVariants.{Main, Handler, Alone}
use Rattle.uz_schedule.specs.declared.kinds.Response.{Response}
use Rattle.uz_schedule.specs.declared.header.Head.{Head}
use Rattle.uz_schedule.specs.declared.states.Entry.{Entry}
use Rattle.uz_schedule.specs.declared.states.Instance.{Instance}
use Rattle.uz_search.specs.declared.program.Program.{Program}
use Rattle.uz_search.specs.declared.widening.Widening.{Widening}
use Rattle.uz_search.specs.declared.widening.Widening.TheVariants.{Register, Pair}
use Rattle.uz_search.specs.Following.{lines_of}
use Rattle.uz_search.specs.Widened.{facts_at}
use Rattle.uz_paths.specs.declared.words.Beginning.{Beginning}
use Rattle.uz_paths.specs.Words.{first_start, first_lines, halves, is_half, length_by}
use Rattle.uz_paths.specs.Cells.{cells_of, first_values}
use Rattle.uz_paths.specs.Reading.{IsHeader, start_registers}

-- Facts

-- places 0 to 31 are registers, 32 to 34 the pairs X, Y and Z
abbrev pub widening_of : ℕ → ℕ → ℕ → Widening
widening_of place lo hi =
    if nat_lt place 32 then Register place (record { lo = lo; hi = hi }) else Pair (place - 32) (record { lo = lo; hi = hi })

abbrev pub hint_facts : ℕ → Hint → List Widening
hint_facts pc (Fact at place lo hi) = if at == pc then widening_of place lo hi ∷ [] else []
hint_facts pc other = []

-- the facts at a program counter, in the order of their hints
abbrev pub facts_for : ℕ → List Hint → List Widening
facts_for pc [] = []
facts_for pc (h ∷ hints) = hint_facts pc h ++ facts_for pc hints

-- Where trails begin

-- the states where runs enter: at the begin of the frame, flags unknown, nothing on the stack, each cell in its own range
abbrev pub entry_with : List Ends → Head → Beginning → ℕ → Entry
entry_with registers head start id = record {
  kind = start.kind;
  id = id;
  pc = start.pc;
  line = 0;
  clock = 0;
  regs = registers;
  flags = replicate 7 Free;
  stack = record { items = [] };
  cells = record { items = map (λ c. c.range) (tracked head start.kind) };
}

-- each register is any byte, or in the range of its first fact there
abbrev pub start_entry : List Hint → Head → Beginning → ℕ → Entry
start_entry hints head start id = entry_with (start_registers hints start.pc) head start id

-- the level of sync is 1
abbrev pub start_instance : List Hint → Head → Beginning → Instance
start_instance hints head start = entry_instance_at (start_entry hints head start 0) 1

-- the handler's first state on line 0, where its interrupt is taken at clock c, with these values of its cells and this OCR1A
abbrev pub first_state : Response → ℕ → List Ends → ℕ → Instance
first_state irq top cells c = handler_entry cells 0 (c + response_clocks irq) 1 top

-- main is interrupted at the clocks 0 to 3
abbrev pub first_states : Kind → Response → ℕ → List Ends → List Instance
first_states Main irq top cells =
    first_state irq top cells 0 ∷ first_state irq top cells 1 ∷ first_state irq top cells 2 ∷ first_state irq top cells 3 ∷ []
first_states Handler irq top cells = []
first_states Alone irq top cells = []

-- each of the handler's cells has its first value, and the timer came to the last clock of the frame's last line
abbrev pub starts_of : Response → List Hint → Head → Beginning → ℕ → List Instance
starts_of irq hints head start lines =
    start_instance hints head start
    ∷ first_states start.kind irq (length_by hints (lines - 1) - 1) (first_values (cells_of hints))

-- Before its events are known a line is of kind 1 where a hint says that it has half a scanline's clocks, else of kind 0
abbrev pub kind_by : List Hint → ℕ → ℕ
kind_by hints line = if is_half line hints then 1 else 0

-- so are these lines, of which there are n
pub record AreKindsBy (hints : List Hint) (n : ℕ) (lines : List ℕ) : Type 0 where
  pub count : length lines ≡ n
  pub each : (line : ℕ) → line < n → slice_get lines line ≡ Some (kind_by hints line)

-- the lines that a hint names are of kind 1, each other one is of the kind that it was of
pub record AreShortened (hint : Hint) (old new : List ℕ) : Type 0 where
  pub count : length new ≡ length old
  pub named : (line : ℕ) → line < length old → halves line hint ≡ true → slice_get new line ≡ Some 1
  pub others : (line : ℕ) → halves line hint ≡ false → slice_get new line ≡ slice_get old line

-- the program that hints tell of. Of splits they say nothing
pub record IsProgramOf (irq : Response) (hints : List Hint) (p : Program) : Type 0 where
  pub start : Beginning
  pub starts_at : first_start hints ≡ Some start
  pub head : IsHeader irq hints p.head
  pub size : first_lines hints ≡ Some (record { lines = lines_of p; fall = p.schedule.fall })
  -- a line that a hint names has half a scanline's clocks, each other one a scanline's
  pub lengths : (l : ℕ) → length_of p.schedule l ≡ length_by hints l
  pub facts : (pc : ℕ) → facts_at p pc ≡ facts_for pc hints
  pub starts : p.starts ≡ starts_of irq hints p.head start (lines_of p)

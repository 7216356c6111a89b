-- The hints of each kind, read off their list.
use Rattle.std.specs.Prelude.{ℕ, suc, ◌==◌, ◌&&◌, ◌||◌, nat_le, Bool, true, false, List, [], ◌∷◌, Option, Some, None, if◌then◌else◌}
use Rattle.avr_asm.specs.declared.output.Hint.{Hint}
use Rattle.avr_asm.specs.declared.output.Hint.TheVariants.{Start, Lines, Half, Stack, Cell, Fact}
use Rattle.uz_schedule.specs.Schedule.{scanline, half_line}
use Rattle.uz_paths.specs.declared.words.Beginning.{Beginning}
use Rattle.uz_paths.specs.declared.words.FrameSize.{FrameSize}
use Rattle.uz_paths.specs.declared.words.StackRegion.{StackRegion}
use Rattle.uz_paths.specs.declared.words.PlaceRange.{PlaceRange}

abbrev pub first_start : List Hint → Option Beginning
first_start [] = None
first_start (Start kind at ∷ hints) = Some (record { kind = kind; pc = at })
first_start (h ∷ hints) = first_start hints

abbrev pub first_lines : List Hint → Option FrameSize
first_lines [] = None
first_lines (Lines lines fall ∷ hints) = Some (record { lines = lines; fall = fall })
first_lines (h ∷ hints) = first_lines hints

-- the hint says that the line has half a scanline's clocks
abbrev pub halves : ℕ → Hint → Bool
halves line (Half from to) = nat_le from line && nat_le line to
halves line h = false

abbrev pub is_half : ℕ → List Hint → Bool
is_half line [] = false
is_half line (h ∷ hints) = halves line h || is_half line hints

-- it says so of some line from one to another
abbrev pub halves_some : ℕ → ℕ → Hint → Bool
halves_some from to (Half first last) = nat_le from to && nat_le from last && nat_le first to && nat_le first last
halves_some from to h = false

abbrev pub has_half : ℕ → ℕ → List Hint → Bool
has_half from to [] = false
has_half from to (h ∷ hints) = halves_some from to h || has_half from to hints

-- the clocks that hints give a line
abbrev pub length_by : List Hint → ℕ → ℕ
length_by hints line = if is_half line hints then half_line else scanline

abbrev pub first_stack : List Hint → Option StackRegion
first_stack [] = None
first_stack (Stack lo hi main handler ∷ hints) = Some (record { lo = lo; hi = hi; main = main; handler = handler })
first_stack (h ∷ hints) = first_stack hints

-- a cell at this address
abbrev pub cell_at : ℕ → Hint → Bool
cell_at address (Cell at owner lo hi first) = at == address
cell_at address h = false

abbrev pub has_cell : ℕ → List Hint → Bool
has_cell address [] = false
has_cell address (h ∷ hints) = cell_at address h || has_cell address hints

abbrev pub cell_hint : Hint → Bool
cell_hint (Cell at owner lo hi first) = true
cell_hint h = false

abbrev pub cell_count : List Hint → ℕ
cell_count [] = 0
cell_count (h ∷ hints) = if cell_hint h then suc (cell_count hints) else cell_count hints

-- the range that a fact gives a place (0 to 31 a register, 32 to 34 the pairs X, Y and Z) at a program counter
abbrev pub range_at : ℕ → ℕ → Hint → Option PlaceRange
range_at pc place (Fact at of lo hi) = if (at == pc) && (of == place) then Some (record { lo = lo; hi = hi }) else None
range_at pc place h = None

abbrev pub or_later : Option PlaceRange → Option PlaceRange → Option PlaceRange
or_later None later = later
or_later (Some range) later = Some range

abbrev pub first_fact : ℕ → ℕ → List Hint → Option PlaceRange
first_fact pc place [] = None
first_fact pc place (h ∷ hints) = or_later (range_at pc place h) (first_fact pc place hints)

-- What a source assembles to where cells of the flash are taken already: its bytes go beside them, and a line one of whose bytes
-- falls on a taken cell is refused as one whose byte falls on an earlier line's.
use Rattle.std.specs.Prelude.{◌≡◌, ℕ, ◌+◌, ◌<◌, List, [], length, Some, None, Result, Ok, Err}
use Rattle.std.specs.FinMap.{get}
use Rattle.avr_asm.specs.Assembly.{Output, output_from}
use Rattle.avr_asm.specs.declared.errors.AsmError.{AsmError}
use Rattle.avr_asm.specs.Emission.{Flash}
use Rattle.avr_asm.specs.Layout.{Layout, layout_of}
use Rattle.avr_asm.specs.Lines.{lines_of}
use Rattle.avr_asm.specs.Relation.{Statement}

-- no line is put out yet
abbrev pub over : Flash → Output
over taken = record { image = taken; items = []; hints = [] }

abbrev pub output_over : Flash → List (List ℕ) → Result Layout AsmError → Result Output AsmError
output_over taken lines (Ok layout) = output_from 1 layout.symbols (over taken) lines layout.addresses
output_over taken lines (Err fault) = Err fault

abbrev pub assembly_over : Flash → List ℕ → Result Output AsmError
assembly_over taken text = output_over taken (lines_of text) (layout_of (lines_of text))

-- a statement places no byte on a taken cell, or it places one
abbrev pub Misses : Flash → Statement → Type 0
Misses taken s = (i : ℕ) → i < length s.output.bytes → get taken (s.address + i) ≡ None

abbrev pub Hits : Flash → Statement → Type 0
Hits taken s = (i : ℕ) × (i < length s.output.bytes) × (byte : ℕ) × (get taken (s.address + i) ≡ Some byte)

-- How a number reads as an instruction: its fixed bits stand, and its letters spell the instruction's numbers.
use Rattle.std.proofs.Common.{◌≡◌, ℕ, sym}
use Rattle.std.specs.Prelude.{IsTrue}
use Rattle.avr_table.specs.declared.Instr.{Instr}
use Rattle.avr_table.specs.Pattern.{stands}
use Rattle.avr_table.specs.Rows.{pattern_of, row, Spells, ReadsAt}

pub reads_at : {n : ℕ} {i : Instr} → IsTrue (stands (pattern_of i) n) → Spells (pattern_of i) n (row i).letters → ReadsAt n i
reads_at fixed letters = record { fixed = fixed; letters = letters }

-- one letter spells its number, and the rest theirs
pub letter : {A B : Type 0} {x y : A} → x ≡ y → B → (y ≡ x) × B
letter e rest = (sym e, rest)

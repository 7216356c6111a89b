-- What a reader of words answers.
use Rattle.std.specs.Prelude.{ℕ, Option, IfSome, IfNone}
use Rattle.avr_table.specs.declared.Instr.{Instr}
use Rattle.avr_table.specs.Rows.{Reads}

-- the instruction that is read at the words, and None where none is
pub record Decoded (first second : ℕ) (answer : Option Instr) : Type 0 where
  pub found : IfSome answer (λ i. Reads first second i)
  pub none : IfNone answer ((i : Instr) → Reads first second i → ⊥)

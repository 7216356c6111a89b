use Rattle.std.proofs.Common.{◌≡◌, ℕ, Option, Some, None, IfSome, IfNone, ap}
use Rattle.avr_table.specs.declared.Instr.{Instr}
use Rattle.avr_table.specs.Rows.{Reads}
use Rattle.avr_decode.proofs.laws.decode_encoded.Goals as goal

-- the one instruction that is read is what is found
only_one : (first second : ℕ) (answer : Option Instr) (i : Instr) → IfSome answer (λ j. Reads first second j) → IfNone answer
    ((j : Instr) → Reads first second j → ⊥) → ((i j : Instr) → Reads first second i → Reads first second j → i ≡ j) → Reads first second i
    → answer ≡ Some i
only_one first second None i found none unique read = absurd (none i read)
only_one first second (Some j) i found none unique read = ap Some (unique j i found read)

pub returns : goal.returns
returns c = only_one c.encode-code.result.first c.encode-code.result.second c.decode.result c.args.i.now c.decode.ensures.found
    c.decode.ensures.none c.decode.ensures.unique c.encode-code.ensures.reads

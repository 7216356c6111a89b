-- What an assembly that is tried says of its source.
use Rattle.std.proofs.Common.{◌≡◌, ℕ, Bool, true, List}
use Rattle.std.specs.Prelude.{IsTrue}
use Rattle.avr_asm.specs.declared.output.Built.{Built}
use Rattle.avr_asm.specs.Assembly.{seen_built}
use Rattle.avr_asm.specs.Relation.{IsAssembly}
use Rattle.uz_proposal.specs.Sources.{IsSilent, PutsOutNothing}

pub silent : (text : List ℕ) (built : Built) (empty : Bool) → IsAssembly text (seen_built built) → (IsTrue empty → IsSilent built)
    → IsTrue empty → PutsOutNothing text
silent text built empty assembly says nothing =
    record { out = seen_built built; assembly = assembly; items = (says nothing).0; bytes = (says nothing).1 }

-- A source that the assembler takes, and for which it puts out no instruction and no byte.
use Rattle.std.specs.Prelude.{◌≡◌, ℕ, List, []}
use Rattle.std.specs.FinMap as map
use Rattle.avr_asm.specs.declared.output.Built.{Built}
use Rattle.avr_asm.specs.Assembly.{Output}
use Rattle.avr_asm.specs.Relation.{IsAssembly}

-- the most bytes of a source of hints: what the commands read of a source
abbrev pub most_bytes : ℕ
most_bytes = 1048576

-- nothing but hints
abbrev pub IsSilent : Built → Type 0
IsSilent built = (built.items.items ≡ []) × (map.len built.image ≡ 0)

pub record PutsOutNothing (text : List ℕ) : Type 0 where
  pub out : Output
  pub assembly : IsAssembly text out
  pub items : out.items ≡ []
  pub bytes : map.len out.image ≡ 0

use Rattle.avr_asm.proofs.ExactAssembly.{one_assembly}
use Rattle.avr_asm.proofs.laws.assembly_is_unique.Goals as goal

pub returns : goal.returns
returns c = one_assembly c.name_gives_word_count.ensures

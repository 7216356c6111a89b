use Rattle.avr_asm.proofs.FirstFaults.{assembly_exact}
use Rattle.avr_asm.proofs.laws.assembly_is_exact.Goals as goal

pub returns : goal.returns
returns c = assembly_exact c.value_is_kept.ensures c.name_gives_word_count.ensures

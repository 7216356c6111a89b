use Rattle.avr_asm.proofs.FirstFaults.{fault_exact}
use Rattle.avr_asm.proofs.laws.fault_is_exact.Goals as goal

pub returns : goal.returns
returns c = fault_exact c.name_gives_word_count.ensures

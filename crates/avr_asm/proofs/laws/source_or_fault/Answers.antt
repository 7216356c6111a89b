use Rattle.avr_asm.proofs.FirstFaults.{decided, one_fault, not_both}
use Rattle.avr_asm.proofs.laws.source_or_fault.Goals as goal

pub returns-clause-either : goal.returns-clause-either
returns-clause-either c = decided c.value_is_kept.ensures c.name_gives_word_count.ensures

pub returns-clause-one_fault : goal.returns-clause-one_fault
returns-clause-one_fault c = one_fault c.name_gives_word_count.ensures

pub returns-clause-not_both : goal.returns-clause-not_both
returns-clause-not_both c = not_both c.name_gives_word_count.ensures

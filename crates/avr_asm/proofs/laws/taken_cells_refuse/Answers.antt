use Rattle.avr_asm.proofs.TakenLaws.{first_hit, no_hit}
use Rattle.avr_asm.proofs.laws.taken_cells_refuse.Goals as goal

pub returns-clause-first : goal.returns-clause-first
returns-clause-first c = λ text taken out is before after s cut miss hit.
    first_hit c.name_gives_word_count.ensures text taken out is before s after cut miss hit

pub returns-clause-none : goal.returns-clause-none
returns-clause-none c = λ text taken out is miss. no_hit c.name_gives_word_count.ensures text taken out is miss
